use Rattle.picture_range.proofs.Ranges.{filtered_small, picture_small, raw_small}
use Rattle.picture_range.proofs.laws.samples_are_in_range.Goals as goal

pub returns-clause-raw : goal.returns-clause-raw
returns-clause-raw c = λ put blocks p. raw_small put blocks p

pub returns-clause-filtered : goal.returns-clause-filtered
returns-clause-filtered c = λ f blocks m p small. filtered_small f blocks m p small

pub returns-clause-pictures : goal.returns-clause-pictures
returns-clause-pictures c = λ format film f p. picture_small format film f p
