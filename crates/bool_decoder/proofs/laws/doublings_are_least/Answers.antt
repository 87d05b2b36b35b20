use Rattle.bool_decoder.proofs.Doublings.{doublings-enough, doublings-least}
use Rattle.bool_decoder.proofs.laws.doublings_are_least.Goals as goal

pub returns-clause-enough : goal.returns-clause-enough
returns-clause-enough c = doublings-enough

pub returns-clause-least : goal.returns-clause-least
returns-clause-least c = doublings-least
