use Rattle.coef_tokens.specs.Code.{tables_of}
use Rattle.coef_tokens.proofs.Turns.{later_place}
use Rattle.coef_tokens.proofs.places.context_of.Goals as goal

pub returns-clause-value : goal.returns-clause-value
returns-clause-value c = λ first reads holds. later_place (tables_of c.args.tables.now) first c.args.place reads c.args.cache.now c.requires.later holds
