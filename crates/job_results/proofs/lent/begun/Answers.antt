use Rattle.job_results.proofs.Variants.{not_shown}
use Rattle.job_results.proofs.lent.begun.Goals as goal

pub unreachable-requires : goal.unreachable-requires
unreachable-requires g c = not_shown _ _ c.args.frame c.in-Shows.field-0 c.requires.0 c.in-Shows.ensures c.requires.1
