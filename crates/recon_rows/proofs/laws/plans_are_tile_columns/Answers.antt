use Rattle.recon_rows.proofs.StripPlans.{plan_is, plan_read}
use Rattle.recon_rows.proofs.laws.plans_are_tile_columns.Goals as goal

pub returns-clause-read : goal.returns-clause-read
returns-clause-read c = plan_read

pub returns-clause-same : goal.returns-clause-same
returns-clause-same c = plan_is
