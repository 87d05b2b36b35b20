use Rattle.inverse_transforms.proofs.RenamedTables.{adst_8, adst_16}
use Rattle.inverse_transforms.proofs.rows.adst_rows.Goals as goal

pub returns-in-3-clause-same : goal.returns-in-3-clause-same
returns-in-3-clause-same c = rw c.in-3.is adst_8

pub returns-in-4-clause-same : goal.returns-in-4-clause-same
returns-in-4-clause-same c = rw c.in-4.is adst_16
