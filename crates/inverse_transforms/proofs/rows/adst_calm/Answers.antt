use Rattle.inverse_transforms.proofs.CalmTables.{calm_adst_8, calm_adst_16}
use Rattle.inverse_transforms.proofs.rows.adst_calm.Goals as goal

pub returns-in-3-clause-calm : goal.returns-in-3-clause-calm
returns-in-3-clause-calm c = rw c.in-3.is calm_adst_8

pub returns-in-4-clause-calm : goal.returns-in-4-clause-calm
returns-in-4-clause-calm c = rw c.in-4.is calm_adst_16
