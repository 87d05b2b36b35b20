use Rattle.inverse_transforms.proofs.CalmTables.{calm_dct_4, calm_dct_8, calm_dct_16, calm_dct_32}
use Rattle.inverse_transforms.proofs.rows.dct_calm.Goals as goal

pub returns-in-2-clause-calm : goal.returns-in-2-clause-calm
returns-in-2-clause-calm c = rw c.in-2.is calm_dct_4

pub returns-in-3-clause-calm : goal.returns-in-3-clause-calm
returns-in-3-clause-calm c = rw c.in-3.is calm_dct_8

pub returns-in-4-clause-calm : goal.returns-in-4-clause-calm
returns-in-4-clause-calm c = rw c.in-4.is calm_dct_16

pub returns-in-5-clause-calm : goal.returns-in-5-clause-calm
returns-in-5-clause-calm c = rw c.in-5.is calm_dct_32
