use Rattle.inverse_transforms.proofs.RenamedTables.{dct_4, dct_8, dct_16, dct_32}
use Rattle.inverse_transforms.proofs.rows.dct_rows.Goals as goal

pub returns-in-2-clause-same : goal.returns-in-2-clause-same
returns-in-2-clause-same c = rw c.in-2.is dct_4

pub returns-in-3-clause-same : goal.returns-in-3-clause-same
returns-in-3-clause-same c = rw c.in-3.is dct_8

pub returns-in-4-clause-same : goal.returns-in-4-clause-same
returns-in-4-clause-same c = rw c.in-4.is dct_16

pub returns-in-5-clause-same : goal.returns-in-5-clause-same
returns-in-5-clause-same c = rw c.in-5.is dct_32
