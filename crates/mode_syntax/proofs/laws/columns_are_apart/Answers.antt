use Rattle.mode_syntax.proofs.Apart.{in_columns_same, same_partition, same_modes}
use Rattle.mode_syntax.proofs.laws.columns_are_apart.Goals as goal

pub returns-clause-part : goal.returns-clause-part
returns-clause-part c = in_columns_same

pub returns-clause-partition : goal.returns-clause-partition
returns-clause-partition c = same_partition

pub returns-clause-modes : goal.returns-clause-modes
returns-clause-modes c = same_modes
