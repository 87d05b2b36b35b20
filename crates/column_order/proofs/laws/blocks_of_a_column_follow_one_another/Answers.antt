use Rattle.column_order.proofs.ColumnFollows.{plan_follows}
use Rattle.column_order.proofs.Follows.{infos_in_order}
use Rattle.column_order.proofs.TilesOfColumns.{plan_tiles}
use Rattle.column_order.proofs.laws.blocks_of_a_column_follow_one_another.Goals as goal

pub returns-clause-placed : goal.returns-clause-placed
returns-clause-placed c = λ by bytes k plan is. (plan_follows by bytes k plan is).placed

pub returns-clause-inside : goal.returns-clause-inside
returns-clause-inside c = λ by bytes k plan is. (plan_follows by bytes k plan is).inside

pub returns-clause-order : goal.returns-clause-order
returns-clause-order c = λ by bytes k plan is. (plan_follows by bytes k plan is).order

pub returns-clause-infos : goal.returns-clause-infos
returns-clause-infos c = λ by bytes k plan is. infos_in_order plan.value.column.blocks (plan_follows by bytes k plan is).order

pub returns-clause-tiles : goal.returns-clause-tiles
returns-clause-tiles c = plan_tiles
