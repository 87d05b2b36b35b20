use Rattle.block_lists.proofs.IntraWays.{at_way}
use Rattle.block_lists.proofs.InterWays.{mode_info_way}
use Rattle.block_lists.proofs.laws.blocks_are_put_in_one_way.Goals as goal

pub returns-clause-partition : goal.returns-clause-partition
returns-clause-partition c = at_way

pub returns-clause-block : goal.returns-clause-block
returns-clause-block c = mode_info_way
