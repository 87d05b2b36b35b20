use Rattle.mode_writer.proofs.Answered.{block_answered, partition_answered}
use Rattle.mode_writer.proofs.laws.what_is_read_can_be_put.Goals as goal

pub returns-clause-block : goal.returns-clause-block
returns-clause-block c = block_answered

pub returns-clause-partition : goal.returns-clause-partition
returns-clause-partition c = partition_answered
