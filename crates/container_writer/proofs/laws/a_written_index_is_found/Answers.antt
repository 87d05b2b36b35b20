use Rattle.container_writer.proofs.WrittenIndexes.{has_index, splits}
use Rattle.container_writer.proofs.laws.a_written_index_is_found.Goals as goal

pub returns-clause-index : goal.returns-clause-index
returns-clause-index c = has_index

pub returns-clause-frames : goal.returns-clause-frames
returns-clause-frames c = splits
