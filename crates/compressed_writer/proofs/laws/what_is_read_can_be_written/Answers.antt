use Rattle.compressed_writer.proofs.HeaderReads.{forward_read}
use Rattle.compressed_writer.proofs.laws.what_is_read_can_be_written.Goals as goal

pub returns : goal.returns
returns c = forward_read
