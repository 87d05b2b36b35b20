use Rattle.std.proofs.Common.{refl}
use Rattle.container_writer.proofs.file.packet_header.Goals as goal

pub returns : goal.returns
returns c = rw (c.to_le_bytes-size.ensures, c.to_le_bytes-stamp.ensures) refl
