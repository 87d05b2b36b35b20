use Rattle.std.proofs.Common.{refl}
use Rattle.container_writer.specs.Files.{file_header}
use Rattle.container_writer.proofs.file.header_bytes.Goals as goal

pub returns : goal.returns
unfolding file_header
returns c =
    rw (c.to_le_bytes-w.ensures, c.to_le_bytes-h.ensures, c.to_le_bytes-rate.ensures, c.to_le_bytes-scale.ensures, c.to_le_bytes-count.ensures) refl
