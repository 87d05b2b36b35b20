use Rattle.std.proofs.Common.{◌++◌, ◌∙◌, ap, length}
use Rattle.byteorder.specs.Endian.{little_bytes}
use Rattle.container_writer.proofs.WrittenFiles.{behind_header}
use Rattle.container_writer.proofs.file.write_packet.Goals as goal

pub returns-clause-put : goal.returns-clause-put
returns-clause-put c =
    c.in_default.ensures.items
    ∙ ap (λ bytes. bytes ++ c.args.payload.now) (c.in_ok-extend_from_slice.ensures.items ∙ ap (λ header. c.args.out.now.items ++ header) c.packet_header-header.ensures)
    ∙ behind_header c.args.out.now.items (little_bytes 4 (length c.args.payload.now)) (little_bytes 8 c.args.stamp) c.args.payload.now
