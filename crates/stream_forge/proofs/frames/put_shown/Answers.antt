use Rattle.bool_encoder.proofs.Numbers.{all_small}
use Rattle.stream_forge.proofs.Heads.{shown_read, shown_spelled}
use Rattle.stream_forge.proofs.frames.put_shown.Goals as goal

pub returns-clause-head : goal.returns-clause-head
returns-clause-head c =
    let put = c.in_ok-write_uncompressed_header.ensures.put in
    shown_read c.args.decoder.now.persist c.args.slot c.write_uncompressed_header.new.out.items c.args.bytes.now.items put.0 put.1 c.requires.none put.2

pub returns-clause-bytes : goal.returns-clause-bytes
returns-clause-bytes c =
    let put = c.in_ok-write_uncompressed_header.ensures.put in
    let items = c.write_uncompressed_header.new.out.items in
    shown_spelled c.args.decoder.now.persist c.args.choices c.args.slot items c.args.bytes.now.items put.0 put.1 c.requires.none (all_small items c.type_inv.bytes) put.3
