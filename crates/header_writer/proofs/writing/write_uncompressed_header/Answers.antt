use Rattle.header_writer.proofs.HeaderReads.{holds_header, is_spelled}
use Rattle.header_writer.proofs.writing.write_uncompressed_header.Goals as goal

pub returns-clause-put : goal.returns-clause-put
returns-clause-put c = (
  c.in_ok-bytes.bytes.items,
  rw c.deref.ensures.value at c.in_ok-extend_from_slice.ensures.items,
  holds_header c.args.before.now c.args.header.now c.put_uncompressed.new.bits c.in_ok-bytes.bytes.items
      (rw c.new-bits.ensures at c.in_ok-put_uncompressed.ensures.puts) c.in_ok-bytes.ensures,
  is_spelled c.args.before.now c.args.choices c.args.header.now c.put_uncompressed.new.bits c.in_ok-bytes.bytes.items
      (rw c.new-bits.ensures at c.in_ok-put_uncompressed.ensures.spells) c.in_ok-bytes.ensures,
)
