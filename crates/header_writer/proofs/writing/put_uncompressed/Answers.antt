use Rattle.header_writer.proofs.SlotPuts.{shown_put}
use Rattle.header_writer.proofs.writing.put_uncompressed.Goals as goal

pub returns-in_ok-byte-in-ShowExisting-clause-puts : goal.returns-in_ok-byte-in-ShowExisting-clause-puts
returns-in_ok-byte-in-ShowExisting-clause-puts c =
    rw c.in-ShowExisting.is (shown_put c.args.before.now c.in-ShowExisting.slot c.args.bits.now c.put_frame_profile.new.bits c.flag_field.new.self c.byte.new.self
    (rw c.in-ShowExisting.is at c.requires.is) c.in_ok-put_frame_profile-in-ShowExisting.ensures.puts c.in_ok-flag_field-in-ShowExisting.ensures.puts c.in_ok-byte-in-ShowExisting.ensures.puts)
