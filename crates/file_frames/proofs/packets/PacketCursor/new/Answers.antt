use Rattle.std.proofs.Common.{◌∙◌, ap, sym}
use Rattle.file_frames.specs.Containers.{packets_of_file}
use Rattle.file_frames.proofs.Containers.{packets_if}
use Rattle.file_frames.proofs.packets.PacketCursor.new.Goals as goal

pub returns-then-is_webm-clause-left : goal.returns-then-is_webm-clause-left
unfolding packets_of_file
returns-then-is_webm-clause-left c = c.new.ensures.all c.args.bytes.now ∙ sym (ap (packets_if c.args.bytes.now) (sym c.is_webm.ensures ∙ c.if-is_webm.true))

pub returns-in-Ok-clause-left : goal.returns-in-Ok-clause-left
unfolding packets_of_file
returns-in-Ok-clause-left c = sym c.in-Ok.ensures.begun.1 ∙ sym (ap (packets_if c.args.bytes.now) (sym c.is_webm.ensures ∙ c.if-is_webm.false))

pub returns-in-Err-clause-left : goal.returns-in-Err-clause-left
unfolding packets_of_file
returns-in-Err-clause-left c = sym c.in-Err.ensures.begun ∙ sym (ap (packets_if c.args.bytes.now) (sym c.is_webm.ensures ∙ c.if-is_webm.false))
