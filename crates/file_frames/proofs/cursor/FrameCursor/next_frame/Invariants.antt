use Rattle.std.proofs.Common.{◌≡◌, ◌-◌, length}
use Rattle.file_frames.specs.Code.{ahead}
use Rattle.file_frames.specs.Cursors.{place_of}
use Rattle.file_frames.proofs.cursor.FrameCursor.next_frame.Given as goal

abbrev pub invariant-payloads : goal.invariant-payloads
invariant-payloads l = ahead l.self ≡ ahead l.initial.self

abbrev pub decreases-payloads : goal.decreases-payloads
decreases-payloads l = length l.self.bytes.now - place_of l.self.packets
