use Rattle.std.proofs.Common.{◌≡◌, ◌++◌, map, take}
use Rattle.frame_groups.proofs.GroupLemmas.{at_parts}
use Rattle.frame_groups.proofs.group.FramePayload.add_frames.Given as goal

-- the frames of the first parts were added
abbrev pub invariant-loop-part : goal.invariant-loop-part
invariant-loop-part l =
    map (λ frame. frame.now) l.frames.items ≡ map (λ frame. frame.now) l.initial.frames.items ++ at_parts l.self.bytes.items (take l.part-index l.part-items)
