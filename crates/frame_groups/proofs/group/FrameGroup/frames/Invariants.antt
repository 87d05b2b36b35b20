use Rattle.std.proofs.Common.{◌≡◌, map, take}
use Rattle.std.specs.List.{flat_map}
use Rattle.frame_groups.specs.Groups.{payload_frames}
use Rattle.frame_groups.proofs.group.FrameGroup.frames.Given as goal

-- the frames of the first payloads were added
abbrev pub invariant-loop-payload : goal.invariant-loop-payload
invariant-loop-payload l = map (λ frame. frame.now) l.frames.items ≡ flat_map payload_frames (take l.payload-index l.payload-items)
