-- The map of segments that a frame leaves (6.4.4 and 7.4.7 of the standard: PrevSegmentIds).
use Rattle.std.specs.Prelude.{ℕ, Bool, true, false, ◌&&◌, List, Option, Some, None, nat_lt, if◌then◌else◌}
use Rattle.vp9_types.specs.Maps.{Map}
use Rattle.frame_headers.specs.declared.segments.MapUpdate.{MapUpdate}
use Rattle.frame_headers.specs.declared.segments.Segmentation.{Segmentation}
use Rattle.block_geometry.specs.declared.transform_blocks.FramePlaces.{FramePlaces}
use Rattle.block_plan.specs.Blocks.{covering}
use Rattle.block_plan.specs.declared.block.BlockInfo.{BlockInfo}

abbrev pub segment_or : ℕ → Option BlockInfo → ℕ
segment_or old None = old
segment_or old (Some block) = block.segment

-- at each place of the frame the segment of the last listed block that covers it, or what it was
unfoldable pub segments_of : FramePlaces → List BlockInfo → Map → Map
segments_of frame blocks ids = λ r c. if nat_lt r frame.rows && nat_lt c frame.cols then segment_or (ids r c) (covering blocks r c) else ids r c

abbrev pub updates : Option MapUpdate → Bool
updates (Some update) = true
updates None = false

-- only a frame that has segments and updates their map changes it
abbrev pub segments_after : Segmentation → FramePlaces → List BlockInfo → Map → Map
segments_after segmentation frame blocks ids = if segmentation.enabled && updates segmentation.map then segments_of frame blocks ids else ids
