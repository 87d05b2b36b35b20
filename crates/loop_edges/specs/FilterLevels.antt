-- The filter's level at a block, and what it says of a line (8.8.1 of the standard).
use Rattle.std.specs.Prelude.{ℕ, ℤ, pos, ◌+◌, ◌-◌, ◌*◌, ◌/◌, ◌^◌, ◌+ℤ◌, ◌*ℤ◌, unsigned_abs, Bool, Option, Some, None, max, min, nat_lt, slice_index_or, if◌then◌else◌}
use Rattle.std.specs.Int.{int_max, int_min}
use Rattle.vp9_types.specs.declared.shape.Depth.{Depth}
use Rattle.vp9_types.specs.Shapes.{depth_bits}
use Rattle.vp9_types.specs.declared.block.InterMode.{InterMode}
use Rattle.vp9_types.specs.declared.block.InterMode.TheVariants.{Nearest, Near, Zero, New}
use Rattle.vp9_types.specs.declared.block.ReferenceFrame.{ReferenceFrame}
use Rattle.vp9_types.specs.declared.block.ReferenceFrame.TheVariants.{Last, Golden, Altref}
use Rattle.frame_headers.specs.Segments.{no_segment_features}
use Rattle.frame_headers.specs.declared.filter.LoopDeltas.{LoopDeltas}
use Rattle.block_plan.specs.declared.block.BlockInfo.{BlockInfo}
use Rattle.block_plan.specs.declared.block.Prediction.{Prediction}
use Rattle.block_plan.specs.declared.block.Prediction.TheVariants.{Intra, Inter}
use Rattle.line_filter.specs.declared.edge.Limits.{Limits}
use Rattle.loop_edges.specs.declared.setting.EdgeSetting.{EdgeSetting}

-- clipped to 0..63
abbrev pub to_level : ℤ → ℕ
to_level z = unsigned_abs (int_max (pos 0) (int_min (pos 63) z))

-- by a segment's feature, absolute or added
abbrev pub level_with_feature : Bool → ℕ → Option ℤ → ℕ
level_with_feature absolute level None = level
level_with_feature absolute level (Some value) = to_level (if absolute then value else pos level +ℤ value)

-- the level of a segment, before the deltas
abbrev pub lvl_seg : EdgeSetting → ℕ → ℕ
lvl_seg f segment =
    if f.segmentation.enabled
    then level_with_feature f.segmentation.features.absolute f.filter.level (slice_index_or f.segmentation.features.segments segment no_segment_features).level
    else f.filter.level

abbrev pub reference_delta_index : ReferenceFrame → ℕ
reference_delta_index Last = 1
reference_delta_index Golden = 2
reference_delta_index Altref = 3

abbrev pub reference_delta : LoopDeltas → ReferenceFrame → ℤ
reference_delta deltas reference = slice_index_or deltas.reference (reference_delta_index reference) (pos 0)

-- 0 for zero vectors, else 1
abbrev pub mode_delta_index : InterMode → ℕ
mode_delta_index Zero = 0
mode_delta_index Nearest = 1
mode_delta_index Near = 1
mode_delta_index New = 1

abbrev pub mode_delta : LoopDeltas → InterMode → ℤ
mode_delta deltas mode = slice_index_or deltas.mode (mode_delta_index mode) (pos 0)

-- the deltas of what a block refers to, and of the mode of its last quarter
abbrev pub delta_of : LoopDeltas → Prediction → ℤ
delta_of deltas (Intra _) = slice_index_or deltas.reference 0 (pos 0)
delta_of deltas (Inter b) = reference_delta deltas b.references.first +ℤ mode_delta deltas (slice_index_or b.modes 3 New)

-- The deltas are scaled by the frame's level, whatever the segment's is.
unfoldable pub filter_level : EdgeSetting → BlockInfo → ℕ
filter_level f b =
    if f.filter.delta_enabled
    then to_level (pos (lvl_seg f b.segment) +ℤ delta_of f.filter.deltas b.prediction *ℤ pos (2 ^ (f.filter.level / 32)))
    else lvl_seg f b.segment

-- 1 << (BitDepth - 8)
abbrev pub one_of : Depth → ℕ
one_of depth = 2 ^ (depth_bits depth - 8)

-- limit, before it is scaled to the depth
abbrev pub edge_limit : ℕ → ℕ → ℕ
edge_limit sharpness level =
    let shifted = level / 2 ^ (if nat_lt 4 sharpness then 2 else (if nat_lt 0 sharpness then 1 else 0)) in
    max 1 (if nat_lt 0 sharpness then min shifted (9 - sharpness) else shifted)

unfoldable pub limits_of : Depth → ℕ → ℕ → Limits
limits_of depth sharpness level = record {
  limit = edge_limit sharpness level * one_of depth;
  blimit = (2 * (level + 2) + edge_limit sharpness level) * one_of depth;
  thresh = level / 16 * one_of depth;
  one = one_of depth;
  half = 128 * one_of depth;
}
