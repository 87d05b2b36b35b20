-- What the code says of sizes, what it keeps in tables, and how far it has come.
use Rattle.std.specs.Prelude.{◌≡◌, ◌<◌, ◌⊎◌, ℕ, ℤ, pos, ◌+◌, ◌/◌, ◌%◌, ◌^◌, ◌+ℤ◌, ◌*ℤ◌, Bool, ◌&&◌, not, Option, Some, None, List, [], nat_eq, nat_lt, slice_index_or, if◌then◌else◌}
use Rattle.std.specs.List.{range_with_len, flat_map, fold}
use Rattle.vp9_types.specs.Maps.{FrameMap}
use Rattle.vp9_types.specs.declared.block.InterMode.TheVariants.{New}
use Rattle.vp9_types.specs.declared.block.ReferenceFrame.{ReferenceFrame}
use Rattle.vp9_types.specs.declared.block.ReferenceFrame.TheVariants.{Last, Golden, Altref}
use Rattle.vp9_types.specs.declared.shape.Plane.{Plane}
use Rattle.frame_headers.specs.declared.filter.LoopDeltas.{LoopDeltas}
use Rattle.block_plan.specs.declared.block.Prediction.{Prediction}
use Rattle.block_plan.specs.declared.block.Prediction.TheVariants.{Intra, Inter}
use Rattle.line_filter.specs.FilteredEdges.{with_edge}
use Rattle.line_filter.specs.declared.edge.Edge.{Edge}
use Rattle.line_filter.specs.declared.edge.FilterWidth.{FilterWidth}
use Rattle.line_filter.specs.declared.edge.FilterWidth.TheVariants.{Four, Eight, Sixteen}
use Rattle.line_filter.specs.declared.edge.Limits.{Limits}
use Rattle.block_geometry.specs.BlockSizes.{width_8, height_8}
use Rattle.block_plan.specs.declared.block.BlockInfo.{BlockInfo}
use Rattle.loop_edges.specs.Cells.{is_skipped_inter}
use Rattle.loop_edges.specs.FrameEdges.{row_edges}
use Rattle.loop_edges.specs.FilterLevels.{to_level, lvl_seg, mode_delta_index, limits_of}
use Rattle.loop_edges.specs.declared.setting.EdgeSetting.{EdgeSetting}

-- a width or height of a block in places of 8x8
abbrev pub IsSideOfBlock : ℕ → Type 0
IsSideOfBlock n = ((n ≡ 1) ⊎ (n ≡ 2)) ⊎ ((n ≡ 4) ⊎ (n ≡ 8))

-- a place of a skipped inter block at none of its sides
abbrev pub is_inside : BlockInfo → ℕ → ℕ → Bool
is_inside b r c = is_skipped_inter b && not (nat_eq (c % width_8 b.size) 0) && not (nat_eq (r % height_8 b.size) 0)

-- the width in a last cell of which half is in the plane
abbrev pub narrowed : Option FilterWidth → Bool → Option FilterWidth
narrowed None is_last = None
narrowed (Some Four) is_last = Some Four
narrowed (Some Eight) is_last = Some Eight
narrowed (Some Sixteen) is_last = Some (if is_last then Eight else Sixteen)

---- Levels and limits in tables ----

abbrev pub reference_kind : ReferenceFrame → ℕ
reference_kind Last = 2
reference_kind Golden = 4
reference_kind Altref = 6

-- what a block's deltas go by: 0 for an intra block, else its reference and the mode of its last quarter
abbrev pub kind_of : Prediction → ℕ
kind_of (Intra _) = 0
kind_of (Inter b) = reference_kind b.references.first + mode_delta_index (slice_index_or b.modes 3 New)

-- the deltas of a kind
abbrev pub delta_by : LoopDeltas → ℕ → ℤ
delta_by deltas kind =
    if nat_lt kind 2 then slice_index_or deltas.reference 0 (pos 0)
    else slice_index_or deltas.reference (kind / 2) (pos 0) +ℤ slice_index_or deltas.mode (kind % 2) (pos 0)

-- the level of the blocks of a segment and kind
unfoldable pub level_by : EdgeSetting → ℕ → ℕ → ℕ
level_by f segment kind =
    if f.filter.delta_enabled
    then to_level (pos (lvl_seg f segment) +ℤ delta_by f.filter.deltas kind *ℤ pos (2 ^ (f.filter.level / 32)))
    else lvl_seg f segment

-- the levels of the first n kinds of a segment, those of the first n segments, and the limits of the first n levels
abbrev pub AreLevelsOfSegment : EdgeSetting → ℕ → ℕ → List ℕ → Type 0
AreLevelsOfSegment f segment n levels = (kind : ℕ) → kind < n → slice_index_or levels kind 0 ≡ level_by f segment kind

abbrev pub AreLevels : EdgeSetting → ℕ → List (List ℕ) → Type 0
AreLevels f n levels = (segment : ℕ) → segment < n → AreLevelsOfSegment f segment 8 (slice_index_or levels segment [])

abbrev pub no_limits : Limits
no_limits = record { limit = 0; blimit = 0; thresh = 0; one = 0; half = 0 }

abbrev pub AreLimits : EdgeSetting → ℕ → List Limits → Type 0
AreLimits f n limits = (level : ℕ) → level < n → slice_index_or limits level no_limits ≡ limits_of f.shape.depth f.filter.sharpness level

---- Rows of superblocks, one after another ----

-- the edges of the first rows
unfoldable pub edges_before : EdgeSetting → List BlockInfo → Plane → ℕ → List Edge
edges_before f blocks plane rows = flat_map (row_edges f blocks plane) (range_with_len 0 rows)

-- a frame with one more row filtered
unfoldable pub with_row : EdgeSetting → List BlockInfo → FrameMap → ℕ → FrameMap
with_row f blocks m sr = λ plane. fold with_edge (m plane) (row_edges f blocks plane sr)

-- a frame with the first rows filtered
unfoldable pub filtered_before : EdgeSetting → List BlockInfo → FrameMap → ℕ → FrameMap
filtered_before f blocks m rows = λ plane. fold with_edge (m plane) (edges_before f blocks plane rows)
