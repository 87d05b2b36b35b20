-- Which rows are made final by which rows of superblocks.
use Rattle.std.specs.Prelude.{ℕ, ◌+◌, ◌-◌, ◌<◌, ◌≤◌, ◌≡◌, List, [], ◌∷◌, ◌++◌, length, min}
use Rattle.vp9_types.specs.declared.shape.Plane.{Plane}
use Rattle.vp9_types.specs.declared.shape.Shape.{Shape}
use Rattle.vp9_types.specs.Maps.{FrameMap, IsAtMost}
use Rattle.vp9_types.specs.Shapes.{mi_rows, plane_width, plane_height, coded_height}
use Rattle.vp9_types.specs.Sizes.{greatest, superblocks_along}
use Rattle.block_plan.specs.declared.block.BlockInfo.{BlockInfo}
use Rattle.inter_places.specs.Places.{IsReference}
use Rattle.planes.specs.declared.frame_planes.FramePlanes.{FramePlanes}
use Rattle.block_rebuild.specs.declared.references.ReferencePicture.{ReferencePicture}
use Rattle.band_cells.specs.Bands.{Picture}
use Rattle.band_needs.specs.declared.ranges.BandRange.{BandRange}
use Rattle.band_references.specs.BandReferences.{HasBands}
use Rattle.loop_edges.specs.declared.setting.EdgeSetting.{EdgeSetting}
use Rattle.filter_rows.specs.Buffer.{HasFiltered}
use Rattle.filter_rows.specs.Laws.{BecomesFinal}
use Rattle.filtered_rows.specs.BufferRows.{RowSpan, row_with, HasFinalRows, HoldRows, IsFiltered}
use Rattle.filtered_rows.specs.Code.{held_in, width_in, map_in}

-- Each row of a plane is made final by one row of superblocks alone.
pub record BecomesFinalWith (shape : Shape) (plane : Plane) (y : ℕ) : Type 0 where
  pub final : y < coded_height shape plane → BecomesFinal shape plane (row_with shape plane y) y
  pub alone : (sr : ℕ) → sr < superblocks_along (mi_rows shape) → BecomesFinal shape plane sr y → sr ≡ row_with shape plane y

-- A buffer in which a row of superblocks is filtered has the rows that it makes final of the filtered frame.
abbrev pub FilteredIsFinal : {X : Type 0} → EdgeSetting → List BlockInfo → FrameMap → Picture → ℕ → FramePlanes X → Type 0
FilteredIsFinal f blocks raw picture sr planes = IsFiltered f blocks raw picture → HasFiltered f blocks raw sr planes → HasFinalRows picture sr planes

-- Buffers come one after another: none hold no rows, and one more holds those of the next row of superblocks.
abbrev pub NoneHoldRows : {X : Type 0} → Picture → ℕ → List (FramePlanes X) → Type 0
NoneHoldRows picture first buffers = buffers ≡ [] → first ≤ superblocks_along (mi_rows picture.shape) → HoldRows picture first buffers

abbrev pub OneMoreHoldsRows : {X : Type 0} → Picture → ℕ → List (FramePlanes X) → FramePlanes X → Type 0
OneMoreHoldsRows picture first buffers next = HoldRows picture first buffers → first + length buffers < superblocks_along (mi_rows picture.shape) →
    HasFinalRows picture (first + length buffers) next → HoldRows picture first (buffers ++ next ∷ [])

-- A reference is the picture of its frame, by the buffers of the rows of superblocks of its bands, and of the row below them if
-- there is one. Its size is in range for the frame that refers to it, as are its samples.
pub record IsByRows (pictures : ℕ → Picture) (shape : Shape) (bands : BandRange) (r : ReferencePicture RowSpan) : Type 0 where
  pub same : r.shape ≡ (pictures r.samples.now.frame).shape
  pub from : r.samples.now.first ≤ bands.first
  pub to : min (bands.last + 1) (superblocks_along (mi_rows r.shape) - 1) < r.samples.now.end
  pub reference : IsReference shape r.shape
  pub range : (p : Plane) → IsAtMost (greatest shape.depth) ((pictures r.samples.now.frame).map p)

-- Then it has the bands.
abbrev pub RowsHaveBands : (ℕ → Picture) → Shape → BandRange → ReferencePicture RowSpan → Type 0
RowsHaveBands pictures shape bands r = IsByRows pictures shape bands r → HasBands (held_in pictures) (width_in pictures) (map_in pictures) shape bands r

-- the rows of superblocks of a frame are all of them
pub record AreAllRows (shape : Shape) (rows : RowSpan) : Type 0 where
  pub from : rows.first ≡ 0
  pub to : rows.end ≡ superblocks_along (mi_rows shape)

-- A frame has its rows, with all that is decoded of them, and so those that are shown.
pub record HasAllRows (pictures : ℕ → Picture) (rows : RowSpan) : Type 0 where
  pub coded : (p : Plane) (y : ℕ) → y < coded_height (pictures rows.frame).shape p → held_in pictures rows p y
  pub shown : (p : Plane) (y : ℕ) → y < plane_height (pictures rows.frame).shape p → held_in pictures rows p y
  pub wide : (p : Plane) → plane_width (pictures rows.frame).shape p ≤ width_in pictures rows p

abbrev pub AllRowsAreHeld : (ℕ → Picture) → RowSpan → Type 0
AllRowsAreHeld pictures rows = AreAllRows (pictures rows.frame).shape rows → HasAllRows pictures rows
