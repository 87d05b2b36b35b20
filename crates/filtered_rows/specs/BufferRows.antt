-- A frame behind the loop filter, as the buffers that its rows of superblocks were filtered in: each has the rows that it made
-- final. Only some of them may be there.
use Rattle.std.specs.Prelude.{ℕ, ◌+◌, ◌-◌, ◌/◌, ◌<◌, ◌≤◌, ◌≡◌, List, length, get_or, min}
use Rattle.vp9_types.specs.declared.shape.Plane.{Plane}
use Rattle.vp9_types.specs.declared.shape.Shape.{Shape}
use Rattle.vp9_types.specs.Shapes.{mi_rows, coded_width, coded_height}
use Rattle.vp9_types.specs.Sizes.{superblocks_along}
use Rattle.block_plan.specs.declared.block.BlockInfo.{BlockInfo}
use Rattle.planes.specs.Pictures.{samples_of}
use Rattle.planes.specs.declared.frame_planes.FramePlanes.{FramePlanes}
use Rattle.band_cells.specs.Bands.{Picture, band_height}
use Rattle.loop_edges.specs.FrameEdges.{filtered_frame}
use Rattle.loop_edges.specs.declared.setting.EdgeSetting.{EdgeSetting}
use Rattle.vp9_types.specs.Maps.{FrameMap}
use Rattle.filter_rows.specs.Buffer.{StandsAt}
use Rattle.filter_rows.specs.Laws.{BecomesFinal}

-- rows of superblocks of a frame, from a first one on, up to an end
pub record RowSpan : Type 0 where
  pub frame : ℕ
  pub first : ℕ
  pub end : ℕ

-- The row of superblocks that makes a row of a plane final: a filter changes the eight last rows above its own, so that these come
-- with the next row of superblocks, but for the last one's.
abbrev pub row_with : Shape → Plane → ℕ → ℕ
row_with shape plane y = min ((y + 8) / band_height shape plane) (superblocks_along (mi_rows shape) - 1)

-- a row of a plane is made final by one of these rows of superblocks
pub record IsFinalWithin (shape : Shape) (rows : RowSpan) (plane : Plane) (y : ℕ) : Type 0 where
  pub inside : y < coded_height shape plane
  pub from : rows.first ≤ row_with shape plane y
  pub to : row_with shape plane y < rows.end

-- a buffer stands at a row of superblocks, and has what a picture has in the rows that this row makes final
pub record HasFinalRows {X : Type 0} (picture : Picture) (sr : ℕ) (planes : FramePlanes X) : Type 0 where
  pub place : StandsAt picture.shape sr planes
  pub final : (plane : Plane) (y x : ℕ) → BecomesFinal picture.shape plane sr y → x < coded_width picture.shape plane → samples_of planes plane y x ≡ picture.map plane y x

-- so do some buffers, each at its row of superblocks, from a first one on
pub record HoldRows {X : Type 0} (picture : Picture) (first : ℕ) (buffers : List (FramePlanes X)) : Type 0 where
  pub end : first + length buffers ≤ superblocks_along (mi_rows picture.shape)
  pub each : (k : ℕ) (d : FramePlanes X) → k < length buffers → HasFinalRows picture (first + k) (get_or buffers k d)

-- A picture is a frame behind the loop filter. What it has outside of what is decoded isn't said.
pub record IsFiltered (f : EdgeSetting) (blocks : List BlockInfo) (raw : FrameMap) (picture : Picture) : Type 0 where
  pub shape : f.shape ≡ picture.shape
  pub map : (plane : Plane) (y x : ℕ) → y < coded_height f.shape plane → x < coded_width f.shape plane → picture.map plane y x ≡ filtered_frame f blocks raw plane y x
