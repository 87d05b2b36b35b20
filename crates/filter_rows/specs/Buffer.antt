-- A buffer for the loop filter: parts of a frame's planes, which have the rows of one row of superblocks and the eight above
-- them, and move down the frame with it.
use Rattle.std.specs.Prelude.{ℕ, ◌+◌, ◌-◌, ◌≡◌, List, min}
use Rattle.vp9_types.specs.declared.shape.Plane.{Plane}
use Rattle.vp9_types.specs.declared.shape.Plane.TheVariants.{Y, U, V}
use Rattle.vp9_types.specs.declared.shape.Shape.{Shape}
use Rattle.vp9_types.specs.Maps.{FrameMap}
use Rattle.vp9_types.specs.Shapes.{halved, coded_width, coded_height}
use Rattle.block_plan.specs.declared.block.BlockInfo.{BlockInfo}
use Rattle.planes.specs.Pictures.{IsInRange, samples_of}
use Rattle.planes.specs.declared.area.Area.{Area}
use Rattle.planes.specs.declared.frame_planes.FramePlanes.{FramePlanes}
use Rattle.loop_edges.specs.Cells.{sub_y}
use Rattle.loop_edges.specs.declared.setting.EdgeSetting.{EdgeSetting}
use Rattle.loop_filter.specs.Laws.{first_changed, HoldsPending, FollowsOn}

-- how many rows of a plane it has, whichever row of superblocks it is at: it never grows
abbrev pub buffer_rows : Shape → Plane → ℕ
buffer_rows shape plane = min (coded_height shape plane) (halved (sub_y shape plane) 64 + 8)

-- its first row: the first one that the row of superblocks may change, but it ends with the plane
abbrev pub buffer_start : Shape → Plane → ℕ → ℕ
buffer_start shape plane sr = min (first_changed shape plane sr) (coded_height shape plane - buffer_rows shape plane)

abbrev pub buffer_area : Shape → Plane → ℕ → Area
buffer_area shape plane sr = record {
  first_row = buffer_start shape plane sr;
  first_column = 0;
  rows = buffer_rows shape plane;
  columns = coded_width shape plane;
}

-- it is at a row of superblocks
pub record StandsAt {X : Type 0} (shape : Shape) (sr : ℕ) (planes : FramePlanes X) : Type 0 where
  pub y : planes.y.area ≡ buffer_area shape Y sr
  pub u : planes.u.area ≡ buffer_area shape U sr
  pub v : planes.v.area ≡ buffer_area shape V sr

-- It awaits the samples of a row of superblocks. `raw` is the frame before the filter.
pub record AwaitsRow {X : Type 0} (f : EdgeSetting) (blocks : List BlockInfo) (raw : FrameMap) (sr : ℕ) (planes : FramePlanes X) : Type 0 where
  pub place : StandsAt f.shape sr planes
  pub range : IsInRange f.shape.depth planes
  pub pending : HoldsPending f blocks raw sr (samples_of planes)

-- That row is filtered: it has rows that are final now, and those that are pending for the next one.
pub record HasFiltered {X : Type 0} (f : EdgeSetting) (blocks : List BlockInfo) (raw : FrameMap) (sr : ℕ) (planes : FramePlanes X) : Type 0 where
  pub place : StandsAt f.shape sr planes
  pub range : IsInRange f.shape.depth planes
  pub rows : FollowsOn f blocks raw sr (samples_of planes)
