-- Bands of a frame: 64 rows of luma and their share of chroma, within the whole number of places of 8x8 luma samples
-- that a frame is decoded in (MiRows and MiCols in 7.2.6 of the standard).
use Rattle.std.specs.Prelude.{ℕ, ◌+◌, ◌-◌, ◌*◌, ◌≤◌, ◌<◌, min}
use Rattle.vp9_types.specs.declared.shape.Plane.{Plane}
use Rattle.vp9_types.specs.declared.shape.Plane.TheVariants.{Y, U, V}
use Rattle.vp9_types.specs.declared.shape.Shape.{Shape}
use Rattle.vp9_types.specs.Shapes.{halved, coded_width, coded_height}
use Rattle.vp9_types.specs.Maps.{FrameMap}
use Rattle.planes.specs.declared.area.Area.{Area}

-- a frame's shape, and its samples
pub record Picture : Type 0 where
  pub shape : Shape
  pub map : FrameMap

-- how many rows of a plane a band has, but for the last one
abbrev pub band_height : Shape → Plane → ℕ
band_height shape Y = 64
band_height shape U = halved shape.ss_y 64
band_height shape V = halved shape.ss_y 64

abbrev pub first_row : Shape → Plane → ℕ → ℕ
first_row shape plane index = index * band_height shape plane

abbrev pub band_rows : Shape → Plane → ℕ → ℕ
band_rows shape plane index = min (band_height shape plane) (coded_height shape plane - first_row shape plane index)

-- the row is one of the band
pub record IsRowOf (shape : Shape) (plane : Plane) (index y : ℕ) : Type 0 where
  pub from : first_row shape plane index ≤ y
  pub to : y < first_row shape plane index + band_rows shape plane index

-- where a band lies in a plane
abbrev pub band_area : Shape → Plane → ℕ → Area
band_area shape plane index = record {
  first_row = first_row shape plane index;
  first_column = 0;
  rows = band_rows shape plane index;
  columns = coded_width shape plane;
}
