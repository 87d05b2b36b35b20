-- What the code keeps, and what the calls answer.
use Rattle.std.specs.Prelude.{◌≡◌, ℕ, ◌+◌, ◌-◌, ◌/◌, ◌≤◌, ◌<◌, List, map, Option, Some, None}
use Rattle.std.specs.List.{range_with_len}
use Rattle.vp9_types.specs.declared.job.BandSpan.{BandSpan}
use Rattle.vp9_types.specs.declared.shape.Plane.{Plane}
use Rattle.vp9_types.specs.declared.shape.Plane.TheVariants.{Y, U, V}
use Rattle.vp9_types.specs.declared.shape.Shape.{Shape}
use Rattle.vp9_types.specs.Maps.{IsPiece, row_of}
use Rattle.band_cells.specs.declared.samples.BandName.{BandName}
use Rattle.band_cells.specs.declared.samples.BandSamples.{BandSamples}
use Rattle.band_cells.specs.Bands.{Picture, band_height, band_area, IsRowOf}
use Rattle.planes.specs.Planes.{PlaneSamples, plane_map}
use Rattle.planes.specs.declared.frame_planes.FramePlanes.{FramePlanes}
use Rattle.vp9_types.specs.Shapes.{coded_width, coded_height}

-- a plane of a band: it lies where the band lies, and has the picture's samples there
abbrev pub IsPlaneOf : Picture → Plane → ℕ → PlaneSamples → Type 0
IsPlaneOf picture plane index samples =
    (samples.area ≡ band_area picture.shape plane index)
    × ((y x : ℕ) → IsRowOf picture.shape plane index y → x < coded_width picture.shape plane → plane_map samples y x ≡ picture.map plane y x)

-- the samples are those that the picture has in the band
abbrev pub AreSamplesOf : {X : Type 0} → Picture → ℕ → BandSamples X → Type 0
AreSamplesOf picture index samples =
    (samples.shape ≡ picture.shape)
    × (IsPlaneOf picture Y index samples.planes.y)
    × (IsPlaneOf picture U index samples.planes.u)
    × (IsPlaneOf picture V index samples.planes.v)

-- planes that lie where a band lies
pub record LieIn {X : Type 0} (shape : Shape) (index : ℕ) (planes : FramePlanes X) : Type 0 where
  pub y : planes.y.area ≡ band_area shape Y index
  pub u : planes.u.area ≡ band_area shape U index
  pub v : planes.v.area ≡ band_area shape V index

-- the band isn't blank, and has the row
abbrev pub HasRow : (ℕ → Picture) → Option BandName → Plane → ℕ → Type 0
HasRow pictures None plane y = ⊥
HasRow pictures (Some name) plane y = IsRowOf (pictures name.frame).shape plane name.index y

-- the row of a picture
abbrev pub picture_row : Picture → Plane → ℕ → List ℕ
picture_row picture plane y = row_of (picture.map plane) y 0 (coded_width picture.shape plane)

-- rows of a picture in one piece
abbrev pub IsPieceOf : Picture → Plane → ℕ → ℕ → List ℕ → ℕ → Type 0
IsPieceOf picture plane y rows samples stride = IsPiece (picture.map plane) (coded_width picture.shape plane) y rows samples stride

-- a cell: the name of its band, and which cell it is
pub record CellParts : Type 0 where
  pub name : BandName
  pub cell : ℕ

-- the bands of a frame, each with its cell
pub record StoreParts : Type 0 where
  pub frame : ℕ
  pub shape : Shape
  pub cells : List CellParts

abbrev pub name_of : ℕ → ℕ → BandName
name_of frame index = record { frame = frame; index = index }

-- the row is one of the frame, in one of these bands
pub record IsRowWithin (shape : Shape) (span : BandSpan) (plane : Plane) (y : ℕ) : Type 0 where
  pub inside : y < coded_height shape plane
  pub from : span.first ≤ y / band_height shape plane
  pub to : y / band_height shape plane ≤ span.last

-- how many bands a span has
abbrev pub span_length : BandSpan → ℕ
span_length span = span.last + 1 - span.first

-- the names of some bands are those of a span, one after another
abbrev pub AreBandsOf : BandSpan → List (Option BandName) → Type 0
AreBandsOf span names = names ≡ map (λ index. Some (name_of span.frame index)) (range_with_len span.first (span_length span))
