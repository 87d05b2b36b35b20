-- Which rows of its references a block is predicted from (8.5.2 of the standard): for each of its samples inside the frame's
-- places of 8x8, the rows of its eight taps down, after they are clamped to the reference's own size.
use Rattle.std.specs.Prelude.{ℕ, ◌≡◌, ◌<◌, ◌≤◌, ◌/◌, ◌⊎◌, List, slice_index_or, Option, Some, None, IfSome}
use Rattle.vp9_types.specs.Shapes.{halved}
use Rattle.vp9_types.specs.declared.block.ReferenceFrame.{ReferenceFrame}
use Rattle.vp9_types.specs.declared.shape.Plane.{Plane}
use Rattle.vp9_types.specs.declared.shape.Shape.{Shape}
use Rattle.block_plan.specs.declared.block.BlockInfo.{BlockInfo}
use Rattle.block_plan.specs.declared.block.InterPrediction.{InterPrediction}
use Rattle.block_plan.specs.declared.block.Prediction.{Prediction}
use Rattle.block_plan.specs.declared.block.Prediction.TheVariants.{Intra, Inter}
use Rattle.inter_places.specs.Axes.{place, first_place, last_place}
use Rattle.inter_places.specs.Places.{is_subsampled, parts_of, place_of}
use Rattle.inter_places.specs.declared.axis.Place.{Place}
use Rattle.inter_places.specs.declared.part.BlockPart.{BlockPart}
use Rattle.inter_places.specs.declared.part.Direction.TheVariants.{Down}
use Rattle.band_needs.specs.declared.ranges.BandRange.{BandRange}

---- Rows ----

-- a row of a predicted block, and a tap of it, stands at this row of the reference
pub record ReadsRow (at : Place) (y : ℕ) : Type 0 where
  pub sample : ℕ
  pub inside : sample < at.rows
  pub tap : ℕ
  pub few : tap < 8
  pub is : y ≡ place at.down sample tap

-- in a plane, one of the parts of a block by its first vector (0) or the second (1)
abbrev pub part_in : Plane → ℕ → ℕ → BlockPart
part_in p n list = record { plane = p; number = n; list = list }

pub record ListReads (shape reference : Shape) (b : BlockInfo) (modes : InterPrediction) (list : ℕ) (p : Plane) (y : ℕ) : Type 0 where
  pub number : ℕ
  pub one : number < parts_of shape b.size p
  pub row : ReadsRow (place_of shape b modes (part_in p number list) reference) y

-- of the reference that the first vectors are for, or of that of the second ones
abbrev pub ReadsBy : Shape → (ReferenceFrame → Shape) → BlockInfo → Prediction → ReferenceFrame → Plane → ℕ → Type 0
ReadsBy shape references b (Intra modes) r p y = ⊥
ReadsBy shape references b (Inter modes) r p y =
    ((modes.references.first ≡ r) × ListReads shape (references r) b modes 0 p y) ⊎ ((modes.references.second ≡ Some r) × ListReads shape (references r) b modes 1 p y)

-- a block reads row y of plane p of a reference
abbrev pub Reads : Shape → (ReferenceFrame → Shape) → BlockInfo → ReferenceFrame → Plane → ℕ → Type 0
Reads shape references b r p y = ReadsBy shape references b b.prediction r p y

---- Bands ----

-- 64 rows of luma, and their share of chroma
abbrev pub band_height : Shape → Plane → ℕ
band_height shape p = halved (is_subsampled shape p Down) 64

-- a band of a reference has a row that a block reads
pub record ReadsBand (shape : Shape) (references : ReferenceFrame → Shape) (b : BlockInfo) (r : ReferenceFrame) (band : ℕ) : Type 0 where
  pub plane : Plane
  pub row : ℕ
  pub reads : Reads shape references b r plane row
  pub is : band ≡ row / band_height (references r) plane

-- one of the first n blocks of a list reads it
pub record BlocksRead (shape : Shape) (references : ReferenceFrame → Shape) (blocks : List BlockInfo) (n : ℕ) (r : ReferenceFrame) (band : ℕ) : Type 0 where
  pub block : ℕ
  pub one : block < n
  pub reads : (d : BlockInfo) → ReadsBand shape references (slice_index_or blocks block d) r band

-- A range ends with bands that are read at both ends, and has all that are.
pub record IsRangeOf (Read : ℕ → Type 0) (s : BandRange) : Type 0 where
  pub first : Read s.first
  pub last : Read s.last
  pub low : (band : ℕ) → Read band → s.first ≤ band
  pub high : (band : ℕ) → Read band → band ≤ s.last

-- there is none where nothing is read
abbrev pub AreRead : (ℕ → Type 0) → Option BandRange → Type 0
AreRead Read None = (band : ℕ) → Read band → ⊥
AreRead Read (Some s) = IsRangeOf Read s

---- Rows that are enough ----

-- a band is one of a range
abbrev pub HasBand : Option BandRange → ℕ → Type 0
HasBand None band = ⊥
HasBand (Some s) band = (s.first ≤ band) × (band ≤ s.last)

-- All rows from the first to the last that a part of a block is predicted from lie in these bands of the reference.
abbrev pub PartLiesIn : Shape → Shape → BlockInfo → InterPrediction → BlockPart → Option BandRange → Type 0
PartLiesIn shape reference b modes part s =
    (y : ℕ) → first_place (place_of shape b modes part reference).down ≤ y → y ≤ last_place (place_of shape b modes part reference).down (place_of shape b modes part reference).rows →
    HasBand s (y / band_height reference part.plane)

-- so do those of each part by the first vectors (0) or the second ones (1)
abbrev pub ListLiesIn : Shape → Shape → BlockInfo → InterPrediction → ℕ → Option BandRange → Type 0
ListLiesIn shape reference b modes list s = (p : Plane) (n : ℕ) → n < parts_of shape b.size p → PartLiesIn shape reference b modes (part_in p n list) s

-- and of each reference of a block
abbrev pub BlockLiesIn : Shape → (ReferenceFrame → Shape) → BlockInfo → Prediction → (ReferenceFrame → Option BandRange) → Type 0
BlockLiesIn shape references b (Intra modes) needs = Unit {0}
BlockLiesIn shape references b (Inter modes) needs =
    ListLiesIn shape (references modes.references.first) b modes 0 (needs modes.references.first)
    × IfSome modes.references.second (λ second. ListLiesIn shape (references second) b modes 1 (needs second))
