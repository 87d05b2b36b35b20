-- References of which only some bands are there: those that a row of blocks is predicted from.
use Rattle.std.specs.Prelude.{ℕ, ◌≡◌, ◌≤◌, ◌<◌, ◌/◌, Some, IfSome}
use Rattle.vp9_types.specs.Maps.{FrameMap, IsAtMost}
use Rattle.vp9_types.specs.Shapes.{plane_width, coded_height}
use Rattle.vp9_types.specs.Sizes.{greatest}
use Rattle.vp9_types.specs.declared.block.ReferenceFrame.{ReferenceFrame}
use Rattle.vp9_types.specs.declared.shape.Plane.{Plane}
use Rattle.vp9_types.specs.declared.shape.Shape.{Shape}
use Rattle.inter_places.specs.Places.{IsReference}
use Rattle.band_cells.specs.Bands.{band_height}
use Rattle.band_needs.specs.Ranges.{needs_at}
use Rattle.band_needs.specs.declared.ranges.BandNeeds.{BandNeeds}
use Rattle.band_needs.specs.declared.ranges.BandRange.{BandRange}
use Rattle.block_rebuild.specs.Code.{reference_of}
use Rattle.block_rebuild.specs.declared.references.ReferencePicture.{ReferencePicture}
use Rattle.block_rebuild.specs.declared.references.Rebuilding.{Rebuilding}

-- a row of a plane is one of these bands
pub record IsRowOfBands (shape : Shape) (bands : BandRange) (p : Plane) (y : ℕ) : Type 0 where
  pub inside : y < coded_height shape p
  pub from : bands.first ≤ y / band_height shape p
  pub to : y / band_height shape p ≤ bands.last

-- A picture has all rows of these bands, whatever else it has. Its size is in range for a frame, as are its samples.
pub record HasBands {S : Type 0} (holds : S → Plane → ℕ → Type 0) (width : S → Plane → ℕ) (map : S → FrameMap) (shape : Shape) (bands : BandRange) (r : ReferencePicture S) : Type 0 where
  pub reference : IsReference shape r.shape
  pub held : (p : Plane) (y : ℕ) → IsRowOfBands r.shape bands p y → holds r.samples.now p y
  pub wide : (p : Plane) → plane_width r.shape p ≤ width r.samples.now p
  pub range : (p : Plane) → IsAtMost (greatest shape.depth) (map r.samples.now p)

-- there is such a picture, of this shape
abbrev pub IsThere : {S : Type 0} → (S → Plane → ℕ → Type 0) → (S → Plane → ℕ) → (S → FrameMap) → Rebuilding S → ReferenceFrame → Shape → BandRange → Type 0
IsThere {S} holds width map by reference shape bands =
    (r : ReferencePicture S) × (reference_of by reference ≡ Some r) × (r.shape ≡ shape) × HasBands holds width map by.shape bands r

-- for each reference of which bands are needed
abbrev pub AreThere : {S : Type 0} → (S → Plane → ℕ → Type 0) → (S → Plane → ℕ) → (S → FrameMap) → Rebuilding S → (ReferenceFrame → Shape) → BandNeeds → Type 0
AreThere holds width map by shapes needs = (reference : ReferenceFrame) → IfSome (needs_at needs reference) (IsThere holds width map by reference (shapes reference))
