-- The bands that are needed lie in the frame.
use Rattle.std.proofs.Common.{◌≡◌, ◌<◌, ◌/◌, inl, inr, ℕ, List, [], ◌∷◌, length, Some, sym, ◌∙◌, ap, arith, subst}
use Rattle.std.specs.List.{All}
use Rattle.std.specs.Prelude.{slice_index_or}
use Rattle.vp9_types.specs.Shapes.{mi_rows, plane_height, bands_of}
use Rattle.vp9_types.specs.declared.block.ReferenceFrame.{ReferenceFrame}
use Rattle.vp9_types.specs.declared.shape.Plane.{Plane}
use Rattle.vp9_types.specs.declared.shape.Shape.{Shape}
use Rattle.block_plan.specs.declared.block.BlockInfo.{BlockInfo}
use Rattle.block_plan.specs.declared.block.InterPrediction.{InterPrediction}
use Rattle.block_plan.specs.declared.block.Prediction.{Prediction}
use Rattle.block_plan.specs.declared.block.Prediction.TheVariants.{Intra, Inter}
use Rattle.inter_places.specs.Places.{IsReference, place_of}
use Rattle.inter_predict.proofs.Agree.{place_below}
use Rattle.band_cells.specs.Bands.{band_height}
use Rattle.band_needs.proofs.Exact.{needs_are}
use Rattle.band_needs.specs.Needs.{needs_of}
use Rattle.band_needs.specs.Ranges.{needs_at}
use Rattle.band_needs.specs.BandReads.{part_in, ReadsRow, ListReads, ReadsBy, ReadsBand, BlocksRead, IsRangeOf, AreRead}
use Rattle.band_needs.specs.declared.ranges.BandRange.{BandRange}
use Rattle.band_references.proofs.Heights.{same_height, band_inside, some_length}

row_shown : (shape reference : Shape) (b : BlockInfo) (modes : InterPrediction) (p : Plane) (n list y : ℕ) → IsReference shape reference
    → ReadsRow (place_of shape b modes (part_in p n list) reference) y → y < plane_height reference p
unfolding place_of
row_shown shape reference b modes p n list y is row =
    rw row.is (place_below (place_of shape b modes (part_in p n list) reference).down row.sample row.tap (some_length shape reference p is))

list_shown : (shape reference : Shape) (b : BlockInfo) (modes : InterPrediction) (list : ℕ) (p : Plane) (y : ℕ) → IsReference shape reference
    → ListReads shape reference b modes list p y → y < plane_height reference p
list_shown shape reference b modes list p y is reads = row_shown shape reference b modes p reads.number list y is reads.row

read_shown : (shape : Shape) (shapes : ReferenceFrame → Shape) (b : BlockInfo) (r : ReferenceFrame) (p : Plane) (y : ℕ) (prediction : Prediction) → IsReference shape (shapes r)
    → ReadsBy shape shapes b prediction r p y → y < plane_height (shapes r) p
read_shown shape shapes b r p y (Intra modes) is reads = absurd reads
read_shown shape shapes b r p y (Inter modes) is (inl first) = list_shown shape (shapes r) b modes 0 p y is first.1
read_shown shape shapes b r p y (Inter modes) is (inr second) = list_shown shape (shapes r) b modes 1 p y is second.1

band_shown : (shape : Shape) (shapes : ReferenceFrame → Shape) (b : BlockInfo) (r : ReferenceFrame) (band : ℕ) → IsReference shape (shapes r)
    → ReadsBand shape shapes b r band → band < bands_of (shapes r)
band_shown shape shapes b r band is reads =
    let shown = read_shown shape shapes b r reads.plane reads.row b.prediction is reads.reads in
    let same : band ≡ reads.row / band_height (shapes r) reads.plane = reads.is ∙ ap (λ h. reads.row / h) (same_height (shapes r) reads.plane) in
    subst (λ k. k < bands_of (shapes r)) (sym same) (band_inside (shapes r) reads.plane reads.row shown)

some_block : (blocks : List BlockInfo) (k : ℕ) → k < length blocks → BlockInfo
some_block [] k low = absurd (none k low)
  where
    none : (k : ℕ) → k < 0 → ⊥
    none k low = omega arith
some_block (b ∷ blocks) k low = b

pub bands_inside : (shape : Shape) (shapes : ReferenceFrame → Shape) (blocks : List BlockInfo) (r : ReferenceFrame) (bands : BandRange) → All (λ b. b.row < mi_rows shape) blocks
    → IsReference shape (shapes r) → needs_at (needs_of shape shapes blocks) r ≡ Some bands → bands.last < bands_of (shapes r)
bands_inside shape shapes blocks r bands inside is named =
    let range : IsRangeOf (BlocksRead shape shapes blocks (length blocks) r) bands =
    subst (AreRead (BlocksRead shape shapes blocks (length blocks) r)) named (needs_are shape shapes blocks r inside) in
    let d = some_block blocks range.last.block range.last.one in
    band_shown shape shapes (slice_index_or blocks range.last.block d) r bands.last is (range.last.reads d)
