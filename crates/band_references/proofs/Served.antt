-- References that have the bands that are needed serve the blocks.
use Rattle.std.proofs.Common.{◌≡◌, ◌<◌, ◌≤◌, ◌-◌, ◌*◌, ◌/◌, Bool, true, false, ℕ, List, Option, Some, None, IfSome, refl, sym, arith, subst, le_refl, if◌then◌else◌}
use Rattle.std.specs.List.{All}
use Rattle.std.proofs.lemmas.List.Elements.{All-weaker}
use Rattle.vp9_types.specs.Maps.{FrameMap}
use Rattle.vp9_types.specs.Shapes.{halved, mi_rows, plane_height}
use Rattle.vp9_types.specs.declared.block.ReferenceFrame.{ReferenceFrame}
use Rattle.vp9_types.specs.declared.shape.Plane.{Plane}
use Rattle.vp9_types.specs.declared.shape.Plane.TheVariants.{Y}
use Rattle.vp9_types.specs.declared.shape.Shape.{Shape}
use Rattle.block_geometry.specs.BlockSizes.{is_below_8x8}
use Rattle.block_plan.specs.declared.block.BlockInfo.{BlockInfo}
use Rattle.block_plan.specs.declared.block.InterPrediction.{InterPrediction}
use Rattle.block_plan.specs.declared.block.Prediction.{Prediction}
use Rattle.block_plan.specs.declared.block.Prediction.TheVariants.{Intra, Inter}
use Rattle.inter_places.proofs.Orders.{place_order}
use Rattle.inter_places.specs.Axes.{first_place, last_place}
use Rattle.inter_places.specs.Places.{IsReference, parts_of, place_of}
use Rattle.inter_places.specs.declared.part.BlockPart.{BlockPart}
use Rattle.band_needs.proofs.Exact.{block_lies}
use Rattle.band_needs.specs.Needs.{needs_of}
use Rattle.band_needs.specs.Ranges.{needs_at}
use Rattle.band_needs.specs.BandReads.{part_in, ListLiesIn, BlockLiesIn}
use Rattle.band_needs.specs.declared.ranges.BandNeeds.{BandNeeds}
use Rattle.band_needs.specs.declared.ranges.BandRange.{BandRange}
use Rattle.block_rebuild.proofs.Parts.{row_held}
use Rattle.block_rebuild.specs.Code.{IsServed, AreServed}
use Rattle.block_rebuild.specs.declared.references.Rebuilding.{Rebuilding}
use Rattle.band_references.proofs.Heights.{same_height, shown_rows, some_length}
use Rattle.band_references.specs.BandReferences.{IsRowOfBands, IsThere, AreThere}

some_parts : (ss_y ss_x below : Bool) → 0 < (if below then halved ss_y 2 * halved ss_x 2 else 1)
some_parts true true true = omega arith
some_parts true false true = omega arith
some_parts false true true = omega arith
some_parts false false true = omega arith
some_parts true true false = omega arith
some_parts true false false = omega arith
some_parts false true false = omega arith
some_parts false false false = omega arith

some_size : (shape reference : Shape) (b : BlockInfo) (modes : InterPrediction) (p : Plane) (n list : ℕ) → IsReference shape reference
    → 0 < (place_of shape b modes (part_in p n list) reference).down.size
unfolding place_of
some_size shape reference b modes p n list is = some_length shape reference p is

plane_same : (shape reference : Shape) (b : BlockInfo) (modes : InterPrediction) (part : BlockPart) → (place_of shape b modes part reference).plane ≡ part.plane
unfolding place_of
plane_same shape reference b modes part = refl

-- a row from the first to the last one that a part is predicted from
row_of_bands : (shape reference : Shape) (b : BlockInfo) (modes : InterPrediction) (list : ℕ) (bands : BandRange) (p : Plane) (n y : ℕ) → IsReference shape reference
    → ListLiesIn shape reference b modes list (Some bands) → n < parts_of shape b.size p
    → first_place (place_of shape b modes (part_in p n list) reference).down ≤ y
    → y ≤ last_place (place_of shape b modes (part_in p n list) reference).down (place_of shape b modes (part_in p n list) reference).rows
    → IsRowOfBands reference bands p y
row_of_bands shape reference b modes list bands p n y is lies low first last =
    let band = lies p n low y first last in
    let shown : y < plane_height reference p =
    rw (plane_same shape reference b modes (part_in p n list)) at
    (row_held shape reference b modes (part_in p n list) (place_of shape b modes (part_in p n list) reference) _ y refl (some_size shape reference b modes p n list is) last) in
    record {
      inside = omega (arith, shown, shown_rows reference p);
      from = subst (λ h. bands.first ≤ y / h) (same_height reference p) band.0;
      to = subst (λ h. y / h ≤ bands.last) (same_height reference p) band.1;
    }

module _ {S : Type 0} (holds : S → Plane → ℕ → Type 0) (width : S → Plane → ℕ) (map : S → FrameMap) (by : Rebuilding S) where
  -- by the first vectors of a block, or the second ones
  list_served : (b : BlockInfo) (modes : InterPrediction) (list : ℕ) (reference : ReferenceFrame) (shape : Shape) (needed : Option BandRange)
      → IfSome needed (IsThere holds width map by reference shape) → ListLiesIn by.shape shape b modes list needed → IsServed holds width map by b modes list reference
  list_served b modes list reference shape None there lies =
      let at = place_of by.shape b modes (part_in Y 0 list) shape in
      absurd (lies Y 0 (some_parts false false (is_below_8x8 b.size)) (first_place at.down) (le_refl (first_place at.down)) (place_order at.down 0 (at.rows - 1) 0 7 (omega arith) (omega arith)))
  list_served b modes list reference shape (Some bands) there lies =
      let r = there.0 in
      let has = there.3 in
      let same : ListLiesIn by.shape r.shape b modes list (Some bands) = subst (λ (s : Shape). ListLiesIn by.shape s b modes list (Some bands)) (sym there.2) lies in (
        r,
        there.1,
        record {
          reference = has.reference;
          held = λ p n low y first last. has.held p y (row_of_bands by.shape r.shape b modes list bands p n y has.reference same low first last);
          wide = has.wide;
          range = has.range;
        },
      )

  second_served : (shapes : ReferenceFrame → Shape) (needs : BandNeeds) (b : BlockInfo) (modes : InterPrediction) (second : Option ReferenceFrame) → AreThere holds width map by shapes needs
      → IfSome second (λ r. ListLiesIn by.shape (shapes r) b modes 1 (needs_at needs r)) → IfSome second (IsServed holds width map by b modes 1)
  second_served shapes needs b modes None there lies = lies
  second_served shapes needs b modes (Some r) there lies = list_served b modes 1 r (shapes r) (needs_at needs r) (there r) lies

  block_served : (shapes : ReferenceFrame → Shape) (needs : BandNeeds) (b : BlockInfo) (p : Prediction) → AreThere holds width map by shapes needs
      → BlockLiesIn by.shape shapes b p (needs_at needs) → AreServed holds width map by b p
  block_served shapes needs b (Intra modes) there lies = lies
  block_served shapes needs b (Inter modes) there lies = (
    list_served b modes 0 modes.references.first (shapes modes.references.first) (needs_at needs modes.references.first) (there modes.references.first) lies.0,
    second_served shapes needs b modes modes.references.second there lies.1,
  )

  pub blocks_served : (shapes : ReferenceFrame → Shape) (blocks : List BlockInfo) → All (λ b. b.row < mi_rows by.shape) blocks
      → AreThere holds width map by shapes (needs_of by.shape shapes blocks) → All (λ b. AreServed holds width map by b b.prediction) blocks
  blocks_served shapes blocks inside there =
      All-weaker
      (λ b. BlockLiesIn by.shape shapes b b.prediction (needs_at (needs_of by.shape shapes blocks)))
      (λ b. AreServed holds width map by b b.prediction)
      (λ b lies. block_served shapes (needs_of by.shape shapes blocks) b b.prediction there lies)
      blocks
      (block_lies by.shape shapes blocks inside)
