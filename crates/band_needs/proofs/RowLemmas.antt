-- Rows of a reference.
use Rattle.std.proofs.Common.{◌≡◌, ◌<◌, ◌≤◌, ◌+◌, ◌*◌, ◌/◌, ◌++◌, ◌∷◌, [], ℕ, List, Bool, true, false, map-id, take, take_all, length, ap, arith, ◌∙◌}
use Rattle.std.specs.List.{fold, range_with_len}
use Rattle.std.proofs.Math.Nat.{mul-zero}
use Rattle.std.proofs.lemmas.List.FromFn.{map-range_with_len_more}
use Rattle.std.proofs.lemmas.List.Sums.{fold-append}
use Rattle.vp9_types.specs.Shapes.{halved}
use Rattle.vp9_types.specs.declared.shape.Shape.{Shape}
use Rattle.block_plan.specs.declared.block.BlockInfo.{BlockInfo}
use Rattle.block_plan.specs.declared.block.InterPrediction.{InterPrediction}
use Rattle.inter_places.specs.Places.{place_of}
use Rattle.inter_places.specs.declared.part.BlockPart.{BlockPart}
use Rattle.vp9_types.specs.declared.block.ReferenceFrame.{ReferenceFrame}
use Rattle.band_needs.specs.Ranges.{no_needs}
use Rattle.band_needs.specs.declared.ranges.BandNeeds.{BandNeeds}
use Rattle.band_needs.specs.Needs.{rows_range, part_range, with_block, needs_of}
use Rattle.band_needs.specs.BandReads.{band_height}
use Rattle.band_needs.specs.declared.ranges.BandRange.{BandRange}
use Rattle.inter_places.specs.declared.axis.Axis.{Axis}
use Rattle.inter_places.specs.Axes.{straight, place, fraction, first_place}

zero : (f s : ℕ) → f < 16 → 0 ≡ (f + s * 0) / 16 + 0
zero f s low = omega (arith, low, mul-zero s)

pub first_is : (a : Axis) → fraction a < 16 → straight a 0 ≡ first_place a
unfolding place
first_is a low = ap (straight a) (zero (fraction a) a.step low)

pub range_is : (shape reference : Shape) (b : BlockInfo) (modes : InterPrediction) (part : BlockPart) (down : Axis) (rows : ℕ) (range : BandRange)
    → down ≡ (place_of shape b modes part reference).down → rows ≡ (place_of shape b modes part reference).rows
    → range ≡ rows_range (band_height reference part.plane) down rows → range ≡ part_range shape reference b modes part
range_is shape reference b modes part down rows range same many found = found ∙ (λ i. rows_range (band_height reference part.plane) (same i) (many i))

---- Bands in order ----

pub bands_rise : (ss : Bool) (a b : ℕ) → a ≤ b → a / halved ss 64 ≤ b / halved ss 64
bands_rise true a b le = omega (arith, le)
bands_rise false a b le = omega (arith, le)

---- One more of a range ----

one_more : (n : ℕ) → range_with_len 0 (n + 1) ≡ range_with_len 0 n ++ n ∷ []
one_more n = simp map-id at (map-range_with_len_more (λ (x : ℕ). x) 0 n n (omega arith))

pub fold_more : {A : Type 0} (f : A → ℕ → A) (start : A) (n : ℕ) → fold f start (range_with_len 0 (n + 1)) ≡ f (fold f start (range_with_len 0 n)) n
fold_more f start n = ap (fold f start) (one_more n) ∙ fold-append f start (range_with_len 0 n) (n ∷ [])

pub all_blocks : (shape : Shape) (references : ReferenceFrame → Shape) (blocks : List BlockInfo) (k : ℕ) (n : BandNeeds)
    → n ≡ fold (with_block shape references) no_needs (take k blocks) → length blocks ≤ k → n ≡ needs_of shape references blocks
unfolding needs_of
all_blocks shape references blocks k n so all = so ∙ ap (fold (with_block shape references) no_needs) (take_all k blocks all)
