-- Parts of a plane, and the planes of chroma.
use Rattle.std.proofs.Common.{◌≡◌, ◌<◌, ◌≤◌, ℕ, Bool, true, false, refl, ap, sym, ◌∙◌, arith}
use Rattle.std.specs.Prelude.{◌*◌, min, max, if◌then◌else◌}
use Rattle.std.specs.List.{fold, range_with_len}
use Rattle.vp9_types.specs.declared.shape.Plane.{Plane}
use Rattle.vp9_types.specs.declared.shape.Plane.TheVariants.{Y, U, V}
use Rattle.vp9_types.specs.declared.shape.Shape.{Shape}
use Rattle.vp9_types.specs.declared.block.BlockSize.{BlockSize}
use Rattle.block_plan.specs.declared.block.BlockInfo.{BlockInfo}
use Rattle.block_plan.specs.declared.block.InterPrediction.{InterPrediction}
use Rattle.block_geometry.specs.BlockSizes.{is_below_8x8}
use Rattle.inter_places.specs.Places.{fours, parts_of, place_of, is_subsampled}
use Rattle.inter_places.specs.declared.part.Direction.TheVariants.{Across, Down}
use Rattle.band_needs.specs.Needs.{list_range, part_range, plane_range, with_part}
use Rattle.band_needs.specs.Ranges.{both_ranges}
use Rattle.band_needs.specs.BandReads.{part_in}
use Rattle.band_needs.specs.declared.ranges.BandRange.{BandRange}

---- Parts ----

some_fours : (a b : Bool) → 0 < fours a * fours b
some_fours true true = omega arith
some_fours true false = omega arith
some_fours false true = omega arith
some_fours false false = omega arith

some_if : (small : Bool) (n : ℕ) → 0 < n → 0 < (if small then n else 1)
some_if true n some = some
some_if false n some = omega arith

pub some_parts : (shape : Shape) (size : BlockSize) (p : Plane) → 0 < parts_of shape size p
some_parts shape size p = some_if (is_below_8x8 size) _ (some_fours (is_subsampled shape p Down) (is_subsampled shape p Across))

min_same : (n : ℕ) → min n n ≡ n
min_same n = omega arith

max_same : (n : ℕ) → max n n ≡ n
max_same n = omega arith

same_twice : (s : BandRange) → both_ranges s s ≡ s
same_twice s = λ i. record { first = min_same s.first i; last = max_same s.last i }

pub first_twice : (shape reference : Shape) (b : BlockInfo) (modes : InterPrediction) (list : ℕ) (p : Plane)
    → part_range shape reference b modes (part_in p 0 list) ≡ fold (with_part shape reference b modes list p) (part_range shape reference b modes (part_in p 0 list)) (range_with_len 0 1)
first_twice shape reference b modes list p = sym (same_twice (part_range shape reference b modes (part_in p 0 list)))

---- Chroma ----

part_alike : (shape reference : Shape) (b : BlockInfo) (modes : InterPrediction) (list n : ℕ) → part_range shape reference b modes (part_in V n list) ≡ part_range shape reference b modes (part_in U n list)
unfolding place_of
part_alike shape reference b modes list n = refl

plane_alike : (shape reference : Shape) (b : BlockInfo) (modes : InterPrediction) (list : ℕ) → plane_range shape reference b modes list V ≡ plane_range shape reference b modes list U
unfolding plane_range
plane_alike shape reference b modes list =
    (λ i. fold (λ s n. both_ranges s (part_alike shape reference b modes list n i)) (part_alike shape reference b modes list 0 i) (range_with_len 0 (parts_of shape b.size U)))

min_again : (a b : ℕ) → min (min a b) b ≡ min a b
min_again a b = omega arith

max_again : (a b : ℕ) → max (max a b) b ≡ max a b
max_again a b = omega arith

both_again : (s t : BandRange) → both_ranges (both_ranges s t) t ≡ both_ranges s t
both_again s t = λ i. record { first = min_again s.first t.first i; last = max_again s.last t.last i }

pub list_by_two : (shape reference : Shape) (b : BlockInfo) (modes : InterPrediction) (list : ℕ)
    → both_ranges (plane_range shape reference b modes list Y) (plane_range shape reference b modes list U) ≡ list_range shape reference b modes list
unfolding list_range
list_by_two shape reference b modes list =
    sym (both_again (plane_range shape reference b modes list Y) (plane_range shape reference b modes list U))
    ∙ ap (both_ranges (both_ranges (plane_range shape reference b modes list Y) (plane_range shape reference b modes list U))) (sym (plane_alike shape reference b modes list))
