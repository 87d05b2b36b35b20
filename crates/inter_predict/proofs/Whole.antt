-- The taps of phase 0.
use Rattle.std.proofs.Common.{◌≡◌, ℕ, ◌*◌, ◌≤◌, pos, ◌+ℤ◌, ◌*ℤ◌, arith, ◌∙◌, ap}
use Rattle.vp9_types.specs.declared.block.InterpFilter.{InterpFilter}
use Rattle.vp9_types.specs.declared.block.InterpFilter.TheVariants.{Regular, Smooth, Sharp, Bilinear}
use Rattle.vp9_tables.specs.Filters.{taps_of, whole_sample}
use Rattle.tap_filter.specs.Filter.{weighted, rounded, filtered}

whole_sum : (a b c d e f g h : ℕ) → (((pos 0 *ℤ pos a) +ℤ (pos 0 *ℤ pos b)) +ℤ ((pos 0 *ℤ pos c) +ℤ (pos 128 *ℤ pos d))) +ℤ (((pos 0 *ℤ pos e) +ℤ (pos 0 *ℤ pos f)) +ℤ ((pos 0 *ℤ pos g) +ℤ (pos 0 *ℤ pos h))) ≡ pos (128 * d)
whole_sum a b c d e f g h = grind arith

round_whole : (most d : ℕ) → d ≤ most → rounded most (pos (128 * d)) ≡ d
unfolding rounded
round_whole most d low = grind (arith, low)

whole_is : (most : ℕ) (f : ℕ → ℕ) → f 3 ≤ most → filtered most whole_sample f ≡ f 3
unfolding weighted
whole_is most f low = ap (rounded most) (whole_sum (f 0) (f 1) (f 2) (f 3) (f 4) (f 5) (f 6) (f 7)) ∙ round_whole most (f 3) low

pub whole_copies : (most : ℕ) (kind : InterpFilter) (f : ℕ → ℕ) → f 3 ≤ most → filtered most (taps_of kind 0) f ≡ f 3
whole_copies most Regular f low = whole_is most f low
whole_copies most Smooth f low = whole_is most f low
whole_copies most Sharp f low = whole_is most f low
whole_copies most Bilinear f low = whole_is most f low
