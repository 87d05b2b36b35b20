-- The filters of interpolation (8.5.2 of the standard).
use Rattle.std.specs.Prelude.{ℕ, zero, suc, ◌+◌, ◌*◌, ◌≤◌, ◌&&◌, ℤ, pos, negsuc, ◌+ℤ◌, List, [], ◌∷◌, get_or, slice_index_or, Bool, nat_le, unsigned_abs}
use Rattle.vp9_types.specs.declared.block.InterpFilter.{InterpFilter}
use Rattle.vp9_tables.specs.Numbers.{filter_number}
use Rattle.vp9_tables.specs.declared.data.filters.TheConstants.{TAPS}

abbrev pub taps_of : InterpFilter → ℕ → List ℤ
taps_of kind phase = get_or TAPS (16 * filter_number kind + phase) []

abbrev pub is_small : ℤ → Bool
is_small tap = nat_le (unsigned_abs tap) 128

abbrev pub total : List ℤ → ℤ
total [] = pos 0
total (x ∷ xs) = x +ℤ total xs

abbrev pub whole_sample : List ℤ
whole_sample = pos 0 ∷ pos 0 ∷ pos 0 ∷ pos 128 ∷ pos 0 ∷ pos 0 ∷ pos 0 ∷ pos 0 ∷ []

-- how much of a number is above 0, and how much below
abbrev pub above : ℤ → ℕ
above (pos n) = n
above (negsuc n) = 0

abbrev pub below : ℤ → ℕ
below (pos n) = 0
below (negsuc n) = n + 1

-- the sums of that over the first taps
abbrev pub sum_above : List ℤ → ℕ → ℕ
sum_above taps zero = 0
sum_above taps (suc k) = sum_above taps k + above (slice_index_or taps k (pos 0))

abbrev pub sum_below : List ℤ → ℕ → ℕ
sum_below taps zero = 0
sum_below taps (suc k) = sum_below taps k + below (slice_index_or taps k (pos 0))

-- the taps of a filter: those above 0 make at most three halves of a whole sample, those below 0 at most one half. So the
-- sums of bytes that they weight have room in sixteen bits
pub record AreTaps (taps : List ℤ) : Type 0 where
  pub small : (k : ℕ) → unsigned_abs (slice_index_or taps k (pos 0)) ≤ 128
  pub above : sum_above taps 8 ≤ 192
  pub below : sum_below taps 8 ≤ 64

abbrev pub has_small_sums : List ℤ → Bool
has_small_sums taps = nat_le (sum_above taps 8) 192 && nat_le (sum_below taps 8) 64
