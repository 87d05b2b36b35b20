-- One filtered value: eight samples weighted by the taps of a filter, Round2 by 7 bits, and the clip to the depth (the
-- block inter prediction process, 8.5.2 of the standard).
use Rattle.std.specs.Prelude.{ℕ, ◌≤◌, ℤ, pos, ◌+ℤ◌, ◌*ℤ◌, List, slice_index_or, unsigned_abs}
use Rattle.std.specs.Int.{int_shr}
use Rattle.vp9_types.specs.Sizes.{clip}

abbrev pub weight : List ℤ → ℕ → ℕ → ℤ
weight taps k sample = slice_index_or taps k (pos 0) *ℤ pos sample

-- the sum of eight weighted samples, f k being the one of tap k
unfoldable pub weighted : List ℤ → (ℕ → ℕ) → ℤ
weighted taps f =
    (((weight taps 0 (f 0) +ℤ weight taps 1 (f 1)) +ℤ (weight taps 2 (f 2) +ℤ weight taps 3 (f 3)))
    +ℤ ((weight taps 4 (f 4) +ℤ weight taps 5 (f 5)) +ℤ (weight taps 6 (f 6) +ℤ weight taps 7 (f 7))))

-- Round2 by 7 bits, clipped
unfoldable pub rounded : ℕ → ℤ → ℕ
rounded most sum = clip most (int_shr (sum +ℤ pos 64) 7)

abbrev pub filtered : ℕ → List ℤ → (ℕ → ℕ) → ℕ
filtered most taps f = rounded most (weighted taps f)

-- a tap is at most one whole sample
abbrev pub IsTap : ℤ → Type 0
IsTap tap = unsigned_abs tap ≤ 128
