-- Residue added to a predicted sample (8.6.2 of the standard).
use Rattle.std.specs.Prelude.{ℕ, ℤ, pos, ◌+ℤ◌, ◌^◌, ◌<◌, ◌≤◌, List, length, slice_index_or, unsigned_abs}
use Rattle.vp9_types.specs.Sizes.{clip}

abbrev pub with_residue : ℕ → ℕ → ℤ → ℕ
with_residue most sample residue = clip most (pos sample +ℤ residue)

-- n values, which are far from the ends of 32 bits
pub record IsResidue (n : ℕ) (residue : List ℤ) : Type 0 where
  pub enough : n ≤ length residue
  pub small : (k : ℕ) → k < n → unsigned_abs (slice_index_or residue k (pos 0)) < 2 ^ 24
