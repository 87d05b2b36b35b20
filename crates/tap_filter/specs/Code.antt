-- Vectors of the code, as the lists of their lanes.
use Rattle.std.specs.Prelude.{ℕ, ◌≡◌, ◌≤◌, ◌<◌, ◌+◌, ◌*◌, ◌/◌, ℤ, pos, List, [], ◌∷◌, length, slice_index_or, unsigned_abs}

abbrev pub at : List ℤ → ℕ → ℤ
at v j = slice_index_or v j (pos 0)

-- sixteen lanes stand in two vectors of eight, four of each half by turns: where lane j of the first and of the second belongs
abbrev pub low_lane : ℕ → ℕ
low_lane j = j + 4 * (j / 4)

abbrev pub high_lane : ℕ → ℕ
high_lane j = 4 + (j + 4 * (j / 4))

-- n lanes that are at most so large
pub record AreLanes (n most : ℕ) (v : List ℤ) : Type 0 where
  pub long : length v ≡ n
  pub small : (j : ℕ) → unsigned_abs (at v j) ≤ most

-- two taps by turns, n times
pub record AreTurns (n : ℕ) (s t : ℤ) (v : List ℤ) : Type 0 where
  pub lanes : AreLanes (2 * n) 128 v
  pub even : (j : ℕ) → j < n → at v (2 * j) ≡ s
  pub odd : (j : ℕ) → j < n → at v (2 * j + 1) ≡ t

-- the taps of four vectors
abbrev pub taps_in : List ℤ → List ℤ → List ℤ → List ℤ → List ℤ
taps_in p q r s = at p 0 ∷ at p 1 ∷ at q 0 ∷ at q 1 ∷ at r 0 ∷ at r 1 ∷ at s 0 ∷ at s 1 ∷ []

-- a vector's first two lanes stand in it by turns, n times
abbrev pub IsTurned : ℕ → List ℤ → Type 0
IsTurned n v = AreTurns n (at v 0) (at v 1) v
