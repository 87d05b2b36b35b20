-- Rows of four values that become columns.
use Rattle.std.specs.Prelude.{◌≡◌, ℕ, ◌+◌, ◌*◌, ◌<◌, ℤ, List, [], ◌∷◌, ◌++◌, length, All, slice_index_or}
use Rattle.inverse_transforms.specs.Ranges.{IsSmall}
use Rattle.inverse_transforms.specs.Flow.{at}

-- four values that are small
abbrev pub IsFour : List ℤ → Type 0
IsFour xs = (length xs ≡ 4) × All IsSmall xs

-- what stands at a place of four lists
abbrev pub across : List ℤ → List ℤ → List ℤ → List ℤ → ℕ → List ℤ
across a b c d i = at a i ∷ at b i ∷ at c i ∷ at d i ∷ []

-- the values at a place and in the next three rows of n
abbrev pub four_down : ℕ → List ℤ → ℕ → List ℤ
four_down n xs place = at xs place ∷ at xs (place + n) ∷ at xs (place + 2 * n) ∷ at xs (place + 3 * n) ∷ []

-- and in the next seven
abbrev pub eight_down : ℕ → List ℤ → ℕ → List ℤ
eight_down n xs place = four_down n xs place ++ four_down n xs (place + 4 * n)

-- the first k rows of lanes have the columns from a place on
abbrev pub AreLoaded : ℕ → List ℤ → ℕ → List (List ℤ) → ℕ → Type 0
AreLoaded n xs place t k = (i : ℕ) → i < k → slice_index_or t i [] ≡ eight_down n xs (place + i)
