-- Words on lists of numbers.
use Rattle.std.specs.Prelude.{◌≡◌, ℕ, ◌≤◌, ◌<◌, List, length, slice_index, nat_eq}
use Rattle.std.specs.List.{IsDistinct, AllByRecursion}

-- no entry is below an earlier one
abbrev pub NeverFalls : List ℕ → Type 0
NeverFalls xs = (i j : ℕ) → i ≤ j → j < length xs → slice_index xs i ≤ slice_index xs j

-- each number below n stands in the list once
abbrev pub IsPermutation : ℕ → List ℕ → Type 0
IsPermutation n xs = (length xs ≡ n) × AllByRecursion (λ x. x < n) xs × IsDistinct nat_eq xs
