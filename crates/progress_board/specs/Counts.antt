-- Counting words. The views of all seats of a board are added up: the draws that all made, the raises of a lane, the
-- seats that have a slot.
use Rattle.std.specs.Prelude.{ℕ, ◌+◌, ◌≤◌, ◌==◌, List, [], ◌∷◌, length, if◌then◌else◌, nat_lt, All}
use Rattle.progress_board.specs.declared.view.View.{View}

-- what f is of each, added up
abbrev pub total : {A : Type 0} → (A → ℕ) → List A → ℕ
total f [] = 0
total f (x ∷ xs) = f x + total f xs

-- how often x stands in the list
abbrev pub times : ℕ → List ℕ → ℕ
times x xs = total (λ y. if y == x then 1 else 0) xs

-- 1 where x is one of the numbers below n, else 0
abbrev pub once_below : ℕ → ℕ → ℕ
once_below x n = if nat_lt x n then 1 else 0

-- how many tickets were drawn
abbrev pub draws : List View → ℕ
draws views = total (λ v. length v.drawn) views

-- how often a lane was raised
abbrev pub raises : ℕ → List View → ℕ
raises lane views = total (λ v. times lane v.raised) views

-- how many seats have a slot
abbrev pub holders : ℕ → List View → ℕ
holders slot views = total (λ v. times slot v.has) views

-- each number that was seen in a lane is one that the lane has reached
abbrev pub IsReached : List View → List (ℕ × ℕ) → Type 0
IsReached views seen = All (λ p. p.1 ≤ raises p.0 views) seen
