-- Samples that stand for numbers, set one after another.
use Rattle.std.proofs.Common.{◌≡◌, ◌<◌, ◌≤◌, ◌+◌, ◌∙◌, ℕ, ap, inl, inr, arith, List, length, get_or, map}
use Rattle.std.specs.Prelude.{slice_set}
use Rattle.std.proofs.lemmas.Bool.{cases_lt}
use Rattle.std.proofs.lemmas.List.{map-set, places, length-map}
use Rattle.std.proofs.lemmas.Grind.{get_or-set_at, same_number_lists}

-- one more of the numbers ys
pub one_set : {X : Type 0} (f : X → ℕ) (xs : List X) (ys : List ℕ) (k : ℕ) (x : X) → k < length xs → f x ≡ get_or ys k 0
    → ((j : ℕ) → j < k → get_or (map f xs) j 0 ≡ get_or ys j 0) → (j : ℕ) → j < k + 1 → get_or (map f (slice_set xs k x)) j 0 ≡ get_or ys j 0
one_set f xs ys k x here is so j low = rw (map-set f xs k x) (elim (cases_lt j k) [
  | inl before ↦ let old = so j before in grind (arith, places, length-map xs f)
  | inr at ↦ get_or-set_at (map f xs) k j (f x) 0 (omega (arith, low, at)) (omega (arith, here, length-map xs f)) ∙ (is ∙ ap (λ (n : ℕ). get_or ys n 0) (omega (arith, low, at)))
])

-- all of them
pub all_set : {X : Type 0} (f : X → ℕ) (xs : List X) (ys : List ℕ) (k : ℕ) → length xs ≡ length ys → length ys ≤ k
    → ((j : ℕ) → j < k → get_or (map f xs) j 0 ≡ get_or ys j 0) → map f xs ≡ ys
all_set f xs ys k long all so = same_number_lists (map f xs) ys (length-map xs f ∙ long) (λ j low. so j (omega (arith, low, long, all, length-map xs f)))
