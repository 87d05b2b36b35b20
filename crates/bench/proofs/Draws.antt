-- Samples that are drawn one after another.
use Rattle.std.proofs.Common.{◌<◌, ◌≤◌, ◌+◌, ◌≡◌, ℕ, inl, inr, arith, ap, List, length, get_or, map}
use Rattle.std.specs.Prelude.{slice_set}
use Rattle.std.proofs.lemmas.Bool.{cases_lt}
use Rattle.std.proofs.lemmas.List.{map-set, get_or-set_other, length-map}
use Rattle.std.proofs.lemmas.Grind.{get_or-set_at}
use Rattle.vp9_types.specs.Maps.{Map, IsAtMost, with_block}
use Rattle.planes.proofs.PlaneLemmas.{with_block_small}

-- one more of them is small
pub one_drawn : {X : Type 0} (f : X → ℕ) (xs : List X) (k most : ℕ) (x : X) → k < length xs → f x ≤ most
    → ((j : ℕ) → j < k → get_or (map f xs) j 0 ≤ most) → (j : ℕ) → j < k + 1 → get_or (map f (slice_set xs k x)) j 0 ≤ most
one_drawn f xs k most x here small so j low = rw (map-set f xs k x) (elim (cases_lt j k) [
  | inl before ↦ rw (get_or-set_other (map f xs) k j (f x) 0 (λ same. omega (arith, same, before))) (so j before)
  | inr at ↦ rw (get_or-set_at (map f xs) k j (f x) 0 (omega (arith, low, at)) (omega (arith, here, length-map xs f))) small
])

-- a row of them in a plane
pub row_drawn : (most : ℕ) (m new : Map) (row column n : ℕ) (w : List ℕ) → IsAtMost most m → ((k : ℕ) → get_or w k 0 ≤ most)
    → new ≡ with_block m row column 1 n (λ _ j. get_or w j 0) → IsAtMost most new
row_drawn most m new row column n w small drawn is y x =
    rw (ap (λ (f : Map). f y x) is) (with_block_small most m row column 1 n (λ _ j. get_or w j 0) small (λ _ j. drawn j) y x)
