-- Sums over lists, and what one change of a list makes of them.
use Rattle.std.proofs.Common.{◌≡◌, ◌≢◌, ℕ, ◌+◌, ◌<◌, ◌≤◌, ◌==◌, zero, suc, List, [], ◌∷◌, ◌++◌, length, set, All, if◌then◌else◌, refl, sym, ap, arith}
use Rattle.std.proofs.lemmas.List.Elements.{All-nil, All-cons}
use Rattle.std.proofs.lemmas.Bool.Decides.{nat_tests}
use mathlib.Core.Option.{some, some-injective, some-ne-none}
use lib.ListN.{get_elem?}
use Rattle.progress_board.specs.Counts.{total, times, once_below}

module _ {A : Type 0} (f : A → ℕ) where
  pub total_set : (xs : List A) (i : ℕ) (v w : A) → get_elem? xs i ≡ some v → total f (set xs i w) + f v ≡ total f xs + f w
  total_set [] i v w e = absurd (some-ne-none v (sym e))
  total_set (x ∷ xs) zero v w e = let same : f x ≡ f v = ap f (some-injective x v e) in omega arith
  total_set (x ∷ xs) (suc i) v w e = let h = total_set xs i v w e in omega arith

  pub total_push : (xs : List A) (x : A) → total f (xs ++ x ∷ []) ≡ total f xs + f x
  total_push [] x = omega arith
  total_push (y ∷ xs) x = let h = total_push xs x in omega arith

  pub total_append : (xs ys : List A) → total f (xs ++ ys) ≡ total f xs + total f ys
  total_append [] ys = omega arith
  total_append (y ∷ xs) ys = let h = total_append xs ys in omega arith

  pub part_le : (xs : List A) (i : ℕ) (v : A) → get_elem? xs i ≡ some v → f v ≤ total f xs
  part_le [] i v e = absurd (some-ne-none v (sym e))
  part_le (x ∷ xs) zero v e = let same : f x ≡ f v = ap f (some-injective x v e) in omega arith
  part_le (x ∷ xs) (suc i) v e = let h = part_le xs i v e in omega arith

pub at_below : {A : Type 0} (xs : List A) (i : ℕ) (v : A) → get_elem? xs i ≡ some v → i < length xs
at_below [] i v e = absurd (some-ne-none v (sym e))
at_below (x ∷ xs) zero v e = omega arith
at_below (x ∷ xs) (suc i) v e = let h = at_below xs i v e in omega arith

pub below_more : (x n : ℕ) → once_below x (n + 1) ≡ once_below x n + (if n == x then 1 else 0)
below_more x n = grind (arith, nat_tests)

pub below_pos : (x n : ℕ) → 1 ≤ once_below x n → x < n
below_pos x n h = grind (arith, nat_tests)

pub times_self : (x : ℕ) (xs : List ℕ) → times x (x ∷ xs) ≡ times x xs + 1
times_self x xs = grind (arith, nat_tests)

pub times_other : (x y : ℕ) (xs : List ℕ) → x ≢ y → times x (y ∷ xs) ≡ times x xs
times_other x y xs n = grind (arith, nat_tests)

-- the numbers of a list that has each at most as often as the numbers below n are below n
pub all_below : (xs : List ℕ) (n : ℕ) → ((x : ℕ) → times x xs ≤ once_below x n) → All (λ x. x < n) xs
all_below [] n h = All-nil (λ (x : ℕ). x < n)
all_below (y ∷ xs) n h =
    let here = times_self y xs in
    let there = h y in
    All-cons (λ (x : ℕ). x < n) y xs (below_pos y n (omega arith)) (all_below xs n (λ x. let k = h x in omega arith))

-- where one has all there is, the others have nothing
pub others_none : {A : Type 0} (f : A → ℕ) (xs : List A) (i j : ℕ) (v u : A) → get_elem? xs i ≡ some v → get_elem? xs j ≡ some u → j ≢ i → total f xs ≤ f v → f u ≡ 0
others_none f [] i j v u a b n le = absurd (some-ne-none v (sym a))
others_none f (x ∷ xs) zero zero v u a b n le = absurd (n refl)
others_none f (x ∷ xs) zero (suc j) v u a b n le =
    let same : f x ≡ f v = ap f (some-injective x v a) in let p = part_le f xs j u b in omega arith
others_none f (x ∷ xs) (suc i) zero v u a b n le =
    let same : f x ≡ f u = ap f (some-injective x u b) in let p = part_le f xs i v a in omega arith
others_none f (x ∷ xs) (suc i) (suc j) v u a b n le = others_none f xs i j v u a b (λ e. n (ap suc e)) (omega arith)

-- where the others have nothing, one has all there is
pub one_has_all : {A : Type 0} (f : A → ℕ) (xs : List A) (i : ℕ) (v : A) → get_elem? xs i ≡ some v → ((j : ℕ) (u : A) → j ≢ i → get_elem? xs j ≡ some u → f u ≡ 0) → total f xs ≡ f v
one_has_all f [] i v a none' = absurd (some-ne-none v (sym a))
one_has_all f (x ∷ xs) zero v a none' =
    let same : f x ≡ f v = ap f (some-injective x v a) in
    let zero' : total f xs ≡ 0 = all_zero f xs (λ j u b. none' (suc j) u (λ e. omega (arith, e)) b) in omega arith
  where
    all_zero : {A : Type 0} (f : A → ℕ) (xs : List A) → ((j : ℕ) (u : A) → get_elem? xs j ≡ some u → f u ≡ 0) → total f xs ≡ 0
    all_zero f [] h = refl
    all_zero f (y ∷ ys) h = let a = h zero y refl in let b = all_zero f ys (λ j u e. h (suc j) u e) in omega arith
one_has_all f (x ∷ xs) (suc i) v a none' =
    let h = one_has_all f xs i v a (λ j u n b. none' (suc j) u (λ e. n (omega (arith, e))) b) in let z = none' zero x (λ e. omega (arith, e)) refl in omega arith
