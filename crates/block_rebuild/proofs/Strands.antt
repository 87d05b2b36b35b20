-- Steps of several columns and rows: those of one column alone, and row after row.
use Rattle.std.proofs.Common.{◌≡◌, ◌≢◌, ◌<◌, ◌≤◌, ◌+◌, ◌⊎◌, inl, inr, Bool, true, false, ℕ, zero, suc, List, [], ◌∷◌, ◌++◌, refl, sym, ◌∙◌, ap, arith, subst, nat_lt, nat_eq}
use Rattle.std.specs.Prelude.{if◌then◌else◌, slice_index_or}
use Rattle.std.specs.List.{All, AllPairs, fold, filter}
use Rattle.std.proofs.lemmas.Bool.{cases_lt, lt-ltb, le-ltb, ltb-true, eqb-true, eq-eqb}
use Rattle.std.proofs.lemmas.Bool.Decides.{eqb_tells}
use Rattle.std.proofs.lemmas.List.Elements.{All-head, All-tail, All-filter, All-weaker, filter_passes}
use Rattle.std.proofs.lemmas.List.Sums.{fold-append}
use Rattle.vp9_types.specs.Maps.{Map}
use Rattle.block_rebuild.specs.Strips.{Region, IsIn, IsAround}
use Rattle.block_rebuild.specs.Laws.{SameAround, StaysIn}
use Rattle.block_rebuild.proofs.Regions.{around, fold_stays}

---- Those of one column alone ----

-- a step changes nothing around a region
abbrev pub Spares : Region → (Map → Map) → Type 0
Spares g f = (m : Map) (y x : ℕ) → IsAround g y x → f m y x ≡ m y x

-- a step is one of a region, or it spares it
abbrev pub IsSorted : {A : Type 0} → Region → (A → Bool) → (Map → A → Map) → A → Type 0
IsSorted g test put a = ((test a ≡ true) × StaysIn g g (λ m. put m a)) ⊎ ((test a ≡ false) × Spares g (λ m. put m a))

pub alone : {A : Type 0} (g : Region) (test : A → Bool) (put : Map → A → Map) (xs : List A) → All (IsSorted g test put) xs
    → (m n : Map) → SameAround g m n → SameAround g (fold put m xs) (fold put n (filter test xs))
alone g test put [] sorted m n same = same
alone g test put (a ∷ xs) sorted m n same = elim (All-head (IsSorted g test put) a xs sorted) [
  | inl its ↦ rw its.0 (alone g test put xs (All-tail (IsSorted g test put) a xs sorted) (put m a) (put n a) (its.1.needs m n same))
  | inr other ↦ rw other.0 (alone g test put xs (All-tail (IsSorted g test put) a xs sorted) (put m a) n (λ y x near. other.1 m y x near ∙ same y x near))
]

---- Row after row ----

filter_none : {A : Type 0} (p : A → Bool) (xs : List A) → All (λ x. p x ≡ false) xs → filter p xs ≡ []
filter_none p [] none = refl
filter_none p (x ∷ xs) none = rw (All-head (λ x. p x ≡ false) x xs none) (filter_none p xs (All-tail (λ x. p x ≡ false) x xs none))

pairs_tail : {A : Type 0} (R : A → A → Type 0) (x : A) (xs : List A) → AllPairs R (x ∷ xs) → AllPairs R xs
pairs_tail R x xs pairs = λ i j d low last. pairs (suc i) (suc j) d (omega (arith, low)) (omega (arith, last))

pairs_head : {A : Type 0} (R : A → A → Type 0) (x : A) (xs : List A) → AllPairs R (x ∷ xs) → All (R x) xs
pairs_head R x xs pairs = λ k d low. pairs 0 (suc k) d (omega arith) (omega (arith, low))

pub differs : (a b : ℕ) → a ≢ b → nat_eq a b ≡ false
differs a b n = elim (eqb_tells a b) [
  | inl e ↦ absurd (n e.1)
  | inr e ↦ e.0
]

-- the sample of a map, in one row alone
abbrev pub only_row : ℕ → Map → Map
only_row end m = λ y x. if nat_eq (y + 1) end then m y x else 0

abbrev pub nothing : Map
nothing = λ y x. 0

leaves_all : {A : Type 0} (put : Map → A → Map) (ys : List A) (y x : ℕ) → All (λ a. (m : Map) → put m a y x ≡ m y x) ys → (m : Map) → fold put m ys y x ≡ m y x
leaves_all put [] y x each m = refl
leaves_all put (a ∷ ys) y x each m =
    leaves_all put ys y x (All-tail (λ a. (m : Map) → put m a y x ≡ m y x) a ys each) (put m a) ∙ All-head (λ a. (m : Map) → put m a y x ≡ m y x) a ys each m

module _ {A : Type 0} (row : A → ℕ) where
  abbrev pub before : ℕ → A → Bool
  before r a = nat_lt (row a) r

  abbrev pub at : ℕ → A → Bool
  at r a = nat_eq (row a) r

  abbrev pub behind : ℕ → A → Bool
  behind r a = nat_lt r (row a)

  abbrev pub InOrder : List A → Type 0
  InOrder xs = AllPairs (λ a b. row a ≤ row b) xs

  -- a list in order is what comes before a row, the row, and what comes behind it
  pub parts : (r : ℕ) (xs : List A) → InOrder xs → xs ≡ filter (before r) xs ++ (filter (at r) xs ++ filter (behind r) xs)
  parts r [] order = refl
  parts r (a ∷ xs) order =
      let rest = parts r xs (pairs_tail (λ a b. row a ≤ row b) a xs order) in
      let later = pairs_head (λ a b. row a ≤ row b) a xs order in
      elim (cases_lt (row a) r) [
        | inl low ↦ rw (lt-ltb (row a) r low, differs (row a) r (λ e. omega (arith, e, low)), le-ltb r (row a) (omega (arith, low))) (ap (λ ys. a ∷ ys) rest)
        | inr high ↦
            let no_before : filter (before r) xs ≡ [] = filter_none (before r) xs (All-weaker (λ b. row a ≤ row b) (λ b. before r b ≡ false) (λ b less. le-ltb (row b) r (omega (arith, high, less))) xs later) in
            elim (cases_lt r (row a)) [
              | inl far ↦
                  let no_at : filter (at r) xs ≡ [] = filter_none (at r) xs (All-weaker (λ b. row a ≤ row b) (λ b. at r b ≡ false) (λ b less. differs (row b) r (λ e. omega (arith, e, far, less))) xs later) in
                  rw (le-ltb (row a) r high, differs (row a) r (λ e. omega (arith, e, far)), lt-ltb r (row a) far, no_before, no_at)
                  (ap (λ ys. a ∷ ys) (rest ∙ (rw (no_before, no_at) refl)))
              | inr near ↦
                  let same : row a ≡ r = omega (arith, near, high) in
                  rw (le-ltb (row a) r high, eq-eqb (row a) r same, le-ltb r (row a) near, no_before)
                  (ap (λ ys. a ∷ ys) (rest ∙ (rw no_before refl)))
            ]
      ]

  -- rows whose first samples these are, in some columns
  abbrev pub region : (ℕ → ℕ) → ℕ → ℕ → ℕ → Region
  region edge left right r = record { top = edge r; bottom = edge (r + 1); left = left; right = right }

  -- what a row makes of the last row of samples above it
  unfoldable pub strands : (ℕ → ℕ) → (Map → A → Map) → List A → ℕ → Map
  strands edge put xs zero = fold put nothing (filter (at 0) xs)
  strands edge put xs (suc r) = fold put (only_row (edge (r + 1)) (strands edge put xs r)) (filter (at (r + 1)) xs)

  module _ (edge : ℕ → ℕ) (left right : ℕ) (put : Map → A → Map) (xs : List A)
      (first : edge 0 ≡ 0) (grows : (r : ℕ) → edge r < edge (r + 1)) (rises : (r k : ℕ) → r ≤ k → edge r ≤ edge k)
      (order : InOrder xs) (stay : All (λ a. StaysIn (region edge left right (row a)) (region edge left right (row a)) (λ m. put m a)) xs) where
    abbrev Stays : A → Type 0
    Stays a = StaysIn (region edge left right (row a)) (region edge left right (row a)) (λ m. put m a)

    -- rows behind leave what stands above them, and rows before what stands below them
    later : (ys : List A) → All Stays ys → (r : ℕ) → All (λ a. behind r a ≡ true) ys → (m : Map) (y x : ℕ) → y < edge (r + 1) → fold put m ys y x ≡ m y x
    later ys each r all m y x high = leaves_all put ys y x (λ k d low. λ n. (each k d low).leaves n y x (λ i.
        let far = rises (r + 1) (row (slice_index_or ys k d)) (let h = ltb-true r (row (slice_index_or ys k d)) (all k d low) in omega (arith, h)) in
        omega (arith, i.below, far, high))) m

    earlier : (ys : List A) → All Stays ys → (r : ℕ) → All (λ a. before r a ≡ true) ys → (m : Map) (y x : ℕ) → edge r ≤ y → fold put m ys y x ≡ m y x
    earlier ys each r all m y x low = leaves_all put ys y x (λ k d less. λ n. (each k d less).leaves n y x (λ i.
        let near = rises (row (slice_index_or ys k d) + 1) r (let h = ltb-true (row (slice_index_or ys k d)) r (all k d less) in omega (arith, h)) in
        omega (arith, i.above, near, low))) m

    same_row : (ys : List A) → All Stays ys → (r : ℕ) → All (λ a. at r a ≡ true) ys → All (λ a. StaysIn (region edge left right r) (region edge left right r) (λ m. put m a)) ys
    same_row ys each r all = λ k d low. subst (λ (n : ℕ). StaysIn (region edge left right n) (region edge left right n) (λ m. put m (slice_index_or ys k d))) (eqb-true _ _ (all k d low)) (each k d low)

    -- what the rows before one make
    made : ℕ → Map
    made r = fold put nothing (filter (before r) xs)

    row_stays : (r : ℕ) → StaysIn (region edge left right r) (region edge left right r) (λ m. fold put m (filter (at r) xs))
    row_stays r = fold_stays _ _ put (filter (at r) xs) (same_row (filter (at r) xs) (All-filter (at r) Stays xs stay) r (filter_passes (at r) xs))

    so_far : (r y x : ℕ) → y < edge (r + 1) → fold put nothing xs y x ≡ fold put (made r) (filter (at r) xs) y x
    unfolding made
    so_far r y x high =
        ap (λ (l : List A). fold put nothing l y x) (parts r xs order)
        ∙ (ap (λ (z : Map). z y x) (fold-append put nothing (filter (before r) xs) (filter (at r) xs ++ filter (behind r) xs))
        ∙ (ap (λ (z : Map). z y x) (fold-append put (fold put nothing (filter (before r) xs)) (filter (at r) xs) (filter (behind r) xs))
        ∙ later (filter (behind r) xs) (All-filter (behind r) Stays xs stay) r (filter_passes (behind r) xs) _ y x high))

    above_row : (r y x : ℕ) → y < edge r → fold put nothing xs y x ≡ made r y x
    above_row r y x high =
        let more = grows r in
        so_far r y x (omega (arith, high, more)) ∙ (row_stays r).leaves (made r) y x (λ i. omega (arith, i.below, high))

    below_made : (r y x : ℕ) → edge r ≤ y → made r y x ≡ 0
    unfolding made
    below_made r y x low = earlier (filter (before r) xs) (All-filter (before r) Stays xs stay) r (filter_passes (before r) xs) nothing y x low

    -- each row is what it makes of the last row of samples above it
    pub rows_are : (r y x : ℕ) → IsIn (region edge left right r) y x → fold put nothing xs y x ≡ strands edge put xs r y x
    unfolding strands
    rows_are zero y x i =
        so_far 0 y x i.above
        ∙ (row_stays 0).needs (made 0) nothing (λ a b near. below_made 0 a b (omega (arith, first))) y x (around _ y x i)
    rows_are (suc r) y x i =
        let next : suc r ≡ r + 1 = omega arith in
        let j : IsIn (region edge left right (r + 1)) y x = subst (λ (n : ℕ). IsIn (region edge left right n) y x) next i in
        so_far (r + 1) y x j.above
        ∙ (row_stays (r + 1)).needs (made (r + 1)) (only_row (edge (r + 1)) (strands edge put xs r)) (λ a b near. elim (cases_lt a (edge (r + 1))) [
          | inl high ↦
              let last : a + 1 ≡ edge (r + 1) = omega (arith, high, near.below) in
              let more = grows r in
              sym (above_row (r + 1) a b high)
              ∙ (rows_are r a b (record { below = omega (arith, last, more); above = high; behind = near.behind; before = near.before })
              ∙ sym (rw (eq-eqb (a + 1) (edge (r + 1)) last) refl))
          | inr low ↦ below_made (r + 1) a b low ∙ sym (rw (differs (a + 1) (edge (r + 1)) (λ e. omega (arith, e, low))) refl)
        ]) y x (around _ y x j)
