-- Rows of few samples, copied one by one.
use Rattle.std.proofs.Common.{◌≡◌, ◌<◌, ◌+◌, ◌-◌, ◌*◌, ◌∙◌, ℕ, inl, inr, refl, sym, subst, ap, arith, List, length, get_or, set, take, drop, map}
use Rattle.std.proofs.lemmas.Bool.{cases_lt}
use Rattle.std.proofs.lemmas.Bool.Decides.{nat_tests}
use Rattle.std.proofs.lemmas.List.{map-set, length-map, get_or-set_same, get_or-set_other, get_or-map, get_or-take, get_or-drop, take-map, drop-map}
use Rattle.vp9_types.specs.Maps.{rows_of}
use Rattle.planes.proofs.RowLemmas.{add-sub_left}

put_here : {X : Type 0} (f : X → ℕ) (xs : List X) (k : ℕ) (x : X) → k < length xs → get_or (map f (set xs k x)) k 0 ≡ f x
put_here f xs k x here = rw (map-set f xs k x) (get_or-set_same (map f xs) k (f x) 0 (omega (arith, here, length-map xs f)))

put_before : {X : Type 0} (f : X → ℕ) (xs : List X) (k : ℕ) (x : X) (j : ℕ) → j < k → get_or (map f (set xs k x)) j 0 ≡ get_or (map f xs) j 0
put_before f xs k x j low = rw (map-set f xs k x) (get_or-set_other (map f xs) k j (f x) 0 (λ same. omega (arith, low, same)))

-- one sample more copied
pub copied_more : {X : Type 0} (f : X → ℕ) (xs ys : List X) (k : ℕ) (x : X) → k < length xs → k < length ys → x ≡ get_or ys k x
    → ((j : ℕ) → j < k → get_or (map f xs) j 0 ≡ get_or (map f ys) j 0)
    → (j : ℕ) → j < k + 1 → get_or (map f (set xs k x)) j 0 ≡ get_or (map f ys) j 0
copied_more f xs ys k x here there is so j low = elim (cases_lt j k) [
  | inl earlier ↦ put_before f xs k x j earlier ∙ so j earlier
  | inr now ↦
      let last : k ≡ j = omega (arith, now, low) in
      subst (λ (i : ℕ). get_or (map f (set xs k x)) i 0 ≡ get_or (map f ys) i 0) last (put_here f xs k x here ∙ (ap f is ∙ sym (get_or-map f ys k x 0 there)))
]

row_at : (ys : List ℕ) (n i j : ℕ) → j < n → rows_of n ys i j ≡ get_or ys (i * n + j) 0
unfolding rows_of
row_at ys n i j low = grind (arith, nat_tests)

part_at : (ys : List ℕ) (at n j : ℕ) → j < n → get_or (take (at + n - at) (drop at ys)) j 0 ≡ get_or ys (at + j) 0
part_at ys at n j low = rw (add-sub_left, get_or-take, get_or-drop) refl

-- the samples of row i of rows of n
pub row_part : {X : Type 0} (f : X → ℕ) (xs : List X) (n i j : ℕ) → j < n → get_or (map f (take (i * n + n - i * n) (drop (i * n) xs))) j 0 ≡ rows_of n (map f xs) i j
row_part f xs n i j low =
    ap (λ (ys : List ℕ). get_or ys j 0) (sym (take-map f (i * n + n - i * n) (drop (i * n) xs)) ∙ ap (take (i * n + n - i * n)) (sym (drop-map f (i * n) xs)))
    ∙ (part_at (map f xs) (i * n) n j low ∙ sym (row_at (map f xs) n i j low))
