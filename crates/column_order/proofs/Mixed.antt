-- Lists of some columns, mixed.
use Rattle.std.proofs.Common.{◌≡◌, ◌∙◌, ◌++◌, ◌∷◌, [], ℕ, Bool, true, false, List, inl, inr, refl, ap, subst}
use Rattle.std.specs.Prelude.{filter, nat_eq}
use Rattle.std.specs.List.{All, flat_map}
use Rattle.std.proofs.lemmas.Bool.{cases_eq, eq-eqb, ne_eqb}
use Rattle.std.proofs.lemmas.List.Elements.{All-append, All-cons, All-head, All-nil, All-tail, filter-append}

all_left : {A : Type 0} (P : A → Type 0) (xs ys : List A) → All P (xs ++ ys) → All P xs
all_left P [] ys h = All-nil P
all_left P (x ∷ xs) ys h = All-cons P x xs (All-head P x (xs ++ ys) h) (all_left P xs ys (All-tail P x (xs ++ ys) h))

all_right : {A : Type 0} (P : A → Type 0) (xs ys : List A) → All P (xs ++ ys) → All P ys
all_right P [] ys h = h
all_right P (x ∷ xs) ys h = all_right P xs ys (All-tail P x (xs ++ ys) h)

all_map : {A : Type 0} (P Q : A → Type 0) (xs : List A) → ((x : A) → P x → Q x) → All P xs → All Q xs
all_map P Q xs f h = λ i d low. f _ (h i d low)

keeps_all : {A : Type 0} (test : A → Bool) (xs : List A) → All (λ x. test x ≡ true) xs → filter test xs ≡ xs
keeps_all test [] h = refl
keeps_all test (x ∷ xs) h = rw (All-head (λ x. test x ≡ true) x xs h) (ap (λ ys. x ∷ ys) (keeps_all test xs (All-tail (λ x. test x ≡ true) x xs h)))

keeps_none : {A : Type 0} (test : A → Bool) (xs : List A) → All (λ x. test x ≡ false) xs → filter test xs ≡ []
keeps_none test [] h = refl
keeps_none test (x ∷ xs) h = rw (All-head (λ x. test x ≡ false) x xs h) (keeps_none test xs (All-tail (λ x. test x ≡ false) x xs h))

-- number n stands in the column c n, with the list f (c n) n
module _ {A : Type 0} (c : ℕ → ℕ) (f : ℕ → ℕ → List A) where
  abbrev pub own_lists : ℕ → List ℕ → List A
  own_lists k ns = flat_map (f k) (filter (λ n. nat_eq (c n) k) ns)

  abbrev pub mixed : List ℕ → List A
  mixed ns = flat_map (λ n. f (c n) n) ns

  -- what holds of each column's
  abbrev EachHas : (ℕ → A → Type 0) → List ℕ → Type 0
  EachHas Q ns = (k : ℕ) → All (Q k) (own_lists k ns)

  first_has : (Q : ℕ → A → Type 0) (n : ℕ) (ns : List ℕ) → EachHas Q (n ∷ ns) → All (Q (c n)) (f (c n) n)
  first_has Q n ns h = all_left (Q (c n)) (f (c n) n) (own_lists (c n) ns) (rw (eq-eqb (c n) (c n) refl) at (h (c n)))

  rest_has : (Q : ℕ → A → Type 0) (n : ℕ) (ns : List ℕ) → EachHas Q (n ∷ ns) → EachHas Q ns
  rest_has Q n ns h k = elim (cases_eq (c n) k) [
    | inl same ↦ all_right (Q k) (f k n) (own_lists k ns) (rw (eq-eqb (c n) k same) at (h k))
    | inr other ↦ rw (ne_eqb (c n) k other) at (h k)
  ]

  pub all_mixed : (Q : ℕ → A → Type 0) (R : A → Type 0) → ((k : ℕ) (x : A) → Q k x → R x) → (ns : List ℕ) → EachHas Q ns → All R (mixed ns)
  all_mixed Q R is [] h = All-nil R
  all_mixed Q R is (n ∷ ns) h =
      All-append R (f (c n) n) (mixed ns) (all_map (Q (c n)) R (f (c n) n) (is (c n)) (first_has Q n ns h)) (all_mixed Q R is ns (rest_has Q n ns h))

  -- those of one column, where a test tells them
  pub one_of_mixed : (Q : ℕ → A → Type 0) (test : A → Bool) (k : ℕ) → ((x : A) → Q k x → test x ≡ true) → ((j : ℕ) (x : A) → (j ≡ k → ⊥) → Q j x → test x ≡ false)
      → (ns : List ℕ) → EachHas Q ns → filter test (mixed ns) ≡ own_lists k ns
  one_of_mixed Q test k own others [] h = refl
  one_of_mixed Q test k own others (n ∷ ns) h =
      let rest = one_of_mixed Q test k own others ns (rest_has Q n ns h) in
      let first = first_has Q n ns h in
      filter-append test (f (c n) n) (mixed ns) ∙ elim (cases_eq (c n) k) [
        | inl same ↦
            let here : filter test (f (c n) n) ≡ f k n =
            keeps_all test (f (c n) n) (all_map (Q (c n)) (λ x. test x ≡ true) (f (c n) n) (λ x q. own x (subst (λ j. Q j x) same q)) first) ∙ ap (λ j. f j n) same in
            rw (eq-eqb (c n) k same) (λ i. here i ++ rest i)
        | inr other ↦
            let here : filter test (f (c n) n) ≡ [] =
            keeps_none test (f (c n) n) (all_map (Q (c n)) (λ x. test x ≡ false) (f (c n) n) (λ x q. others (c n) x other q) first) in
            rw (ne_eqb (c n) k other) (λ i. here i ++ rest i)
      ]
