-- Tiles in order, and those of a column alone.
use Rattle.std.proofs.Common.{◌≡◌, ℕ, zero, suc, ◌+◌, ◌<◌, ◌≤◌, ◌++◌, ◌∷◌, [], ◌∙◌, Bool, List, inl, inr, refl, sym, ap, arith, cond}
use Rattle.std.specs.Prelude.{Result, Ok, Err, nat_eq, filter, count_by, sum_by}
use Rattle.std.specs.List.{range_with_len}
use Rattle.std.proofs.lemmas.Bool.{cases_Bool, cases_eq, eq-eqb, ne_eqb}
use Rattle.std.proofs.lemmas.List.Sums.{sum_by-append, sum_by-cons}
use Rattle.prob_contexts.specs.declared.kind.CountedBool.{CountedBool}
use Rattle.counting_reader.specs.Counting.{Settled}
use Rattle.mode_syntax.specs.TileColumns.{with_counted, then_rest, read_all, viewed, counted_of, AreSeparate, tiles_of, column_alone, with_column, by_column}

abbrev Tiled : Type 0 → Type 0 → Type 0
Tiled S E = Result (Settled S) (ℕ × E)

more_ok : {S E : Type 0} (bools : List CountedBool) (x : Tiled S E) (t : Settled S) → with_counted bools x ≡ Ok t
    → (b : Settled S) × (x ≡ Ok b) × (b.value ≡ t.value) × (bools ++ b.counted ≡ t.counted)
more_ok bools (Ok b) t is =
    let same : record { value = b.value; counted = bools ++ b.counted } ≡ t = cc in
    (b, refl, ap (λ s. s.value) same, ap (λ s. s.counted) same)
more_ok bools (Err e) t is = let no : ⊥ = cc in absurd no

more_err : {S E : Type 0} (bools : List CountedBool) (x : Tiled S E) (e : ℕ × E) → with_counted bools x ≡ Err e → x ≡ Err e
more_err bools (Ok b) e is = let no : ⊥ = cc in absurd no
more_err bools (Err f) e is = is

more_none : {S E : Type 0} (x : Tiled S E) → x ≡ with_counted [] x
more_none (Ok s) = refl
more_none (Err e) = refl

nothing : (n : ℕ) → n ≡ 0 + n
nothing n = omega arith

-- sums over numbers in a row
sum_same : (f g : ℕ → ℕ) (xs : List ℕ) → ((k : ℕ) → f k ≡ g k) → sum_by f xs ≡ sum_by g xs
sum_same f g xs same = λ i. sum_by (λ k. same k i) xs

sum_step : (f : ℕ → ℕ) (a n : ℕ) → sum_by f (range_with_len a (suc n)) ≡ f a + sum_by f (range_with_len (a + 1) n)
sum_step f a n = sum_by-cons f a (range_with_len (a + 1) n)

sum_plus : (f g : ℕ → ℕ) (a n : ℕ) → sum_by (λ k. f k + g k) (range_with_len a n) ≡ sum_by f (range_with_len a n) + sum_by g (range_with_len a n)
sum_plus f g a zero = refl
sum_plus f g a (suc n) = omega (arith, sum_step (λ k. f k + g k) a n, sum_step f a n, sum_step g a n, sum_plus f g (a + 1) n)

sum_none : (a n : ℕ) → sum_by (λ k. 0) (range_with_len a n) ≡ 0
sum_none a zero = refl
sum_none a (suc n) = sum_none (a + 1) n

plus_none : (x : ℕ) → x + 0 ≡ x
plus_none x = omega arith

-- one of them alone counts
sum_past : (c x a n : ℕ) → c < a → sum_by (λ k. cond (nat_eq c k) x 0) (range_with_len a n) ≡ 0
sum_past c x a zero past = refl
sum_past c x a (suc n) past =
    let apart : c ≡ a → ⊥ = λ is. omega arith in
    sum_step (λ k. cond (nat_eq c k) x 0) a n ∙ rw (ne_eqb c a apart, sum_past c x (a + 1) n (omega arith)) refl

sum_one : (c x a n : ℕ) → a ≤ c → c < a + n → sum_by (λ k. cond (nat_eq c k) x 0) (range_with_len a n) ≡ x
sum_one c x a zero low high = absurd (omega arith)
sum_one c x a (suc n) low high = elim (cases_eq c a) [
  | inl here ↦ sum_step (λ k. cond (nat_eq c k) x 0) a n ∙ rw (eq-eqb c a here, sum_past c x (a + 1) n (omega arith)) (plus_none x)
  | inr there ↦ sum_step (λ k. cond (nat_eq c k) x 0) a n ∙ rw (ne_eqb c a there, sum_one c x (a + 1) n (omega arith) (omega arith)) (sym (nothing x))
]

-- what fails among tiles from a number on has at least that number
pair_parts : {E : Type 0} {S : Type 0} (m n : ℕ) (d e : E) → ◌≡◌ {A = Tiled S E} (Err (m, d)) (Err (n, e)) → (m ≡ n) × (d ≡ e)
pair_parts {E} {S} m n d e is =
    let same : ◌≡◌ {A = ℕ × E} (m, d) (n, e) = cc in (ap (λ p. p.0) same, ap (λ p. p.1) same)

broken_one : {S E : Type 0} (a j : ℕ) (f : E) (r : Result (Settled S) E) (next : S → Tiled S E) → ((s : S) → next s ≡ Err (j, f) → a + 1 ≤ j) → then_rest a r next ≡ Err (j, f) → a ≤ j
broken_one a j f (Ok t) next rest is = let later = rest t.value (more_err t.counted (next t.value) (j, f) is) in omega (arith, later)
broken_one {S} {E} a j f (Err e) next rest is = omega (arith, (pair_parts {S = S} a j e f is).0)

broken_from : {S E : Type 0} (step : ℕ → S → Result (Settled S) E) (test : ℕ → Bool) (a count : ℕ) (s : S) (j : ℕ) (f : E) → read_all step (filter test (range_with_len a count)) s ≡ Err (j, f) → a ≤ j
unfolding read_all
broken_from step test a zero s j f is = let no : ⊥ = cc in absurd no
broken_from step test a (suc count) s j f is = elim (cases_Bool (test a)) [
  | inl one ↦ broken_one a j f (step a s) (read_all step (filter test (range_with_len (a + 1) count))) (λ t fails. broken_from step test (a + 1) count t j f fails)
      (rw one at is)
  | inr none ↦ let later = broken_from step test (a + 1) count s j f (rw none at is) in omega (arith, later)
]

module _ {S T E : Type 0} (column_of : ℕ → ℕ) (step : ℕ → S → Result (Settled S) E) (view : ℕ → S → T) (column_step : ℕ → T → Result (Settled T) E)
    (separate : AreSeparate column_of step view column_step) where
  -- what a column counts of what a tile counts
  mine : ℕ → ℕ → List CountedBool → List CountedBool
  mine k n bools = cond (nat_eq (column_of n) k) bools []

  own_step : (n k : ℕ) (s : S) (t : Settled S) → step n s ≡ Ok t → column_of n ≡ k → column_step n (view k s) ≡ Ok (record { value = view k t.value; counted = t.counted })
  own_step n k s t is same =
      ap (λ j. column_step n (view j s)) (sym same) ∙ (separate.own n s ∙ (ap (viewed (view (column_of n))) is ∙ ap (λ j. Ok (record { value = view j t.value; counted = t.counted })) same))

  -- a tile more
  goes_on : (n : ℕ) (ns : List ℕ) (s : S) (t : Settled S) → step n s ≡ Ok t → (k : ℕ)
      → column_alone column_of view column_step (n ∷ ns) s k ≡ with_counted (mine k n t.counted) (column_alone column_of view column_step ns t.value k)
  unfolding read_all mine
  goes_on n ns s t is k = elim (cases_eq (column_of n) k) [
    | inl same ↦ rw (eq-eqb (column_of n) k same) (ap (λ r. then_rest n r (read_all column_step (tiles_of column_of k ns))) (own_step n k s t is same))
    | inr other ↦ rw (ne_eqb (column_of n) k other) (ap (λ v. read_all column_step (tiles_of column_of k ns) v) (sym (separate.others n k s t other is)) ∙ more_none _)
  ]

  -- a tile that fails
  stops : (n : ℕ) (ns : List ℕ) (s : S) (e : E) → step n s ≡ Err e → column_alone column_of view column_step (n ∷ ns) s (column_of n) ≡ Err (n, e)
  unfolding read_all
  stops n ns s e is =
      rw (eq-eqb (column_of n) (column_of n) refl) (ap (λ r. then_rest n r (read_all column_step (tiles_of column_of (column_of n) ns))) (separate.own n s ∙ ap (viewed (view (column_of n))) is))

  -- all tiles that are read, are read of each column
  abbrev pub AllRead : List ℕ → Type 0
  AllRead ns = (s : S) (t : Settled S) → read_all step ns s ≡ Ok t → (k : ℕ) → (b : Settled T) × (column_alone column_of view column_step ns s k ≡ Ok b) × (b.value ≡ view k t.value)

  all_read_more : (n : ℕ) (ns : List ℕ) → AllRead ns → (s : S) (t : Settled S) (r : Result (Settled S) E) → step n s ≡ r → then_rest n r (read_all step ns) ≡ Ok t → (k : ℕ)
      → (b : Settled T) × (column_alone column_of view column_step (n ∷ ns) s k ≡ Ok b) × (b.value ≡ view k t.value)
  all_read_more n ns rest s t (Ok a) step_is is k =
      let b = more_ok a.counted (read_all step ns a.value) t is in
      let d = rest a.value b.0 b.1 k in (
        record { value = d.0.value; counted = mine k n a.counted ++ d.0.counted },
        goes_on n ns s a step_is k ∙ ap (with_counted (mine k n a.counted)) d.1,
        d.2 ∙ ap (view k) b.2,
      )
  all_read_more n ns rest s t (Err e) step_is is k = let no : ⊥ = cc in absurd no

  pub all_read : (ns : List ℕ) → AllRead ns
  unfolding read_all
  all_read [] s t is k =
      let same : record { value = s; counted = [] } ≡ t = cc in
      (record { value = view k s; counted = [] }, refl, ap (λ (u : Settled S). view k u.value) same)
  all_read (n ∷ ns) s t is k = all_read_more n ns (all_read ns) s t (step n s) refl is k

  -- what all tiles count is what the columns count
  abbrev pub CountsAdd : (CountedBool → Bool) → ℕ → List ℕ → Type 0
  CountsAdd p columns ns = (s : S) (t : Settled S) → read_all step ns s ≡ Ok t
      → count_by p t.counted ≡ sum_by (λ k. count_by p (counted_of (column_alone column_of view column_step ns s k))) (range_with_len 0 columns)

  counted_more : (p : CountedBool → Bool) (n : ℕ) (ns : List ℕ) (s : S) (a b : Settled S) → step n s ≡ Ok a → read_all step ns a.value ≡ Ok b → (k : ℕ)
      → count_by p (counted_of (column_alone column_of view column_step (n ∷ ns) s k))
      ≡ cond (nat_eq (column_of n) k) (count_by p a.counted) 0 + count_by p (counted_of (column_alone column_of view column_step ns a.value k))
  unfolding mine
  counted_more p n ns s a b step_is is k =
      let d = all_read ns a.value b is k in
      rw (goes_on n ns s a step_is k, d.1) (elim (cases_Bool (nat_eq (column_of n) k)) [
        | inl one ↦ rw one (sum_by-append (λ x. cond (p x) 1 0) a.counted d.0.counted)
        | inr none ↦ rw none (nothing (count_by p d.0.counted))
      ])

  counts_more : (p : CountedBool → Bool) (columns : ℕ) → ((n : ℕ) → column_of n < columns) → (n : ℕ) (ns : List ℕ) → CountsAdd p columns ns
      → (s : S) (t : Settled S) (r : Result (Settled S) E) → step n s ≡ r → then_rest n r (read_all step ns) ≡ Ok t
      → count_by p t.counted ≡ sum_by (λ k. count_by p (counted_of (column_alone column_of view column_step (n ∷ ns) s k))) (range_with_len 0 columns)
  counts_more p columns few n ns rest s t (Ok a) step_is is =
      let b = more_ok a.counted (read_all step ns a.value) t is in
      let f = λ (k : ℕ). count_by p (counted_of (column_alone column_of view column_step ns a.value k)) in
      let g = λ (k : ℕ). cond (nat_eq (column_of n) k) (count_by p a.counted) 0 in
      ap (count_by p) (sym b.3) ∙ (sum_by-append (λ x. cond (p x) 1 0) a.counted b.0.counted
      ∙ (ap (λ x. count_by p a.counted + x) (rest a.value b.0 b.1)
      ∙ (ap (λ x. x + sum_by f (range_with_len 0 columns)) (sym (sum_one (column_of n) (count_by p a.counted) 0 columns (omega arith) (omega (arith, few n))))
      ∙ (sym (sum_plus g f 0 columns)
      ∙ sum_same _ _ (range_with_len 0 columns) (λ k. sym (counted_more p n ns s a b.0 step_is b.1 k))))))
  counts_more p columns few n ns rest s t (Err e) step_is is = let no : ⊥ = cc in absurd no

  pub counts_add : (p : CountedBool → Bool) (columns : ℕ) → ((n : ℕ) → column_of n < columns) → (ns : List ℕ) → CountsAdd p columns ns
  unfolding read_all
  counts_add p columns few [] s t is =
      let same : record { value = s; counted = [] } ≡ t = cc in
      ap (λ (u : Settled S). count_by p u.counted) (sym same) ∙ sym (sum_none 0 columns)
  counts_add p columns few (n ∷ ns) s t is = counts_more p columns few n ns (counts_add p columns few ns) s t (step n s) refl is

  -- the first tile that fails is the first of its column, and those of other columns that fail are later
  abbrev pub FirstBroken : ℕ → ℕ → Type 0
  FirstBroken m more_tiles = (s : S) (n : ℕ) (e : E) → read_all step (range_with_len m more_tiles) s ≡ Err (n, e)
      → (column_alone column_of view column_step (range_with_len m more_tiles) s (column_of n) ≡ Err (n, e))
      × ((k j : ℕ) (f : E) → (column_of n ≡ k → ⊥) → column_alone column_of view column_step (range_with_len m more_tiles) s k ≡ Err (j, f) → n < j)

  not_of : (m k : ℕ) (ns : List ℕ) (s : S) → (column_of m ≡ k → ⊥) → column_alone column_of view column_step (m ∷ ns) s k ≡ column_alone column_of view column_step ns s k
  not_of m k ns s other = rw (ne_eqb (column_of m) k other) refl

  broken_more : (m count : ℕ) → FirstBroken (m + 1) count → (s : S) (n : ℕ) (e : E) (r : Result (Settled S) E) → step m s ≡ r → then_rest m r (read_all step (range_with_len (m + 1) count)) ≡ Err (n, e)
      → (column_alone column_of view column_step (m ∷ range_with_len (m + 1) count) s (column_of n) ≡ Err (n, e))
      × ((k j : ℕ) (f : E) → (column_of n ≡ k → ⊥) → column_alone column_of view column_step (m ∷ range_with_len (m + 1) count) s k ≡ Err (j, f) → n < j)
  broken_more m count rest s n e (Ok a) step_is is =
      let d = rest a.value n e (more_err a.counted _ (n, e) is) in (
        goes_on m _ s a step_is (column_of n) ∙ ap (with_counted (mine (column_of n) m a.counted)) d.0,
        λ k j f other fails. d.1 k j f other (more_err (mine k m a.counted) _ (j, f) (sym (goes_on m _ s a step_is k) ∙ fails)),
      )
  broken_more m count rest s n e (Err d) step_is is =
      let same = pair_parts {S = S} m n d e is in
      let there : ◌≡◌ {A = Tiled T E} (Err (m, d)) (Err (n, e)) = λ i. Err (same.0 i, same.1 i) in (
        ap (λ k. column_alone column_of view column_step (m ∷ range_with_len (m + 1) count) s (column_of k)) (sym same.0) ∙ (stops m _ s d step_is ∙ there),
        λ k j f other fails.
            let elsewhere : column_of m ≡ k → ⊥ = λ h. other (ap column_of (sym same.0) ∙ h) in
            let later : m + 1 ≤ j = broken_from column_step (λ x. nat_eq (column_of x) k) (m + 1) count (view k s) j f (sym (not_of m k (range_with_len (m + 1) count) s elsewhere) ∙ fails) in
            omega (arith, later, same.0),
      )

  pub first_broken : (m count : ℕ) → FirstBroken m count
  unfolding read_all
  first_broken m zero s n e is = let no : ⊥ = cc in absurd no
  first_broken m (suc count) s n e is = broken_more m count (first_broken (m + 1) count) s n e (step m s) refl is

own_column : {T E : Type 0} (c : ℕ) (s : ℕ → T) (r : Result (Settled T) E) → r ≡ viewed (λ u. u c) (viewed (λ t. with_column c t s) r)
own_column c s (Ok t) = λ i. Ok (record { value = sym (here t.value) i; counted = t.counted })
  where
    here : (x : _) → with_column c x s c ≡ x
    here x = rw (eq-eqb c c refl) refl
own_column c s (Err e) = refl

other_column : {T E : Type 0} (c k : ℕ) (s : ℕ → T) (r : Result (Settled T) E) (t : Settled (ℕ → T)) → (c ≡ k → ⊥) → viewed (λ t. with_column c t s) r ≡ Ok t → t.value k ≡ s k
other_column c k s (Ok x) t other is =
    let same : record { value = with_column c x.value s; counted = x.counted } ≡ t = cc in
    ap (λ (u : Settled (ℕ → _)). u.value k) (sym same) ∙ rw (ne_eqb c k other) refl
other_column c k s (Err e) t other is = let no : ⊥ = cc in absurd no

pub columns_separate : {T E : Type 0} (column_of : ℕ → ℕ) (step : ℕ → T → Result (Settled T) E) → AreSeparate column_of (by_column column_of step) (λ k s. s k) step
columns_separate column_of step = record {
  own = λ n s. own_column (column_of n) s (step n (s (column_of n)));
  others = λ n k s t other is. other_column (column_of n) k s (step n (s (column_of n))) t other is;
}
