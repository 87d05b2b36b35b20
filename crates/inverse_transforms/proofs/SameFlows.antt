-- A flow keeps its meaning where its steps name the places that their values come from, and one permutation at the end
-- stands for all that were between them.
use Rattle.std.proofs.Common.{◌≡◌, ℕ, ◌-◌, ◌<◌, ℤ, pos, neg_ℤ, Bool, true, false, ◌&&◌, inl, inr, List, [], ◌∷◌, ◌++◌, map, take, length, replicate, set, get_or, refl, sym, ◌∙◌, ap, subst, arith, Ok, nat_lt, nat_eq, not, if◌then◌else◌}
use Rattle.std.specs.List.{list_all, range_with_len}
use Rattle.std.proofs.lemmas.List.{ext_get_or, get_or-map, get_or-set_other, length-map, length-set, take-append-le, take_all}
use Rattle.std.proofs.lemmas.List.Sums.{AllPass-from_list_all}
use Rattle.std.proofs.lemmas.List.FromFn.{get_or-range_with_len, length-range_with_len}
use Rattle.std.proofs.lemmas.Grind.{get_or-set_at}
use Rattle.std.proofs.lemmas.Bool.{and_parts, cases_Bool, cases_eq, eqb-true, not-true}
use Rattle.std.proofs.lemmas.Bool.Decides.{nat_tests}
use borrow.Author.Tests.{ltb-true}
use Rattle.vp9_tables.specs.declared.flow_row.FlowRow.{FlowRow}
use Rattle.vp9_tables.specs.declared.flow_row.FlowRow.TheVariants.{Perm, Rot, Sum, Neg, Wide}
use Rattle.inverse_transforms.specs.declared.values.Two.{Two}
use Rattle.inverse_transforms.specs.declared.values.Four.{Four}
use Rattle.inverse_transforms.specs.Ranges.{fits}
use Rattle.inverse_transforms.specs.Flow.{at, flow_step, run_flow, and_then, permuted, store_one, store_two, store_four, two_fit, four_fit, rotated, sum_and_difference, rotated_wide}

-- where the value at a place stands
abbrev pub place_at : List ℕ → ℕ → ℕ
place_at places i = get_or places i 0

abbrev pub composed : ℕ → List ℕ → List ℕ → List ℕ
composed n places order = map (λ i. place_at places i) (take n order)

abbrev pub picked : List ℕ → List ℤ → List ℤ
picked places xs = map (λ p. at xs p) places

abbrev pub renamed : ℕ → List ℕ → List FlowRow → List FlowRow
renamed n places [] = Perm (places ++ replicate (32 - n) 0) ∷ []
renamed n places (Perm order ∷ rows) = renamed n (composed n places order) rows
renamed n places (Rot a b k ∷ rows) = Rot (place_at places a) (place_at places b) k ∷ renamed n places rows
renamed n places (Sum a b ∷ rows) = Sum (place_at places a) (place_at places b) ∷ renamed n places rows
renamed n places (Neg a ∷ rows) = Neg (place_at places a) ∷ renamed n places rows
renamed n places (Wide a b k c d m ∷ rows) =
    Wide (place_at places a) (place_at places b) k (place_at places c) (place_at places d) m ∷ renamed n places rows

abbrev differ : List ℕ → ℕ → ℕ → Bool
differ places i j = if nat_eq i j then true else not (nat_eq (place_at places i) (place_at places j))

-- n different places below n
abbrev pub are_places : ℕ → List ℕ → Bool
are_places n places =
    nat_eq (length places) n && (list_all (λ p. nat_lt p n) places
    && list_all (λ i. list_all (λ j. differ places i j) (range_with_len 0 n)) (range_with_len 0 n))

abbrev pub can_rename : ℕ → List ℕ → List FlowRow → Bool
can_rename n places [] = true
can_rename n places (Perm order ∷ rows) =
    are_places n (composed n places order) && (list_all (λ i. nat_lt i n) (take n order) && can_rename n (composed n places order) rows)
can_rename n places (Rot a b k ∷ rows) = (nat_lt a n && nat_lt b n) && can_rename n places rows
can_rename n places (Sum a b ∷ rows) = (nat_lt a n && nat_lt b n) && can_rename n places rows
can_rename n places (Neg a ∷ rows) = nat_lt a n && can_rename n places rows
can_rename n places (Wide a b k c d m ∷ rows) = ((nat_lt a n && nat_lt b n) && (nat_lt c n && nat_lt d n)) && can_rename n places rows

pub record Places (n : ℕ) (places : List ℕ) : Type 0 where
  pub size : length places ≡ n
  pub low : (i : ℕ) → i < n → place_at places i < n
  pub apart : (i j : ℕ) → i < n → j < n → (i ≡ j → ⊥) → place_at places i ≡ place_at places j → ⊥

true_is_not_false : true ≡ false → ⊥
true_is_not_false h = let no : ⊥ = cc in no

eqb_same : (a b : ℕ) → a ≡ b → nat_eq a b ≡ true
eqb_same a b is = grind (arith, nat_tests)

pub range_at : (n i : ℕ) → i < n → get_or (range_with_len 0 n) i 0 ≡ i
range_at n i low = get_or-range_with_len 0 n i 0 low ∙ omega arith

all_at : (test : ℕ → Bool) (n i : ℕ) → list_all test (range_with_len 0 n) ≡ true → i < n → test i ≡ true
all_at test n i all low =
    let there : i < length (range_with_len 0 n) = omega (arith, length-range_with_len 0 n) in
    subst (λ k. test k ≡ true) (range_at n i low) (AllPass-from_list_all test (range_with_len 0 n) all i 0 there)

differ_apart : (places : List ℕ) (i j : ℕ) → differ places i j ≡ true → (i ≡ j → ⊥) → place_at places i ≡ place_at places j → ⊥
differ_apart places i j h other same = elim (cases_Bool (nat_eq i j)) [
  | inl is ↦ other (eqb-true i j is)
  | inr is_not ↦
      let apart : not (nat_eq (place_at places i) (place_at places j)) ≡ true = rw is_not at h in
      let no : nat_eq (place_at places i) (place_at places j) ≡ false = not-true (nat_eq (place_at places i) (place_at places j)) apart in
      let yes : nat_eq (place_at places i) (place_at places j) ≡ true = eqb_same (place_at places i) (place_at places j) same in
      let wrong : true ≡ false = sym yes ∙ no in absurd (true_is_not_false wrong)
]

places_of : (n : ℕ) (places : List ℕ) → are_places n places ≡ true → Places n places
places_of n places h =
    let first = and_parts (nat_eq (length places) n) (list_all (λ p. nat_lt p n) places
    && list_all (λ i. list_all (λ j. differ places i j) (range_with_len 0 n)) (range_with_len 0 n)) h in
    let second = and_parts (list_all (λ p. nat_lt p n) places)
    (list_all (λ i. list_all (λ j. differ places i j) (range_with_len 0 n)) (range_with_len 0 n)) first.1 in
    let size : length places ≡ n = eqb-true (length places) n first.0 in
    record {
      size = size;
      low = λ i i_low. ltb-true (place_at places i) n (AllPass-from_list_all (λ p. nat_lt p n) places second.0 i 0 (omega arith));
      apart = λ i j i_low j_low. differ_apart places i j
          (all_at (λ m. differ places i m) n j (all_at (λ k. list_all (λ m. differ places k m) (range_with_len 0 n)) n i second.1 i_low) j_low);
    }

picked_at : (n : ℕ) (places : List ℕ) (xs : List ℤ) (i : ℕ) → Places n places → i < n → at (picked places xs) i ≡ at xs (place_at places i)
picked_at n places xs i p low = get_or-map (λ q. at xs q) places i 0 (pos 0) (omega (arith, p.size))

picked_set : (n : ℕ) (places : List ℕ) (xs : List ℤ) (a : ℕ) (v : ℤ) → Places n places → length xs ≡ n → a < n →
    picked places (set xs (place_at places a) v) ≡ set (picked places xs) a v
picked_set n places xs a v p size low =
    let new = set xs (place_at places a) v in
    let old_size : length (picked places xs) ≡ n = length-map places (λ q. at xs q) ∙ p.size in
    let new_size : length (picked places new) ≡ n = length-map places (λ q. at new q) ∙ p.size in
    let set_size : length (set (picked places xs) a v) ≡ n = length-set (picked places xs) a v ∙ old_size in
    let there : place_at places a < length xs = omega (arith, p.low a low) in
    ext_get_or (pos 0) (picked places new) (set (picked places xs) a v) (new_size ∙ sym set_size)
    (λ i i_low_there. let i_low : i < n = omega arith in
    elim (cases_eq i a) [
      | inl same ↦
          picked_at n places new i p i_low
          ∙ (get_or-set_at xs (place_at places a) (place_at places i) v (pos 0) (ap (place_at places) same) there
          ∙ sym (get_or-set_at (picked places xs) a i v (pos 0) same (omega arith)))
      | inr other ↦
          picked_at n places new i p i_low
          ∙ (get_or-set_other xs (place_at places a) (place_at places i) v (pos 0) (p.apart i a i_low low other)
          ∙ (sym (picked_at n places xs i p i_low)
          ∙ sym (get_or-set_other (picked places xs) a i v (pos 0) other)))
    ])

picked_through : (n : ℕ) (places : List ℕ) (xs : List ℤ) (order : List ℕ) → Places n places → list_all (λ i. nat_lt i n) order ≡ true →
    map (λ i. at (picked places xs) i) order ≡ picked (map (λ i. place_at places i) order) xs
picked_through n places xs [] p h = refl
picked_through n places xs (i ∷ order) p h =
    let parts = and_parts (nat_lt i n) (list_all (λ i. nat_lt i n) order) h in
    ap (λ z. z ∷ map (λ i. at (picked places xs) i) order) (picked_at n places xs i p (ltb-true i n parts.0))
    ∙ ap (λ zs. at xs (place_at places i) ∷ zs) (picked_through n places xs order p parts.1)

picked_order : (n : ℕ) (places order : List ℕ) (xs : List ℤ) → Places n places → list_all (λ i. nat_lt i n) (take n order) ≡ true →
    permuted order (picked places xs) ≡ picked (composed n places order) xs
picked_order n places order xs p h =
    ap (λ m. map (λ i. at (picked places xs) i) (take m order)) (length-map places (λ q. at xs q) ∙ p.size)
    ∙ picked_through n places xs (take n order) p h

-- the last permutation
picked_last : (n : ℕ) (places : List ℕ) (xs : List ℤ) → Places n places → length xs ≡ n → permuted (places ++ replicate (32 - n) 0) xs ≡ picked places xs
picked_last n places xs p size =
    let front : take (length xs) (places ++ replicate (32 - n) 0) ≡ places =
    take-append-le (length xs) places (replicate (32 - n) 0) (omega (arith, p.size, size)) ∙ take_all (length xs) places (omega (arith, p.size, size)) in
    ap (map (λ q. at xs q)) front

abbrev Same : ℕ → ℕ → List ℕ → List FlowRow → List FlowRow → Type 0
Same limit n places rows new = (ys : List ℤ) → length ys ≡ n → run_flow limit rows (picked places ys) ≡ run_flow limit new ys

one_same : (limit n : ℕ) (places : List ℕ) (rows new : List FlowRow) (xs : List ℤ) (a : ℕ) (v w : ℤ) → Places n places → length xs ≡ n → a < n →
    v ≡ w → Same limit n places rows new →
    and_then (store_one limit (picked places xs) a v) (run_flow limit rows) ≡ and_then (store_one limit xs (place_at places a) w) (run_flow limit new)
one_same limit n places rows new xs a v w p size low is rest = elim (cases_Bool (fits limit w)) [
  | inl fit ↦ rw (is, fit) (ap (run_flow limit rows) (sym (picked_set n places xs a w p size low)) ∙ rest (set xs (place_at places a) w) (length-set xs (place_at places a) w ∙ size))
  | inr not_fit ↦ rw (is, not_fit) refl
]

set_two : (n : ℕ) (places : List ℕ) (xs : List ℤ) (a b : ℕ) (v w : ℤ) → Places n places → length xs ≡ n → a < n → b < n →
    set (set (picked places xs) a v) b w ≡ picked places (set (set xs (place_at places a) v) (place_at places b) w)
set_two n places xs a b v w p size a_low b_low =
    ap (λ z. set z b w) (sym (picked_set n places xs a v p size a_low))
    ∙ sym (picked_set n places (set xs (place_at places a) v) b w p (length-set xs (place_at places a) v ∙ size) b_low)

size_two : (xs : List ℤ) (n i j : ℕ) (v w : ℤ) → length xs ≡ n → length (set (set xs i v) j w) ≡ n
size_two xs n i j v w size = length-set (set xs i v) j w ∙ (length-set xs i v ∙ size)

two_same : (limit n : ℕ) (places : List ℕ) (rows new : List FlowRow) (xs : List ℤ) (a b : ℕ) (v w : Two) → Places n places → length xs ≡ n →
    a < n → b < n → v ≡ w → Same limit n places rows new →
    and_then (store_two limit (picked places xs) a b v) (run_flow limit rows)
    ≡ and_then (store_two limit xs (place_at places a) (place_at places b) w) (run_flow limit new)
two_same limit n places rows new xs a b v w p size a_low b_low is rest = elim (cases_Bool (two_fit limit w)) [
  | inl fit ↦
      rw (is, fit) (ap (run_flow limit rows) (set_two n places xs a b w.first w.second p size a_low b_low)
      ∙ rest (set (set xs (place_at places a) w.first) (place_at places b) w.second)
      (size_two xs n (place_at places a) (place_at places b) w.first w.second size))
  | inr not_fit ↦ rw (is, not_fit) refl
]

four_same : (limit n : ℕ) (places : List ℕ) (rows new : List FlowRow) (xs : List ℤ) (a b c d : ℕ) (v w : Four) → Places n places → length xs ≡ n →
    a < n → b < n → c < n → d < n → v ≡ w → Same limit n places rows new →
    and_then (store_four limit (picked places xs) a b c d v) (run_flow limit rows)
    ≡ and_then (store_four limit xs (place_at places a) (place_at places b) (place_at places c) (place_at places d) w) (run_flow limit new)
four_same limit n places rows new xs a b c d v w p size a_low b_low c_low d_low is rest = elim (cases_Bool (four_fit limit w)) [
  | inl fit ↦
      let two = set (set xs (place_at places a) w.first) (place_at places b) w.second in
      let two_size : length two ≡ n = size_two xs n (place_at places a) (place_at places b) w.first w.second size in
      rw (is, fit) (ap (run_flow limit rows) (ap (λ z. set (set z c w.third) d w.fourth) (set_two n places xs a b w.first w.second p size a_low b_low)
      ∙ set_two n places two c d w.third w.fourth p two_size c_low d_low)
      ∙ rest (set (set two (place_at places c) w.third) (place_at places d) w.fourth)
      (size_two two n (place_at places c) (place_at places d) w.third w.fourth two_size))
  | inr not_fit ↦ rw (is, not_fit) refl
]

both_low : (a b n : ℕ) (rest : Bool) → ((nat_lt a n && nat_lt b n) && rest) ≡ true → (a < n) × (b < n) × (rest ≡ true)
both_low a b n rest h =
    let parts = and_parts (nat_lt a n && nat_lt b n) rest h in
    let low = and_parts (nat_lt a n) (nat_lt b n) parts.0 in (ltb-true a n low.0, ltb-true b n low.1, parts.1)

-- what a step makes of its values is the same of the values in their places
of_two : (n : ℕ) (f : ℤ → ℤ → Two) (places : List ℕ) (xs : List ℤ) (a b : ℕ) → Places n places → a < n → b < n →
    f (at (picked places xs) a) (at (picked places xs) b) ≡ f (at xs (place_at places a)) (at xs (place_at places b))
of_two n f places xs a b p a_low b_low =
    ap (λ z. f z (at (picked places xs) b)) (picked_at n places xs a p a_low) ∙ ap (f (at xs (place_at places a))) (picked_at n places xs b p b_low)

of_four : (n : ℕ) (f : ℤ → ℤ → ℤ → ℤ → Four) (places : List ℕ) (xs : List ℤ) (a b c d : ℕ) → Places n places → a < n → b < n → c < n → d < n →
    f (at (picked places xs) a) (at (picked places xs) b) (at (picked places xs) c) (at (picked places xs) d)
    ≡ f (at xs (place_at places a)) (at xs (place_at places b)) (at xs (place_at places c)) (at xs (place_at places d))
of_four n f places xs a b c d p a_low b_low c_low d_low =
    ap (λ z. f z (at (picked places xs) b) (at (picked places xs) c) (at (picked places xs) d)) (picked_at n places xs a p a_low)
    ∙ (ap (λ z. f (at xs (place_at places a)) z (at (picked places xs) c) (at (picked places xs) d)) (picked_at n places xs b p b_low)
    ∙ (ap (λ z. f (at xs (place_at places a)) (at xs (place_at places b)) z (at (picked places xs) d)) (picked_at n places xs c p c_low)
    ∙ ap (f (at xs (place_at places a)) (at xs (place_at places b)) (at xs (place_at places c))) (picked_at n places xs d p d_low)))

pub renamed_same : (limit n : ℕ) (places : List ℕ) (rows : List FlowRow) (xs : List ℤ) → Places n places → can_rename n places rows ≡ true → length xs ≡ n →
    run_flow limit rows (picked places xs) ≡ run_flow limit (renamed n places rows) xs
unfolding flow_step
renamed_same limit n places [] xs p h size = ap Ok (sym (picked_last n places xs p size))
renamed_same limit n places (Perm order ∷ rows) xs p h size =
    let first = and_parts (are_places n (composed n places order)) (list_all (λ i. nat_lt i n) (take n order) && can_rename n (composed n places order) rows) h in
    let second = and_parts (list_all (λ i. nat_lt i n) (take n order)) (can_rename n (composed n places order) rows) first.1 in
    ap (run_flow limit rows) (picked_order n places order xs p second.0)
    ∙ renamed_same limit n (composed n places order) rows xs (places_of n (composed n places order) first.0) second.1 size
renamed_same limit n places (Rot a b k ∷ rows) xs p h size =
    let low = both_low a b n (can_rename n places rows) h in
    two_same limit n places rows (renamed n places rows) xs a b
    (rotated k (at (picked places xs) a) (at (picked places xs) b)) (rotated k (at xs (place_at places a)) (at xs (place_at places b)))
    p size low.0 low.1 (of_two n (rotated k) places xs a b p low.0 low.1) (λ ys ys_size. renamed_same limit n places rows ys p low.2 ys_size)
renamed_same limit n places (Sum a b ∷ rows) xs p h size =
    let low = both_low a b n (can_rename n places rows) h in
    two_same limit n places rows (renamed n places rows) xs a b
    (sum_and_difference (at (picked places xs) a) (at (picked places xs) b)) (sum_and_difference (at xs (place_at places a)) (at xs (place_at places b)))
    p size low.0 low.1 (of_two n sum_and_difference places xs a b p low.0 low.1) (λ ys ys_size. renamed_same limit n places rows ys p low.2 ys_size)
renamed_same limit n places (Neg a ∷ rows) xs p h size =
    let parts = and_parts (nat_lt a n) (can_rename n places rows) h in
    let low : a < n = ltb-true a n parts.0 in
    one_same limit n places rows (renamed n places rows) xs a (neg_ℤ (at (picked places xs) a)) (neg_ℤ (at xs (place_at places a)))
    p size low (ap neg_ℤ (picked_at n places xs a p low)) (λ ys ys_size. renamed_same limit n places rows ys p parts.1 ys_size)
renamed_same limit n places (Wide a b k c d m ∷ rows) xs p h size =
    let parts = and_parts ((nat_lt a n && nat_lt b n) && (nat_lt c n && nat_lt d n)) (can_rename n places rows) h in
    let front = both_low a b n (nat_lt c n && nat_lt d n) parts.0 in
    let c_d = and_parts (nat_lt c n) (nat_lt d n) front.2 in
    let c_low : c < n = ltb-true c n c_d.0 in
    let d_low : d < n = ltb-true d n c_d.1 in
    four_same limit n places rows (renamed n places rows) xs a b c d
    (rotated_wide limit k m (at (picked places xs) a) (at (picked places xs) b) (at (picked places xs) c) (at (picked places xs) d))
    (rotated_wide limit k m (at xs (place_at places a)) (at xs (place_at places b)) (at xs (place_at places c)) (at xs (place_at places d)))
    p size front.0 front.1 c_low d_low (of_four n (rotated_wide limit k m) places xs a b c d p front.0 front.1 c_low d_low)
    (λ ys ys_size. renamed_same limit n places rows ys p parts.1 ys_size)

-- at first each place is its own
picked_all : (n : ℕ) (xs : List ℤ) → length xs ≡ n → picked (range_with_len 0 n) xs ≡ xs
picked_all n xs size =
    let places = range_with_len 0 n in
    let picked_size : length (picked places xs) ≡ n = length-map places (λ p. at xs p) ∙ length-range_with_len 0 n in
    ext_get_or (pos 0) (picked places xs) xs (picked_size ∙ sym size)
    (λ i low. let i_low : i < n = omega arith in
    get_or-map (λ p. at xs p) places i 0 (pos 0) (omega (arith, length-range_with_len 0 n)) ∙ ap (at xs) (range_at n i i_low))

pub same_flow : (n : ℕ) (rows new : List FlowRow) → are_places n (range_with_len 0 n) ≡ true → can_rename n (range_with_len 0 n) rows ≡ true →
    renamed n (range_with_len 0 n) rows ≡ new → (limit : ℕ) (xs : List ℤ) → length xs ≡ n → run_flow limit new xs ≡ run_flow limit rows xs
same_flow n rows new first can is limit xs size =
    ap (λ z. run_flow limit z xs) (sym is)
    ∙ (sym (renamed_same limit n (range_with_len 0 n) rows xs (places_of n (range_with_len 0 n) first) can size)
    ∙ ap (run_flow limit rows) (picked_all n xs size))
