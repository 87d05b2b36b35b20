-- A piece of a list is replaced one place after another.
use Rattle.std.proofs.Common.{◌≡◌, ℕ, suc, ◌+◌, ◌-◌, ◌*◌, ◌<◌, ◌≤◌, ℤ, pos, Bool, true, false, ◌&&◌, inl, inr, List, [], map, length, set, get_or, refl, sym, ◌∙◌, ap, subst, arith, nat_lt, nat_le, nat_eq, cond, if◌then◌else◌}
use Rattle.std.proofs.lemmas.Grind.{get_or-set_at}
use Rattle.std.proofs.lemmas.List.{get_or-set_other, ext_get_or, length-map, get_or-map}
use Rattle.std.proofs.lemmas.Bool.{cases_lt, cases_eq, cases_Bool, lt-ltb, and_parts, leb-true, ltb-true}
use Rattle.std.proofs.lemmas.List.FromFn.{get_or-map-range_with_len, length-map-range_with_len}
use Rattle.inverse_transforms.specs.LaneColumns.{column}
use Rattle.inverse_transforms.proofs.ColumnLemmas.{column_at}
use Rattle.residue_transforms.specs.Residue.{round}
use Rattle.std.proofs.Math.Nat.{mul-le-mul_right, suc-mul}
use Rattle.std.proofs.lemmas.Bool.Decides.{nat_tests}
use Rattle.vp9_types.specs.Maps.{is_within}
use Rattle.inverse_transforms.specs.Flow.{at}
use Rattle.residue_transforms.specs.SquareBlocks.{HasPiece, col}

within_last : (place j : ℕ) → is_within place (j + 1) (place + j) ≡ true
within_last place j = grind (arith, nat_tests)

within_other : (place j p : ℕ) → (p ≡ place + j → ⊥) → is_within place (j + 1) p ≡ is_within place j p
within_other place j p other = grind (arith, nat_tests)

pub rows_before : (k i n : ℕ) → k < i → k * n + n ≤ i * n
rows_before k i n below =
    let more : suc k * n ≤ i * n = mul-le-mul_right n below in
    let one : suc k * n ≡ k * n + n = suc-mul k n in omega arith

same_row : (start first width i j : ℕ) → is_within (start + first) width (start + j) ≡ (nat_eq i i && is_within first width j)
same_row start first width i j = grind (arith, nat_tests)

earlier : (at_k at_i n first width j k i : ℕ) → j < n → at_k + n ≤ at_i → (k ≡ i → ⊥) →
    is_within (at_i + first) width (at_k + j) ≡ (nat_eq k i && is_within first width j)
earlier at_k at_i n first width j k i low apart other = grind (arith, nat_tests)

later : (at_k at_i n first width j k i : ℕ) → first + width ≤ n → at_i + n ≤ at_k → (k ≡ i → ⊥) →
    is_within (at_i + first) width (at_k + j) ≡ (nat_eq k i && is_within first width j)
later at_k at_i n first width j k i room apart other = grind (arith, nat_tests)

pub no_piece : (place : ℕ) (f : ℕ → ℤ) (old : List ℤ) → HasPiece place 0 f old old
no_piece place f old p = let none : is_within place 0 p ≡ false = grind (arith, nat_tests) in rw none refl

pub piece_more : (place j : ℕ) (f : ℕ → ℤ) (old now : List ℤ) (v : ℤ) → place + j < length now → v ≡ f j →
    HasPiece place j f old now → HasPiece place (j + 1) f old (set now (place + j) v)
piece_more place j f old now v low is so_far p =
    let back : (place + j) - place ≡ j = omega arith in
    let here : at (set now (place + j) v) (place + j)
    ≡ cond (is_within place (j + 1) (place + j)) (f ((place + j) - place)) (at old (place + j)) =
    get_or-set_at now (place + j) (place + j) v (pos 0) refl low ∙ (is ∙ sym (rw (within_last place j, back) refl)) in
    elim (cases_eq p (place + j)) [
      | inl same ↦ subst (λ q. at (set now (place + j) v) q ≡ cond (is_within place (j + 1) q) (f (q - place)) (at old q)) (sym same) here
      | inr other ↦ get_or-set_other now (place + j) p v (pos 0) other ∙ (so_far p ∙ rw (within_other place j p other) refl)
    ]

within_below : (place n p : ℕ) → is_within place n p ≡ true → p - place < n
within_below place n p inside =
    let parts = and_parts (nat_le place p) (nat_lt p (place + n)) inside in
    omega (arith, leb-true place p parts.0, ltb-true p (place + n) parts.1)

pub piece_same : (place n : ℕ) (f g : ℕ → ℤ) (old now : List ℤ) → HasPiece place n f old now → ((j : ℕ) → j < n → f j ≡ g j) → HasPiece place n g old now
piece_same place n f g old now piece same p =
    elim (cases_Bool (is_within place n p)) [
      | inl inside ↦ piece p ∙ rw inside (same (p - place) (within_below place n p inside))
      | inr outside ↦ piece p ∙ rw outside refl
    ]

-- a place of a row and a column is within a piece of a row exactly if it is in that row, and its column in the piece
pub in_row : (n i first width k j : ℕ) → j < n → first + width ≤ n →
    is_within (i * n + first) width (k * n + j) ≡ (nat_eq k i && is_within first width j)
in_row n i first width k j low room =
    elim (cases_eq k i) [
      | inl same ↦ rw same (same_row (i * n) first width i j)
      | inr other ↦ elim (cases_lt k i) [
        | inl below ↦ earlier (k * n) (i * n) n first width j k i low (rows_before k i n below) other
        | inr above ↦ later (k * n) (i * n) n first width j k i room (rows_before i k n (omega arith)) other
      ]
    ]

-- in the row itself, and in any other
pick_same : (eq lt more w : Bool) (x y a b : ℤ) → eq ≡ true → more ≡ true → lt ≡ false → x ≡ y →
    a ≡ (if lt && w then y else b) → (if eq && w then x else a) ≡ (if more && w then y else b)
pick_same eq lt more true x y a b e m l same h = rw (e, m) same
pick_same eq lt more false x y a b e m l same h = rw (e, m) (h ∙ rw l refl)

pick_other : (eq lt more w : Bool) (x y a b : ℤ) → eq ≡ false → more ≡ lt →
    a ≡ (if lt && w then y else b) → (if eq && w then x else a) ≡ (if more && w then y else b)
pick_other eq lt more w x y a b e m h = rw (e, m) h

own_row : (i : ℕ) → (nat_eq i i ≡ true) × (nat_lt i (i + 1) ≡ true) × (nat_lt i i ≡ false)
own_row i = (grind (arith, nat_tests), grind (arith, nat_tests), grind (arith, nat_tests))

other_row : (k i : ℕ) → (k ≡ i → ⊥) → (nat_eq k i ≡ false) × (nat_lt k (i + 1) ≡ nat_lt k i)
other_row k i other = (grind (arith, nat_tests), grind (arith, nat_tests))

less : (start first j : ℕ) → (start + j) - (start + first) ≡ j - first
less start first j = omega arith

stored_case : (n first width : ℕ) (g : ℕ → ℕ → ℤ) (old now : List ℤ) (i k j : ℕ) →
    at now (k * n + j) ≡ (if nat_lt k i && is_within first width j then g k (j - first) else at old (k * n + j)) →
    (if nat_eq k i && is_within first width j then g i ((k * n + j) - (i * n + first)) else at now (k * n + j))
    ≡ (if nat_lt k (i + 1) && is_within first width j then g k (j - first) else at old (k * n + j))
stored_case n first width g old now i k j so_far =
    elim (cases_eq k i) [
      | inl same ↦
          let tests = own_row i in
          let eq : nat_eq k i ≡ true = ap (λ z. nat_eq z i) same ∙ tests.0 in
          let more : nat_lt k (i + 1) ≡ true = ap (λ z. nat_lt z (i + 1)) same ∙ tests.1 in
          let lt : nat_lt k i ≡ false = ap (λ z. nat_lt z i) same ∙ tests.2 in
          let value : g i ((k * n + j) - (i * n + first)) ≡ g k (j - first) =
          ap (λ z. g i ((z * n + j) - (i * n + first))) same ∙ (ap (g i) (less (i * n) first j) ∙ ap (λ z. g z (j - first)) (sym same)) in
          pick_same (nat_eq k i) (nat_lt k i) (nat_lt k (i + 1)) (is_within first width j) _ _ _ _ eq more lt value so_far
      | inr other ↦
          let tests = other_row k i other in
          pick_other (nat_eq k i) (nat_lt k i) (nat_lt k (i + 1)) (is_within first width j) _ _ _ _ tests.0 tests.1 so_far
    ]

-- the first i rows have their pieces: g k j is what stands in row k and column first + j
pub record Stored (n first width : ℕ) (g : ℕ → ℕ → ℤ) (old now : List ℤ) (i : ℕ) : Type 0 where
  pub size : length now ≡ length old
  pub done : (k j : ℕ) → j < n → at now (k * n + j) ≡ (if nat_lt k i && is_within first width j then g k (j - first) else at old (k * n + j))

pub stored_more : (n first width : ℕ) (g : ℕ → ℕ → ℤ) (old now next : List ℤ) (i : ℕ) → first + width ≤ n → length next ≡ length now →
    HasPiece (i * n + first) width (g i) now next → Stored n first width g old now i → Stored n first width g old next (i + 1)
stored_more n first width g old now next i room size piece s = record {
  size = size ∙ s.size;
  done = λ k j low. piece (k * n + j) ∙ (rw (in_row n i first width k j low room) (stored_case n first width g old now i k j (s.done k j low)));
}

-- when all rows have theirs, the columns do
pub stored_columns : (n first width bits : ℕ) (t : List (List ℤ)) (old now : List ℤ) (i : ℕ) → n ≡ length t → n ≤ i →
    Stored n first width (λ k j. round bits (at (get_or t k []) j)) old now i →
    (j : ℕ) → j < n → col n j now ≡ (if is_within first width j then map (round bits) (column (j - first) t) else col n j old)
stored_columns n first width bits t old now i size past s j low =
    elim (cases_Bool (is_within first width j)) [
      | inl inside ↦ rw inside (
          let columns_size : length (map (round bits) (column (j - first) t)) ≡ n =
          length-map (column (j - first) t) (round bits) ∙ (length-map t (λ row. at row (j - first)) ∙ sym size) in
          ext_get_or (pos 0) (col n j now) (map (round bits) (column (j - first) t)) (length-map-range_with_len (λ k. at now (k * n + j)) 0 n ∙ sym columns_size)
          (λ k k_low. let k_low_n : k < n = omega (arith, length-map-range_with_len (λ z. at now (z * n + j)) 0 n) in
          let k_low_t : k < length t = omega arith in
          get_or-map-range_with_len (λ z. at now (z * n + j)) 0 n k k (pos 0) k_low_n (omega arith)
          ∙ (s.done k j low ∙ (rw (lt-ltb k i (omega arith), inside) refl
          ∙ sym (get_or-map (round bits) (column (j - first) t) k (pos 0) (pos 0) (omega (arith, length-map t (λ row. at row (j - first))))
          ∙ ap (round bits) (column_at (j - first) t k k_low_t))))))
      | inr outside ↦ rw outside (
          ext_get_or (pos 0) (col n j now) (col n j old) (length-map-range_with_len (λ k. at now (k * n + j)) 0 n ∙ sym (length-map-range_with_len (λ k. at old (k * n + j)) 0 n))
          (λ k k_low. let k_low_n : k < n = omega (arith, length-map-range_with_len (λ z. at now (z * n + j)) 0 n) in
          get_or-map-range_with_len (λ z. at now (z * n + j)) 0 n k k (pos 0) k_low_n (omega arith)
          ∙ (s.done k j low ∙ (rw (lt-ltb k i (omega arith), outside) refl
          ∙ sym (get_or-map-range_with_len (λ z. at old (z * n + j)) 0 n k k (pos 0) k_low_n (omega arith))))))
    ]
