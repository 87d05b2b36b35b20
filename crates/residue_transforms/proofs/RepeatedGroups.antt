-- Columns that are those of the group before them.
use Rattle.std.proofs.Common.{◌≡◌, ℕ, ◌+◌, ◌-◌, ◌*◌, ◌<◌, ◌≤◌, ℤ, pos, Bool, not, true, false, inl, inr, List, length, refl, sym, ◌∙◌, ap, arith, nat_lt, if◌then◌else◌, Result, Ok}
use Rattle.std.proofs.lemmas.Bool.{cases_Bool, lt-ltb}
use Rattle.std.proofs.lemmas.Bool.Decides.{nat_tests}
use Rattle.std.proofs.lemmas.List.{ext_get_or}
use Rattle.std.proofs.lemmas.List.FromFn.{get_or-map-range_with_len, length-map-range_with_len}
use Rattle.vp9_types.specs.Maps.{is_within}
use Rattle.vp9_types.specs.declared.rule.Rule.{Rule}
use Rattle.inverse_transforms.specs.Flow.{at}
use Rattle.residue_transforms.specs.SquareBlocks.{row, col, HasPiece, AreTurned, GroupDone}
use Rattle.residue_transforms.proofs.GroupTurns.{within_parts}
use Rattle.residue_transforms.proofs.Pieces.{Stored, stored_more}

pub held : (b : Bool) → not b ≡ false → b ≡ true
held true h = refl
held false h = let no : ⊥ = cc in absurd no

before_it : (place n p : ℕ) → p < place → is_within place n p ≡ false
before_it place n p low = grind (arith, nat_tests)

-- what lies before a piece is what it was
pub kept_before : (place n p : ℕ) (f : ℕ → ℤ) (old now : List ℤ) → p < place → HasPiece place n f old now → at now p ≡ at old p
kept_before place n p f old now low piece = piece p ∙ rw (before_it place n p low) refl

piece_same : (place n : ℕ) (f g : ℕ → ℤ) (old now : List ℤ) → ((j : ℕ) → j < n → f j ≡ g j) → HasPiece place n f old now → HasPiece place n g old now
piece_same place n f g old now same piece p =
    elim (cases_Bool (is_within place n p)) [
      | inl inside ↦
          let parts = within_parts place n p inside in
          rw inside (rw inside at (piece p) ∙ same (p - place) (omega (arith, parts.0, parts.1)))
      | inr outside ↦ rw outside (rw outside at (piece p))
    ]

not_itself : (k : ℕ) → nat_lt k k ≡ false
not_itself k = grind (arith, nat_tests)

-- the value that column first + j of row k gets
abbrev pub value_before : ℕ → ℕ → ℕ → List ℤ → ℕ → ℕ → ℤ
value_before n first width old k j = at old (k * n + (first - width + j))

-- one more row
pub row_repeated : (n first width k : ℕ) (old now next : List ℤ) → width ≤ first → first + width ≤ n → length next ≡ length now
    → HasPiece (k * n + first) width (λ j. at now (k * n + first - width + j)) now next
    → Stored n first width (value_before n first width old) old now k → Stored n first width (value_before n first width old) old next (k + 1)
row_repeated n first width k old now next before room size piece s =
    stored_more n first width (value_before n first width old) old now next k room size
    (piece_same (k * n + first) width (λ j. at now (k * n + first - width + j)) (value_before n first width old k) now next
    (λ j low. ap (at now) (same_place (k * n) j) ∙ (s.done k (first - width + j) (omega (arith, low)) ∙ rw (not_itself k) refl)) piece) s
  where
    same_place : (start j : ℕ) → start + first - width + j ≡ start + (first - width + j)
    same_place start j = omega arith

-- all rows
pub columns_repeated : (n first width : ℕ) (old now : List ℤ) (i : ℕ) → width ≤ first → n ≤ i
    → Stored n first width (value_before n first width old) old now i
    → (j : ℕ) → j < n → col n j now ≡ (if is_within first width j then col n (j - width) old else col n j old)
columns_repeated n first width old now i before past s j low =
    elim (cases_Bool (is_within first width j)) [
      | inl inside ↦ rw inside (
          let parts = within_parts first width j inside in
          ext_get_or (pos 0) (col n j now) (col n (j - width) old) (length-map-range_with_len (λ k. at now (k * n + j)) 0 n ∙ sym (length-map-range_with_len (λ k. at old (k * n + (j - width))) 0 n))
          (λ k k_low. let k_low_n : k < n = omega (arith, length-map-range_with_len (λ z. at now (z * n + j)) 0 n) in
          get_or-map-range_with_len (λ z. at now (z * n + j)) 0 n k k (pos 0) k_low_n (omega arith)
          ∙ (s.done k j low ∙ (rw (lt-ltb k i (omega arith), inside) (ap (at old) (same_place (k * n) parts.0))
          ∙ sym (get_or-map-range_with_len (λ z. at old (z * n + (j - width))) 0 n k k (pos 0) k_low_n (omega arith))))))
      | inr outside ↦ rw outside (
          ext_get_or (pos 0) (col n j now) (col n j old) (length-map-range_with_len (λ k. at now (k * n + j)) 0 n ∙ sym (length-map-range_with_len (λ k. at old (k * n + j)) 0 n))
          (λ k k_low. let k_low_n : k < n = omega (arith, length-map-range_with_len (λ z. at now (z * n + j)) 0 n) in
          get_or-map-range_with_len (λ z. at now (z * n + j)) 0 n k k (pos 0) k_low_n (omega arith)
          ∙ (s.done k j low ∙ (rw (lt-ltb k i (omega arith), outside) refl
          ∙ sym (get_or-map-range_with_len (λ z. at old (z * n + j)) 0 n k k (pos 0) k_low_n (omega arith))))))
    ]
  where
    same_place : (start : ℕ) → first ≤ j → start + (first - width + (j - first)) ≡ start + (j - width)
    same_place start least = omega arith

-- a group of rows that are those of the group before it
pub group_repeated : (f : List ℤ → Result (List ℤ) Rule) (n first width : ℕ) (xs old new : List ℤ) → width ≤ first
    → ((j : ℕ) → j < width → row n (first + j) xs ≡ row n (first - width + j) xs) → AreTurned f n first xs old
    → ((j : ℕ) → j < n → col n j new ≡ (if is_within first width j then col n (j - width) old else col n j old))
    → GroupDone f n first width xs old new
group_repeated f n first width xs old new before same turned columns = record {
  done = λ j low inside.
      let parts = within_parts first width j inside in
      let here : first + (j - first) ≡ j = omega (arith, parts.0) in
      let there : first - width + (j - first) ≡ j - width = omega (arith, parts.0) in
      let rows : row n j xs ≡ row n (j - width) xs = rw (here, there) at (same (j - first) (omega (arith, parts.0, parts.1))) in
      let column : col n j new ≡ col n (j - width) old = columns j low ∙ rw inside refl in
      ap f rows ∙ (turned (j - width) (omega arith) (omega (arith, parts.0, parts.1)) ∙ ap Ok (sym column));
  others = λ j low outside. columns j low ∙ rw outside refl;
}
