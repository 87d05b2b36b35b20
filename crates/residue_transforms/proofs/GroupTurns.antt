-- What is done to lanes is done to the rows that stand in them.
use Rattle.std.proofs.Common.{◌≡◌, ℕ, ◌+◌, ◌*◌, ◌-◌, ◌<◌, ◌≤◌, ◌^◌, ℤ, true, false, inl, inr, List, map, length, refl, sym, ◌∙◌, ap, subst, arith, nat_lt, nat_le, if◌then◌else◌, Result, Ok, Err}
use Rattle.std.proofs.lemmas.Bool.{cases_lt, and_parts, leb-true, ltb-true}
use Rattle.std.proofs.lemmas.Bool.Decides.{nat_tests}
use Rattle.vp9_types.specs.declared.rule.Rule.{Rule}
use Rattle.vp9_types.specs.declared.shape.Depth.{Depth}
use Rattle.vp9_types.specs.Maps.{is_within}
use Rattle.inverse_transforms.specs.Ranges.{limit_of}
use Rattle.inverse_transforms.specs.Flow.{Gives, zeros}
use Rattle.inverse_transforms.specs.LaneColumns.{column}
use Rattle.residue_transforms.specs.declared.kind.Kind.{Kind}
use Rattle.residue_transforms.specs.SquareBlocks.{row, col, each_row_turned, GroupDone, TurnsGroup}
use Rattle.residue_transforms.specs.Residue.{transform, has_size, round, rounded_by, rounded_transform}
use Rattle.residue_transforms.proofs.Skips.{skipped}
use Rattle.residue_transforms.proofs.Turns.{turned_ok, turned_err}
use Rattle.inverse_transforms.proofs.Faults.{dct_fault, adst_fault, wht_fault}
use Rattle.vp9_types.specs.declared.rule.Rule.TheVariants.{TransformRange}
use Rattle.residue_transforms.specs.declared.kind.Kind.TheVariants.{Cosines, Sines, LiftsOfRows, LiftsOfColumns}

-- lanes of a group's rows, and zeros behind them
pub record Loaded (n first width : ℕ) (xs : List ℤ) (t : List (List ℤ)) : Type 0 where
  pub room : first + width ≤ n
  pub loaded : (j : ℕ) → j < width → column j t ≡ row n (first + j) xs
  pub rest : (j : ℕ) → width ≤ j → j < 8 → column j t ≡ zeros n

pub group_err : (kind : Kind) (depth : Depth) (log2 bits n first width : ℕ) (xs : List ℤ) (t : List (List ℤ)) (rule : Rule) →
    has_size kind log2 ≡ true → n ≡ 2 ^ log2 → Loaded n first width xs t →
    (j : ℕ) × (j < 8) × (transform kind (limit_of depth) log2 (column j t) ≡ Err rule) →
    (j : ℕ) × (j < n) × (rounded_transform kind (limit_of depth) log2 bits (row n j xs) ≡ Err rule)
group_err kind depth log2 bits n first width xs t rule size n_is s (j, low, fails) =
    elim (cases_lt j width) [
      | inl inside ↦ (
        first + j,
        omega (arith, s.room),
        ap (λ z. rounded_by bits (transform kind (limit_of depth) log2 z)) (sym (s.loaded j inside)) ∙ ap (rounded_by bits) fails,
      )
      | inr behind ↦
          let fine = skipped kind depth log2 (column j t) n size n_is (s.rest j behind low) in
          let no : ⊥ = cc in absurd no
    ]

pub within_parts : (first width j : ℕ) → is_within first width j ≡ true → (first ≤ j) × (j < first + width)
within_parts first width j h =
    let parts = and_parts (nat_le first j) (nat_lt j (first + width)) h in
    (leb-true first j parts.0, ltb-true j (first + width) parts.1)

pub group_ok : (kind : Kind) (depth : Depth) (log2 bits n first width : ℕ) (xs old new : List ℤ) (t u : List (List ℤ)) → width ≤ 8 →
    Loaded n first width xs t →
    ((j : ℕ) → j < 8 → transform kind (limit_of depth) log2 (column j t) ≡ Ok (column j u)) →
    ((j : ℕ) → j < n → col n j new ≡ (if is_within first width j then map (round bits) (column (j - first) u) else col n j old)) →
    GroupDone (rounded_transform kind (limit_of depth) log2 bits) n first width xs old new
group_ok kind depth log2 bits n first width xs old new t u most s given stored = record {
  done = λ j low inside.
      let parts = within_parts first width j inside in
      let lane : j - first < width = omega (arith, parts.0, parts.1) in
      let place : first + (j - first) ≡ j = omega (arith, parts.0) in
      let row_is : column (j - first) t ≡ row n j xs = s.loaded (j - first) lane ∙ ap (λ z. row n z xs) place in
      let made : transform kind (limit_of depth) log2 (row n j xs) ≡ Ok (column (j - first) u) =
      ap (transform kind (limit_of depth) log2) (sym row_is) ∙ given (j - first) (omega arith) in
      let put : col n j new ≡ map (round bits) (column (j - first) u) = stored j low ∙ rw inside refl in
      ap (rounded_by bits) made ∙ ap Ok (sym put);
  others = λ j low outside. stored j low ∙ rw outside refl;
}

not_within : (first width j : ℕ) → j < first → is_within first width j ≡ false
not_within first width j before = grind (arith, nat_tests)

within_is : (first width j : ℕ) → first ≤ j → j < first + width → is_within first width j ≡ true
within_is first width j least below = grind (arith, nat_tests)

-- the columns below m are done
pub record TurnSoFar (f : List ℤ → Result (List ℤ) Rule) (n : ℕ) (xs now : List ℤ) (m : ℕ) : Type 0 where
  pub done : (j : ℕ) → j < n → j < m → f (row n j xs) ≡ Ok (col n j now)

pub turn_done : (f : List ℤ → Result (List ℤ) Rule) (n side m : ℕ) (xs now : List ℤ) → side ≡ n → side ≤ m → length now ≡ n * n →
    TurnSoFar f side xs now m → each_row_turned f n xs ≡ Ok now
turn_done f n side m xs now is past size so_far =
    let s : TurnSoFar f n xs now m = subst (λ z. TurnSoFar f z xs now m) is so_far in
    turned_ok f n xs now size (λ j low. s.done j low (omega arith))

transform_fault : (kind : Kind) (limit log2 : ℕ) (xs : List ℤ) (rule : Rule) → transform kind limit log2 xs ≡ Err rule → rule ≡ TransformRange
unfolding transform
transform_fault Cosines limit log2 xs rule h = dct_fault limit log2 xs rule h
transform_fault Sines limit log2 xs rule h = adst_fault limit log2 xs rule h
transform_fault LiftsOfRows limit log2 xs rule h = wht_fault limit 2 xs rule h
transform_fault LiftsOfColumns limit log2 xs rule h = wht_fault limit 0 xs rule h

rounded_fault : (bits : ℕ) (r : Result (List ℤ) Rule) (rule : Rule) → rounded_by bits r ≡ Err rule → r ≡ Err rule
rounded_fault bits (Ok xs) rule h = let no : ⊥ = cc in absurd no
rounded_fault bits (Err fault) rule h = h

pub turn_failed : (kind : Kind) (depth : Depth) (log2 bits n side : ℕ) (xs : List ℤ) (rule : Rule) → side ≡ n →
    (j : ℕ) × (j < side) × (rounded_transform kind (limit_of depth) log2 bits (row side j xs) ≡ Err rule) →
    each_row_turned (rounded_transform kind (limit_of depth) log2 bits) n xs ≡ Err rule
turn_failed kind depth log2 bits n side xs rule is fails =
    let f = rounded_transform kind (limit_of depth) log2 bits in
    turned_err f n xs rule
    (λ ys fault h. transform_fault kind (limit_of depth) log2 ys fault (rounded_fault bits (transform kind (limit_of depth) log2 ys) fault h))
    (subst (λ z. (j : ℕ) × (j < z) × (f (row z j xs) ≡ Err rule)) is fails)

-- one group that is the whole block
pub group_turned : (kind : Kind) (depth : Depth) (log2 bits n m : ℕ) (xs old new : List ℤ) (r : Result (Unit {0}) Rule) → n ≡ m → length new ≡ n * n →
    TurnsGroup (rounded_transform kind (limit_of depth) log2 bits) n 0 n xs r old new →
    Gives (each_row_turned (rounded_transform kind (limit_of depth) log2 bits) m xs) r new
group_turned kind depth log2 bits n m xs old new (Ok _) is size group =
    turn_done (rounded_transform kind (limit_of depth) log2 bits) m n n xs new is (omega arith) (subst (λ z. length new ≡ z * z) is size)
    record { done = λ j low below. group.done j low (within_is 0 n j (omega arith) (omega arith)) }
group_turned kind depth log2 bits n m xs old new (Err rule) is size group = turn_failed kind depth log2 bits m n xs rule is group
