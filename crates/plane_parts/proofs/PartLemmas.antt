-- Rows of a part that are copied, one after another.
use Rattle.std.proofs.Common.{◌≡◌, ◌<◌, ◌≤◌, ◌+◌, ◌-◌, ◌⊎◌, ℕ, inl, inr, refl, sym, ◌∙◌, ap, subst, arith}
use Rattle.std.specs.Prelude.{slice_index}
use Rattle.std.proofs.lemmas.Bool.{cases_lt}
use Rattle.std.proofs.lemmas.Bool.Decides.{nat_tests}
use Rattle.std.proofs.lemmas.List.FromFn.{get_or-map-range_with_len}
use Rattle.vp9_types.specs.Maps.{Map, IsAtMost, row_of, with_block}
use Rattle.planes.specs.declared.area.Area.{Area}
use Rattle.planes.specs.Planes.{HasRow, lower_end, right_end}
use Rattle.plane_parts.specs.PlaneParts.{HasPart, IsInArea, LiesIn}

pub in_area_or_out : (a : Area) (y x : ℕ) → IsInArea a y x ⊎ (IsInArea a y x → ⊥)
in_area_or_out a y x = elim (cases_lt y a.first_row) [
  | inl high ↦ inr (λ h. omega (arith, high, h.below))
  | inr below ↦ elim (cases_lt y (lower_end a)) [
    | inr low ↦ inr (λ h. omega (arith, low, h.above))
    | inl above ↦ elim (cases_lt x a.first_column) [
      | inl early ↦ inr (λ h. omega (arith, early, h.behind))
      | inr behind ↦ elim (cases_lt x (right_end a)) [
        | inr late ↦ inr (λ h. omega (arith, late, h.before))
        | inl before ↦ inl (record { below = below; above = above; behind = behind; before = before })
      ]
    ]
  ]
]

-- the rows of a part above one of them
abbrev pub rows_before : Area → ℕ → Area
rows_before part row = record part { rows = row - part.first_row }

pub none_copied : (part : Area) (from old : Map) → HasPart (rows_before part part.first_row) from old old
none_copied part from old = record {
  inside = λ y x i. (let high = i.above in let low = i.below in absurd (omega (arith, high, low)));
  outside = λ y x out. refl;
}

in_row : (m b : Map) (row column n y x : ℕ) → y ≡ row → column ≤ x → x < column + n → with_block m row column 1 n b y x ≡ b (y - row) (x - column)
unfolding with_block
in_row m b row column n y x at behind before = grind (arith, nat_tests)

above_row : (m b : Map) (row column n y x : ℕ) → y < row → with_block m row column 1 n b y x ≡ m y x
unfolding with_block
above_row m b row column n y x h = grind (arith, nat_tests)

under_row : (m b : Map) (row column n y x : ℕ) → row < y → with_block m row column 1 n b y x ≡ m y x
unfolding with_block
under_row m b row column n y x h = grind (arith, nat_tests)

left_of_row : (m b : Map) (row column n y x : ℕ) → x < column → with_block m row column 1 n b y x ≡ m y x
unfolding with_block
left_of_row m b row column n y x h = grind (arith, nat_tests)

right_of_row : (m b : Map) (row column n y x : ℕ) → column + n ≤ x → with_block m row column 1 n b y x ≡ m y x
unfolding with_block
right_of_row m b row column n y x h = grind (arith, nat_tests)

beside_row : (m b : Map) (row column n y x : ℕ) → ((y ≡ row) → (column ≤ x) → (x < column + n) → ⊥) → with_block m row column 1 n b y x ≡ m y x
beside_row m b row column n y x out = elim (cases_lt y row) [
  | inl high ↦ above_row m b row column n y x high
  | inr below ↦ elim (cases_lt row y) [
    | inl low ↦ under_row m b row column n y x low
    | inr most ↦ elim (cases_lt x column) [
      | inl early ↦ left_of_row m b row column n y x early
      | inr behind ↦ elim (cases_lt x (column + n)) [
        | inr late ↦ right_of_row m b row column n y x late
        | inl before ↦ absurd (out (omega (arith, below, most)) behind before)
      ]
    ]
  ]
]

sample_of_row : (m : Map) (row column n x : ℕ) → column ≤ x → x < column + n → slice_index (row_of m row column n) (x - column) ≡ m row x
sample_of_row m row column n x behind before =
    let low : x - column < n = omega (arith, behind, before) in
    let at : column + (x - column) ≡ x = omega (arith, behind) in
    get_or-map-range_with_len (m row) column n (x - column) (column + (x - column)) 0 low refl ∙ ap (m row) at

-- one row more
pub row_copied : (part : Area) (row : ℕ) (from old now new : Map) → part.first_row ≤ row → HasPart (rows_before part row) from old now
    → new ≡ with_block now row part.first_column 1 part.columns (λ _ j. slice_index (row_of from row part.first_column part.columns) j)
    → HasPart (rows_before part (row + 1)) from old new
row_copied part row from old now new least so is = record {
  inside = λ y x i. elim (cases_lt y row) [
    | inl before ↦
        same y x ∙ (beside_row now b row part.first_column part.columns y x (λ at _ _. omega (arith, before, at))
        ∙ so.inside y x (record { below = i.below; above = omega (arith, before, i.below); behind = i.behind; before = i.before }))
    | inr behind ↦
        let at : y ≡ row = omega (arith, behind, i.above, least) in
        same y x ∙ (in_row now b row part.first_column part.columns y x at i.behind i.before
        ∙ (sample_of_row from row part.first_column part.columns x i.behind i.before ∙ ap (λ r. from r x) (sym at)))
  ];
  outside = λ y x out. same y x ∙ (beside_row now b row part.first_column part.columns y x
      (λ at behind before. out (record { below = omega (arith, at, least); above = omega (arith, at, least); behind = behind; before = before }))
      ∙ so.outside y x (λ i. out (record { below = i.below; above = omega (arith, i.above); behind = i.behind; before = i.before })));
}
  where
    b : Map
    b = λ _ j. slice_index (row_of from row part.first_column part.columns) j

    same : (y x : ℕ) → new y x ≡ with_block now row part.first_column 1 part.columns b y x
    same y x = ap (λ (m : Map). m y x) is

-- all rows of it
pub all_copied : (part : Area) (row : ℕ) (from old new : Map) → part.first_row ≤ row → row ≡ lower_end part → HasPart (rows_before part row) from old new → HasPart part from old new
all_copied part row from old new least last so = record {
  inside = λ y x i. so.inside y x (record { below = i.below; above = omega (arith, i.above, last, least); behind = i.behind; before = i.before });
  outside = λ y x out. so.outside y x (λ i. out (record { below = i.below; above = omega (arith, i.above, last, least); behind = i.behind; before = i.before }));
}

-- a bound of both planes
pub part_small : (part : Area) (from old new : Map) → HasPart part from old new → (most : ℕ) → IsAtMost most from → IsAtMost most old → IsAtMost most new
part_small part from old new has most small also y x = elim (in_area_or_out part y x) [
  | inl i ↦ rw (has.inside y x i) (small y x)
  | inr out ↦ rw (has.outside y x out) (also y x)
]

-- a row of a part lies where it does
pub row_there : (part a : Area) (row : ℕ) → LiesIn part a → part.first_row ≤ row → row < lower_end part → HasRow a row part.first_column part.columns
row_there part a row lies least low = record {
  above = omega (arith, lies.top, least);
  below = omega (arith, lies.bottom, low);
  left = lies.left;
  right = lies.right;
}
