-- The lines that the rows of slanted modes are parts of.
use Rattle.std.proofs.Common.{◌≡◌, ◌≢◌, ◌<◌, ◌≤◌, ◌+◌, ◌*◌, ◌/◌, ◌%◌, ◌-◌, inl, inr, ℕ, zero, suc, refl, ◌∙◌, arith, List, length, get_or, set, ap, min, get_or-set_same, get_or-set_other}
use Rattle.std.specs.Prelude.{nat_eq, if◌then◌else◌}
use Rattle.std.proofs.lemmas.Bool.{cases_lt, cases_eq, lt-ltb, le-ltb}
use Rattle.std.proofs.lemmas.Bool.Decides.{nat_tests}
use Rattle.intra_predict.specs.PredictedModes.{mean2, mean3, mean2_at, mean3_at, d45, d63, d117, d135, d153, d207}
use Rattle.intra_predict.proofs.Joins.{Joined, corner_is, up_is, down_is, up_is_2, down_is_2}

pub d45_line : (size : ℕ) (above line : List ℕ) → 4 ≤ size → 2 * size ≤ length line
    → ((k : ℕ) → k < 2 * size - 2 → get_or line (0 + k) 0 ≡ mean3_at above (0 + k))
    → (i j p : ℕ) → i < size → j < size → p ≡ i + j
    → get_or (set line (2 * size - 2) (get_or above (2 * size - 1) 0)) p 0 ≡ d45 size above i j
d45_line size above line some long means i j p below low is = elim (cases_lt (p + 2) (2 * size)) [
  | inl inside ↦
      let other : p ≢ 2 * size - 2 = omega arith in
      let at = means p (omega arith) in
      rw get_or-set_other (grind (arith, nat_tests))
  | inr last ↦
      let same : p ≡ 2 * size - 2 = omega arith in
      let fits : 2 * size - 2 < length line = omega arith in
      rw (same, get_or-set_same) (grind (arith, nat_tests))
]

pub d63_line : (size : ℕ) (above even odd : List ℕ)
    → ((k : ℕ) → k < size / 2 + size → get_or even (0 + k) 0 ≡ mean2_at above (0 + k))
    → ((k : ℕ) → k < size / 2 + size → get_or odd (0 + k) 0 ≡ mean3_at above (0 + k))
    → (i j : ℕ) → i < size → j < size
    → (if nat_eq (i % 2) 0 then get_or even (i / 2 + j) 0 else get_or odd (i / 2 + j) 0) ≡ d63 above i j
d63_line size above even odd evens odds i j below low =
    let inside : i / 2 + j < size / 2 + size = omega arith in
    let e = evens (i / 2 + j) inside in
    let o = odds (i / 2 + j) inside in
    grind (arith, nat_tests)

pub d135_line : (size : ℕ) (edge up down : List ℕ) → Joined size edge up down
    → (i j p : ℕ) → i < size → j < size → p + i + 1 ≡ size + j → mean3_at edge p ≡ d135 up down i j
unfolding d135
d135_line size edge up down is zero zero p below low at = corner_is size edge up down is p (omega arith)
d135_line size edge up down is zero (suc j) p below low at = up_is size edge up down is j p (omega arith) (omega arith)
d135_line size edge up down is (suc i) zero p below low at = down_is size edge up down is i p (omega arith)
d135_line size edge up down is (suc i) (suc j) p below low at =
    d135_line size edge up down is i j p (omega arith) (omega arith) (omega arith)

-- what the line of the mode is, from an edge
pub record IsLine153 (size : ℕ) (edge line : List ℕ) : Type 0 where
  pub front : (k : ℕ) → k < 2 * size
      → get_or line k 0 ≡ (if nat_eq (k % 2) 0 then mean2_at edge (k / 2) else mean3_at edge (k / 2))
  pub tail : (k : ℕ) → k < size - 1 → get_or line (2 * size + k) 0 ≡ mean3_at edge (size + k)

even_place : (size : ℕ) (edge line : List ℕ) → IsLine153 size edge line → (k p : ℕ) → p ≡ 2 * k → k < size
    → get_or line p 0 ≡ mean2_at edge k
even_place size edge line is k p at low =
    let e = is.front p (omega arith) in
    let half : p / 2 ≡ k = omega arith in
    let even : p % 2 ≡ 0 = omega arith in
    e ∙ rw (even, half) refl

odd_place : (size : ℕ) (edge line : List ℕ) → IsLine153 size edge line → (k p : ℕ) → p ≡ 2 * k + 1 → k < size
    → get_or line p 0 ≡ mean3_at edge k
odd_place size edge line is k p at low =
    let e = is.front p (omega arith) in
    let half : p / 2 ≡ k = omega arith in
    let odd : p % 2 ≡ 1 = omega arith in
    e ∙ rw (odd, half) refl

pub d153_line : (size : ℕ) (edge up down line : List ℕ) → Joined size edge up down → IsLine153 size edge line
    → (i j p : ℕ) → i < size → j < size → p + 2 * i + 2 ≡ 2 * size + j → get_or line p 0 ≡ d153 up down i j
unfolding d153
d153_line size edge up down line is by i zero p below low at =
    even_place size edge line by (size - 1 - i) p (omega arith) (omega arith)
    ∙ down_is_2 size edge up down is i (size - 1 - i) (omega arith)
d153_line size edge up down line is by zero (suc zero) p below low at =
    odd_place size edge line by (size - 1) p (omega arith) (omega arith)
    ∙ corner_is size edge up down is (size - 1) (omega arith)
d153_line size edge up down line is by (suc i) (suc zero) p below low at =
    odd_place size edge line by (size - 2 - i) p (omega arith) (omega arith)
    ∙ down_is size edge up down is i (size - 2 - i) (omega arith)
d153_line size edge up down line is by zero (suc (suc j)) p below low at =
    let here : p ≡ 2 * size + j = omega arith in
    rw here (by.tail j (omega arith)) ∙ up_is size edge up down is j (size + j) refl (omega arith)
d153_line size edge up down line is by (suc i) (suc (suc j)) p below low at =
    d153_line size edge up down line is by i j p (omega arith) (omega arith) (omega arith)

pub record AreLines117 (size : ℕ) (edge even odd : List ℕ) : Type 0 where
  pub twos : size ≡ 2 * (size / 2)
  pub even_left : (k : ℕ) → k < size / 2 → get_or even k 0 ≡ mean3_at edge (2 * k)
  pub even_right : (k : ℕ) → k < size → get_or even (size / 2 + k) 0 ≡ mean2_at edge (size + k)
  pub odd_left : (k : ℕ) → k < size / 2 - 1 → get_or odd (1 + k) 0 ≡ mean3_at edge (1 + 2 * k)
  pub odd_right : (k : ℕ) → k < size → get_or odd (size / 2 + k) 0 ≡ mean3_at edge (size - 1 + k)

abbrev turn : List ℕ → List ℕ → ℕ → ℕ → ℕ
turn even odd i p = if nat_eq (i % 2) 0 then get_or even p 0 else get_or odd p 0

later : (even odd : List ℕ) (i p : ℕ) → turn even odd (suc (suc i)) p ≡ turn even odd i p
later even odd i p = let same : suc (suc i) % 2 ≡ i % 2 = omega arith in rw same refl

-- column 0 from row 2 on
first_column : (size : ℕ) (edge up down even odd : List ℕ) → Joined size edge up down → AreLines117 size edge even odd
    → (i p : ℕ) → i + 2 < size → p + i / 2 + 1 ≡ size / 2 → turn even odd i p ≡ mean3_at down i
first_column size edge up down even odd is by i p below at = elim (cases_eq (i % 2) 0) [
  | inl one ↦
      let here : 2 * p + i + 2 ≡ size = omega (arith, by.twos) in
      let e : get_or even p 0 ≡ mean3_at down i = by.even_left p (omega arith) ∙ down_is size edge up down is i (2 * p) here in
      rw one e
  | inr other ↦
      let some : 1 ≤ p = omega (arith, by.twos) in
      let here : 1 + 2 * (p - 1) + i + 2 ≡ size = omega (arith, by.twos) in
      let back : p ≡ 1 + (p - 1) = omega arith in
      let e : get_or odd (1 + (p - 1)) 0 ≡ mean3_at down i =
      by.odd_left (p - 1) (omega arith) ∙ down_is size edge up down is i (1 + 2 * (p - 1)) here in
      let o : get_or odd p 0 ≡ mean3_at down i = ap (λ n. get_or odd n 0) back ∙ e in
      let odds : i % 2 ≡ 1 = omega arith in
      rw odds o
]

pub d117_line : (size : ℕ) (edge up down even odd : List ℕ) → Joined size edge up down → AreLines117 size edge even odd
    → (i j p : ℕ) → i < size → j < size → p + i / 2 ≡ size / 2 + j → turn even odd i p ≡ d117 up down i j
unfolding d117
d117_line size edge up down even odd is by zero j p below low at =
    let here : p ≡ size / 2 + j = omega arith in
    rw here (by.even_right j low) ∙ up_is_2 size edge up down is j (size + j) refl (omega arith)
d117_line size edge up down even odd is by (suc zero) zero p below low at =
    let here : p ≡ size / 2 + 0 = omega arith in
    rw here (by.odd_right 0 low) ∙ corner_is size edge up down is (size - 1 + 0) (omega arith)
d117_line size edge up down even odd is by (suc zero) (suc j) p below low at =
    let here : p ≡ size / 2 + suc j = omega arith in
    rw here (by.odd_right (suc j) low) ∙ up_is size edge up down is j (size - 1 + suc j) (omega arith) (omega arith)
d117_line size edge up down even odd is by (suc (suc i)) zero p below low at =
    later even odd i p ∙ first_column size edge up down even odd is by i p (omega arith) (omega arith)
d117_line size edge up down even odd is by (suc (suc i)) (suc j) p below low at =
    later even odd i p ∙ d117_line size edge up down even odd is by i j p (omega arith) (omega arith) (omega arith)

pub record IsLine207 (size : ℕ) (left line : List ℕ) (edge : List ℕ) : Type 0 where
  pub edges : (k : ℕ) → k < 2 * size → get_or edge k 0 ≡ get_or left (min k (size - 1)) 0
  pub means : (k : ℕ) → k < 3 * size
      → get_or line k 0 ≡ (if nat_eq (k % 2) 0 then mean2_at edge (k / 2) else mean3_at edge (k / 2))

inside : (size : ℕ) (left line edge : List ℕ) → IsLine207 size left line edge → (k : ℕ) → k < size
    → get_or edge k 0 ≡ get_or left k 0
inside size left line edge is k low =
    let e = is.edges k (omega arith) in let here : min k (size - 1) ≡ k = omega arith in rw here at e

past : (size : ℕ) (left line edge : List ℕ) → IsLine207 size left line edge → (k : ℕ) → size ≤ k + 1 → k < 2 * size
    → get_or edge k 0 ≡ get_or left (size - 1) 0
past size left line edge is k low fits =
    let e = is.edges k fits in let here : min k (size - 1) ≡ size - 1 = omega arith in rw here at e

even_mean : (size : ℕ) (left line edge : List ℕ) → IsLine207 size left line edge → (k p : ℕ) → p ≡ 2 * k → p < 3 * size
    → get_or line p 0 ≡ mean2_at edge k
even_mean size left line edge is k p at low =
    let e = is.means p low in
    let half : p / 2 ≡ k = omega arith in
    let even : p % 2 ≡ 0 = omega arith in
    e ∙ rw (even, half) refl

odd_mean : (size : ℕ) (left line edge : List ℕ) → IsLine207 size left line edge → (k p : ℕ) → p ≡ 2 * k + 1 → p < 3 * size
    → get_or line p 0 ≡ mean3_at edge k
odd_mean size left line edge is k p at low =
    let e = is.means p low in
    let half : p / 2 ≡ k = omega arith in
    let odd : p % 2 ≡ 1 = omega arith in
    e ∙ rw (odd, half) refl

mean2_same : (x : ℕ) → mean2 x x ≡ x
mean2_same x = omega arith

mean3_same : (x : ℕ) → mean3 x x x ≡ x
mean3_same x = omega arith

-- from the last row on, all is the last sample
last_row : (size : ℕ) (left line edge : List ℕ) → 4 ≤ size → IsLine207 size left line edge → (p : ℕ) → 2 * size ≤ p + 2 → p < 3 * size - 2
    → get_or line p 0 ≡ get_or left (size - 1) 0
last_row size left line edge some is p low fits =
    let a = past size left line edge is (p / 2) (omega arith) (omega arith) in
    let b = past size left line edge is (p / 2 + 1) (omega arith) (omega arith) in
    let c = past size left line edge is (p / 2 + 2) (omega arith) (omega arith) in
    elim (cases_eq (p % 2) 0) [
      | inl one ↦ even_mean size left line edge is (p / 2) p (omega arith) (omega arith) ∙ rw (a, b) (mean2_same _)
      | inr other ↦ odd_mean size left line edge is (p / 2) p (omega arith) (omega arith) ∙ rw (a, b, c) (mean3_same _)
    ]

pub d207_line : (size : ℕ) (left line edge : List ℕ) → 4 ≤ size → IsLine207 size left line edge
    → (i j p : ℕ) → i < size → j < size → p ≡ 2 * i + j → p < 3 * size - 2 → get_or line p 0 ≡ d207 size left i j
unfolding d207
d207_line size left line edge some is i zero p below low at fits = elim (cases_lt (i + 1) size) [
  | inl more ↦
      let a = inside size left line edge is i below in
      let b = inside size left line edge is (i + 1) more in
      let e : get_or line p 0 ≡ mean2_at left i = even_mean size left line edge is i p (omega arith) (omega arith) ∙ rw (a, b) refl in
      rw (lt-ltb (i + 1) size more) e
  | inr last ↦
      let e = last_row size left line edge some is p (omega arith) fits in
      rw (le-ltb (i + 1) size last) e
]
d207_line size left line edge some is i (suc zero) p below low at fits = elim (cases_lt (i + 1) size) [
  | inl more ↦
      let a = inside size left line edge is i below in
      let b = inside size left line edge is (i + 1) more in
      elim (cases_lt (i + 2) size) [
        | inl two ↦
            let c = inside size left line edge is (i + 2) two in
            let e : get_or line p 0 ≡ mean3_at left i = odd_mean size left line edge is i p (omega arith) (omega arith) ∙ rw (a, b, c) refl in
            rw (lt-ltb (i + 2) size two) e
        | inr one ↦
            let here : size - 1 ≡ i + 1 = omega arith in
            let c : get_or edge (i + 2) 0 ≡ get_or left (i + 1) 0 = rw here at (past size left line edge is (i + 2) (omega arith) (omega arith)) in
            let e : get_or line p 0 ≡ mean3 (get_or left i 0) (get_or left (i + 1) 0) (get_or left (i + 1) 0) =
            odd_mean size left line edge is i p (omega arith) (omega arith) ∙ rw (a, b, c) refl in
            rw (le-ltb (i + 2) size one, lt-ltb (i + 1) size more) e
      ]
  | inr last ↦
      let e = last_row size left line edge some is p (omega arith) fits in
      let also : size ≤ i + 2 = omega arith in
      rw (le-ltb (i + 2) size also, le-ltb (i + 1) size last) e
]
d207_line size left line edge some is i (suc (suc j)) p below low at fits = elim (cases_lt (i + 1) size) [
  | inl more ↦
      let e = d207_line size left line edge some is (i + 1) j p more (omega arith) (omega arith) fits in
      rw (lt-ltb (i + 1) size more) e
  | inr last ↦
      let e = last_row size left line edge some is p (omega arith) fits in
      rw (le-ltb (i + 1) size last) e
]
