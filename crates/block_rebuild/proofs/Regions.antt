-- What is done to a map in a region, step after step.
use Rattle.std.proofs.Common.{◌≡◌, ◌<◌, ◌≤◌, ◌+◌, ◌-◌, ◌⊎◌, inl, inr, ℕ, List, [], ◌∷◌, refl, sym, ◌∙◌, arith}
use Rattle.std.specs.List.{All, fold}
use Rattle.std.proofs.Math.Path.{fun_ext}
use Rattle.std.proofs.lemmas.Bool.{cases_lt}
use Rattle.std.proofs.lemmas.Bool.Decides.{nat_tests}
use Rattle.std.proofs.lemmas.List.Elements.{All-head, All-tail}
use Rattle.vp9_types.specs.Maps.{Map, with_block}
use Rattle.block_rebuild.specs.Strips.{Region, IsIn, IsAround}
use Rattle.block_rebuild.specs.Laws.{IsOutside, SameAround, StaysIn}

---- Places ----

pub in_or_out : (g : Region) (y x : ℕ) → IsIn g y x ⊎ IsOutside g y x
in_or_out g y x = elim (cases_lt y g.top) [
  | inl high ↦ inr (λ h. omega (arith, high, h.below))
  | inr below ↦ elim (cases_lt y g.bottom) [
    | inr low ↦ inr (λ h. omega (arith, low, h.above))
    | inl above ↦ elim (cases_lt x g.left) [
      | inl early ↦ inr (λ h. omega (arith, early, h.behind))
      | inr behind ↦ elim (cases_lt x g.right) [
        | inr late ↦ inr (λ h. omega (arith, late, h.before))
        | inl before ↦ inl (record { below = below; above = above; behind = behind; before = before })
      ]
    ]
  ]
]

pub around : (g : Region) (y x : ℕ) → IsIn g y x → IsAround g y x
around g y x h = record { below = omega (arith, h.below); above = h.above; behind = h.behind; before = h.before }

-- one region lies in another
pub record IsWithin (g h : Region) : Type 0 where
  pub top : h.top ≤ g.top
  pub bottom : g.bottom ≤ h.bottom
  pub left : h.left ≤ g.left
  pub right : g.right ≤ h.right

pub within_in : (g h : Region) (y x : ℕ) → IsWithin g h → IsIn g y x → IsIn h y x
within_in g h y x w i = record {
  below = omega (arith, w.top, i.below);
  above = omega (arith, w.bottom, i.above);
  behind = omega (arith, w.left, i.behind);
  before = omega (arith, w.right, i.before);
}

pub within_around : (g h : Region) (y x : ℕ) → IsWithin g h → IsAround g y x → IsAround h y x
within_around g h y x w i = record {
  below = omega (arith, w.top, i.below);
  above = omega (arith, w.bottom, i.above);
  behind = omega (arith, w.left, i.behind);
  before = omega (arith, w.right, i.before);
}

---- Steps ----

pub does_nothing : (own g : Region) → StaysIn own g (λ m. m)
does_nothing own g = record { leaves = λ m y x out. refl; needs = λ m n same. same }

pub then_stays : (own g : Region) (f h : Map → Map) → StaysIn own g f → StaysIn own g h → StaysIn own g (λ m. h (f m))
then_stays own g f h first second = record {
  leaves = λ m y x out. second.leaves (f m) y x out ∙ first.leaves m y x out;
  needs = λ m n same. second.needs (f m) (f n) (first.needs m n same);
}

pub fold_stays : {A : Type 0} (own g : Region) (put : Map → A → Map) (xs : List A) → All (λ a. StaysIn own g (λ m. put m a)) xs → StaysIn own g (λ m. fold put m xs)
fold_stays own g put [] each = does_nothing own g
fold_stays own g put (x ∷ xs) each =
    then_stays own g (λ m. put m x) (λ m. fold put m xs) (All-head (λ a. StaysIn own g (λ m. put m a)) x xs each)
    (fold_stays own g put xs (All-tail (λ a. StaysIn own g (λ m. put m a)) x xs each))

-- as seen from a larger region
pub stays_wider : (own g own' g' : Region) (f : Map → Map) → IsWithin own own' → IsWithin g g' → IsWithin own g → StaysIn own g f → StaysIn own' g' f
stays_wider own g own' g' f more wider inside stays = record {
  leaves = λ m y x out. stays.leaves m y x (λ i. out (within_in own own' y x more i));
  needs = λ m n same y x near. elim (in_or_out own y x) [
    | inl i ↦ stays.needs m n (λ y x h. same y x (within_around g g' y x wider h)) y x (around g y x (within_in own g y x inside i))
    | inr out ↦ stays.leaves m y x out ∙ (same y x near ∙ sym (stays.leaves n y x out))
  ];
}

-- steps in regions side by side commute
pub commute : (g h : Region) (f k : Map → Map) (m : Map) → g.right ≤ h.left → StaysIn g g f → StaysIn h h k → f (k m) ≡ k (f m)
commute g h f k m apart one two = fun_ext λ y. fun_ext λ x. elim (in_or_out g y x) [
  | inl i ↦ one.needs (k m) m (λ y x near. two.leaves m y x (λ o. omega (arith, near.before, o.behind, apart))) y x (around g y x i)
      ∙ sym (two.leaves (f m) y x (λ o. omega (arith, i.before, o.behind, apart)))
  | inr out ↦ one.leaves (k m) y x out ∙ elim (in_or_out h y x) [
    | inl i ↦ sym (two.needs (f m) m (λ y x near. one.leaves m y x (λ o. omega (arith, near.behind, o.before, apart))) y x (around h y x i))
    | inr off ↦ two.leaves m y x off ∙ (sym (one.leaves m y x out) ∙ sym (two.leaves (f m) y x off))
  ]
]

---- A block of samples ----

outside_block : (m b : Map) (y0 x0 rows columns y x : ℕ) → (y < y0) ⊎ ((y0 + rows ≤ y) ⊎ ((x < x0) ⊎ (x0 + columns ≤ x))) → with_block m y0 x0 rows columns b y x ≡ m y x
unfolding with_block
outside_block m b y0 x0 rows columns y x (inl h) = grind (arith, nat_tests)
outside_block m b y0 x0 rows columns y x (inr (inl h)) = grind (arith, nat_tests)
outside_block m b y0 x0 rows columns y x (inr (inr (inl h))) = grind (arith, nat_tests)
outside_block m b y0 x0 rows columns y x (inr (inr (inr h))) = grind (arith, nat_tests)

inside_block : (m b : Map) (y0 x0 rows columns y x : ℕ) → y0 ≤ y → y < y0 + rows → x0 ≤ x → x < x0 + columns → with_block m y0 x0 rows columns b y x ≡ b (y - y0) (x - x0)
unfolding with_block
inside_block m b y0 x0 rows columns y x below above behind before = grind (arith, nat_tests)

-- where a block lies: in it, or out of it in one of the four ways
where_in : (y0 x0 rows columns y x : ℕ) → (y0 ≤ y) × ((y < y0 + rows) × ((x0 ≤ x) × (x < x0 + columns))) ⊎ ((y < y0) ⊎ ((y0 + rows ≤ y) ⊎ ((x < x0) ⊎ (x0 + columns ≤ x))))
where_in y0 x0 rows columns y x = elim (cases_lt y y0) [
  | inl high ↦ inr (inl high)
  | inr below ↦ elim (cases_lt y (y0 + rows)) [
    | inr low ↦ inr (inr (inl low))
    | inl above ↦ elim (cases_lt x x0) [
      | inl early ↦ inr (inr (inr (inl early)))
      | inr behind ↦ elim (cases_lt x (x0 + columns)) [
        | inr late ↦ inr (inr (inr (inr late)))
        | inl before ↦ inl (below, (above, (behind, before)))
      ]
    ]
  ]
]

-- a block put in, whose samples need the map in a region
pub block_stays : (own g : Region) (y0 x0 rows columns : ℕ) (b : Map → Map) → own.top ≤ y0 → y0 + rows ≤ own.bottom → own.left ≤ x0 → x0 + columns ≤ own.right
    → ((m n : Map) → SameAround g m n → (i j : ℕ) → i < rows → j < columns → b m i j ≡ b n i j) → StaysIn own g (λ m. with_block m y0 x0 rows columns (b m))
block_stays own g y0 x0 rows columns b top bottom left right same = record {
  leaves = λ m y x out. elim (where_in y0 x0 rows columns y x) [
    | inl i ↦ absurd (out (record { below = omega (arith, i.0, top); above = omega (arith, i.1.0, bottom); behind = omega (arith, i.1.1.0, left); before = omega (arith, i.1.1.1, right) }))
    | inr o ↦ outside_block m (b m) y0 x0 rows columns y x o
  ];
  needs = λ m n agree y x near. elim (where_in y0 x0 rows columns y x) [
    | inl i ↦ inside_block m (b m) y0 x0 rows columns y x i.0 i.1.0 i.1.1.0 i.1.1.1
        ∙ (same m n agree (y - y0) (x - x0) (omega (arith, i.0, i.1.0)) (omega (arith, i.1.1.0, i.1.1.1))
        ∙ sym (inside_block n (b n) y0 x0 rows columns y x i.0 i.1.0 i.1.1.0 i.1.1.1))
    | inr o ↦ outside_block m (b m) y0 x0 rows columns y x o ∙ (agree y x near ∙ sym (outside_block n (b n) y0 x0 rows columns y x o))
  ];
}
