-- The cells of a superblock are those that begin at its places.
use Rattle.std.proofs.Common.{◌≡◌, nat_eq, ◌+◌, ◌*◌, ◌-◌, ◌/◌, ◌%◌, ℕ, zero, suc, inl, inr, Bool, true, false, refl, sym, ◌∙◌, arith, ap, List, [], ◌∷◌, ◌++◌, min}
use Rattle.std.specs.Prelude.{if◌then◌else◌, not, ◌&&◌, ◌||◌}
use Rattle.std.specs.List.{flat_map}
use Rattle.std.specs.Int.{div_ceil}
use Rattle.std.proofs.Math.Path.{fun_ext}
use Rattle.std.proofs.lemmas.Bool.{cases_Bool}
use Rattle.std.proofs.lemmas.Bool.Decides.{nat_tests}
use Rattle.std.proofs.lemmas.List.{append-nil}
use Rattle.std.proofs.lemmas.List.FromFn.{map-range_with_len_more}
use Rattle.vp9_types.specs.Shapes.{mi_rows, mi_cols}
use Rattle.vp9_types.specs.declared.shape.Plane.{Plane}
use Rattle.vp9_types.specs.declared.shape.Plane.TheVariants.{Y, U, V}
use Rattle.vp9_types.specs.declared.shape.Shape.{Shape}
use Rattle.block_plan.specs.Blocks.{covering}
use Rattle.block_plan.specs.declared.block.BlockInfo.{BlockInfo}
use Rattle.line_filter.specs.declared.edge.Edge.{Edge}
use Rattle.line_filter.specs.declared.edge.Pass.{Pass}
use Rattle.loop_edges.specs.Cells.{cell_at, sub_x, sub_y}
use Rattle.loop_edges.specs.FrameEdges.{step_of, cells_from, cells_of, edges_of, cell_edges, cell_row, pass_edges}
use Rattle.loop_edges.specs.declared.setting.EdgeSetting.{EdgeSetting}
use Rattle.loop_filter.specs.FilterPlans.{has_cell, edges_at, edges_along, edges_of_rows}
use Rattle.loop_filter.proofs.Walks.{flat_map_push}

-- one place more
pub places_more : (g : ℕ → List Edge) (sub : Bool) (s n : ℕ) → flat_map g (cells_from sub s (n + 1)) ≡ flat_map g (cells_from sub s n) ++ g (8 * s + step_of sub * n)
places_more g sub s n =
    ap (flat_map g) (map-range_with_len_more (λ (i : ℕ). 8 * s + step_of sub * i) 0 n n (omega arith))
    ∙ flat_map_push g (cells_from sub s n) (8 * s + step_of sub * n)

pub place_more : (g : ℕ → List Edge) (s n : ℕ) → flat_map g (cells_from false s (n + 1)) ≡ flat_map g (cells_from false s n) ++ g (8 * s + n)
place_more g s n =
    let at : 8 * s + step_of false * n ≡ 8 * s + n = omega arith in
    places_more g false s n ∙ ap (λ (k : ℕ). flat_map g (cells_from false s n) ++ g k) at

-- Where it is subsampled, a cell begins at every second place.
is_even : (s m : ℕ) → nat_eq ((8 * s + 2 * m) % 2) 1 ≡ false
is_even s m = let e : (8 * s + 2 * m) % 2 ≡ 0 = omega arith in rw e refl

is_odd : (s m : ℕ) → nat_eq ((8 * s + (2 * m + 1)) % 2) 1 ≡ true
is_odd s m = let e : (8 * s + (2 * m + 1)) % 2 ≡ 1 = omega arith in rw e refl

two_more : (g h : ℕ → List Edge) (s m : ℕ) → ((k : ℕ) → nat_eq (k % 2) 1 ≡ false → h k ≡ g k) → ((k : ℕ) → nat_eq (k % 2) 1 ≡ true → h k ≡ [])
    → flat_map h (cells_from false s (2 * m)) ≡ flat_map g (cells_from true s m)
    → flat_map h (cells_from false s (2 * m + 1)) ≡ flat_map g (cells_from true s (m + 1))
two_more g h s m same none so =
    place_more h s (2 * m) ∙ (ap (λ xs. xs ++ h (8 * s + 2 * m)) so
    ∙ (ap (λ xs. flat_map g (cells_from true s m) ++ xs) (same (8 * s + 2 * m) (is_even s m)) ∙ sym (places_more g true s m)))

skipped : (h : ℕ → List Edge) (s m : ℕ) → ((k : ℕ) → nat_eq (k % 2) 1 ≡ true → h k ≡ [])
    → flat_map h (cells_from false s (2 * m + 1 + 1)) ≡ flat_map h (cells_from false s (2 * m + 1))
skipped h s m none =
    place_more h s (2 * m + 1) ∙ (ap (λ xs. flat_map h (cells_from false s (2 * m + 1)) ++ xs) (none (8 * s + (2 * m + 1)) (is_odd s m)) ∙ append-nil _)

halves : (g h : ℕ → List Edge) (s m : ℕ) → ((k : ℕ) → nat_eq (k % 2) 1 ≡ false → h k ≡ g k) → ((k : ℕ) → nat_eq (k % 2) 1 ≡ true → h k ≡ [])
    → flat_map h (cells_from false s (2 * m)) ≡ flat_map g (cells_from true s m)
halves g h s zero same none = refl
halves g h s (suc m) same none =
    let e : 2 * suc m ≡ 2 * m + 1 + 1 = omega arith in
    let d : m + 1 ≡ suc m = omega arith in
    ap (λ (n : ℕ). flat_map h (cells_from false s n)) e
    ∙ (skipped h s m none ∙ (two_more g h s m same none (halves g h s m same none) ∙ ap (λ (n : ℕ). flat_map g (cells_from true s n)) d))

half : (g h : ℕ → List Edge) (s n : ℕ) → ((k : ℕ) → nat_eq (k % 2) 1 ≡ false → h k ≡ g k) → ((k : ℕ) → nat_eq (k % 2) 1 ≡ true → h k ≡ [])
    → flat_map h (cells_from false s n) ≡ flat_map g (cells_from true s (div_ceil n 2))
half g h s n same none = elim (cases_Bool (nat_eq (n % 2) 1)) [
  | inl odd ↦
      let r : n % 2 ≡ 1 = grind (arith, nat_tests) in
      let e : n ≡ 2 * (n / 2) + 1 = omega (arith, r) in
      let d : n / 2 + 1 ≡ div_ceil n 2 = omega (arith, r) in
      ap (λ (k : ℕ). flat_map h (cells_from false s k)) e
      ∙ (two_more g h s (n / 2) same none (halves g h s (n / 2) same none) ∙ ap (λ (k : ℕ). flat_map g (cells_from true s k)) d)
  | inr even ↦
      let r : n % 2 ≡ 0 = grind (arith, nat_tests) in
      let e : n ≡ 2 * (n / 2) = omega (arith, r) in
      let d : n / 2 ≡ div_ceil n 2 = omega (arith, r) in
      ap (λ (k : ℕ). flat_map h (cells_from false s k)) e
      ∙ (halves g h s (n / 2) same none ∙ ap (λ (k : ℕ). flat_map g (cells_from true s k)) d)
]

spread : (sub : Bool) (g h : ℕ → List Edge) (s n : ℕ) → ((k : ℕ) → (sub && nat_eq (k % 2) 1) ≡ false → h k ≡ g k) → ((k : ℕ) → (sub && nat_eq (k % 2) 1) ≡ true → h k ≡ [])
    → flat_map h (cells_from false s n) ≡ flat_map g (cells_from sub s (div_ceil n (step_of sub)))
spread true g h s n same none = half g h s n same none
spread false g h s n same none =
    let all : h ≡ g = fun_ext λ k. same k refl in
    let e : n ≡ div_ceil n 1 = omega arith in
    ap (λ (z : ℕ → List Edge). flat_map z (cells_from false s n)) all ∙ ap (λ (k : ℕ). flat_map g (cells_from false s k)) e

all_empty : (g : ℕ → List Edge) (xs : List ℕ) → ((k : ℕ) → g k ≡ []) → flat_map g xs ≡ []
all_empty g [] none = refl
all_empty g (x ∷ xs) none = rw (none x, all_empty g xs none) refl

there : (p x y : Bool) → (p && x) ≡ false → (p && y) ≡ false → (not p || (not x && not y)) ≡ true
there false x y one two = refl
there true false false one two = refl
there true true y one two = let no : ⊥ = cc in absurd no
there true false true one two = let no : ⊥ = cc in absurd no

absent_x : (p x y : Bool) → (p && x) ≡ true → (not p || (not x && not y)) ≡ false
absent_x true true y one = refl
absent_x true false y one = let no : ⊥ = cc in absurd no
absent_x false x y one = let no : ⊥ = cc in absurd no

absent_y : (p x y : Bool) → (p && y) ≡ true → (not p || (not x && not y)) ≡ false
absent_y true true true one = refl
absent_y true false true one = refl
absent_y true x false one = let no : ⊥ = cc in absurd no
absent_y false x y one = let no : ⊥ = cc in absurd no

pub placed_here : (t : Bool) (xs : List Edge) → t ≡ true → (if t then xs else []) ≡ xs
placed_here true xs is = refl
placed_here false xs is = let no : ⊥ = cc in absurd no

pub placed_not : (t : Bool) (xs : List Edge) → t ≡ false → (if t then xs else []) ≡ []
placed_not false xs is = refl
placed_not true xs is = let no : ⊥ = cc in absurd no

cell_here : (shape : Shape) (plane : Plane) (r c : ℕ) → (sub_x shape plane && nat_eq (c % 2) 1) ≡ false → (sub_y shape plane && nat_eq (r % 2) 1) ≡ false → has_cell shape plane r c ≡ true
cell_here shape Y r c one two = refl
cell_here shape U r c one two = there true (shape.ss_x && nat_eq (c % 2) 1) (shape.ss_y && nat_eq (r % 2) 1) one two
cell_here shape V r c one two = there true (shape.ss_x && nat_eq (c % 2) 1) (shape.ss_y && nat_eq (r % 2) 1) one two

between_columns : (shape : Shape) (plane : Plane) (r c : ℕ) → (sub_x shape plane && nat_eq (c % 2) 1) ≡ true → has_cell shape plane r c ≡ false
between_columns shape Y r c one = let no : ⊥ = cc in absurd no
between_columns shape U r c one = absent_x true (shape.ss_x && nat_eq (c % 2) 1) (shape.ss_y && nat_eq (r % 2) 1) one
between_columns shape V r c one = absent_x true (shape.ss_x && nat_eq (c % 2) 1) (shape.ss_y && nat_eq (r % 2) 1) one

between_rows : (shape : Shape) (plane : Plane) (r c : ℕ) → (sub_y shape plane && nat_eq (r % 2) 1) ≡ true → has_cell shape plane r c ≡ false
between_rows shape Y r c one = let no : ⊥ = cc in absurd no
between_rows shape U r c one = absent_y true (shape.ss_x && nat_eq (c % 2) 1) (shape.ss_y && nat_eq (r % 2) 1) one
between_rows shape V r c one = absent_y true (shape.ss_x && nat_eq (c % 2) 1) (shape.ss_y && nat_eq (r % 2) 1) one

-- a row of places with cells, and one between two such
row_here : (f : EdgeSetting) (blocks : List BlockInfo) (plane : Plane) (pass : Pass) (sc r : ℕ) → (sub_y f.shape plane && nat_eq (r % 2) 1) ≡ false
    → edges_along f blocks plane pass sc (min 8 (mi_cols f.shape - 8 * sc)) r ≡ cell_row f blocks plane pass r (cells_of (sub_x f.shape plane) (mi_cols f.shape) sc)
unfolding cell_row cell_edges
row_here f blocks plane pass sc r is =
    spread (sub_x f.shape plane) (λ c. cell_edges f blocks (cell_at plane pass r c)) (edges_at f blocks plane pass r) sc (min 8 (mi_cols f.shape - 8 * sc))
    (λ c even. placed_here (has_cell f.shape plane r c) (edges_of f (cell_at plane pass r c) (covering blocks r c)) (cell_here f.shape plane r c even is))
    (λ c odd. placed_not (has_cell f.shape plane r c) (edges_of f (cell_at plane pass r c) (covering blocks r c)) (between_columns f.shape plane r c odd))

row_between : (f : EdgeSetting) (blocks : List BlockInfo) (plane : Plane) (pass : Pass) (sc n r : ℕ) → (sub_y f.shape plane && nat_eq (r % 2) 1) ≡ true
    → edges_along f blocks plane pass sc n r ≡ []
row_between f blocks plane pass sc n r is =
    all_empty (edges_at f blocks plane pass r) (cells_from false sc n)
    (λ c. placed_not (has_cell f.shape plane r c) (edges_of f (cell_at plane pass r c) (covering blocks r c)) (between_rows f.shape plane r c is))

pub all_rows : (f : EdgeSetting) (blocks : List BlockInfo) (plane : Plane) (pass : Pass) (sr sc : ℕ)
    → edges_of_rows f blocks plane pass sr sc (min 8 (mi_rows f.shape - 8 * sr)) ≡ pass_edges f blocks plane pass sr sc
unfolding pass_edges
all_rows f blocks plane pass sr sc =
    spread (sub_y f.shape plane) (λ r. cell_row f blocks plane pass r (cells_of (sub_x f.shape plane) (mi_cols f.shape) sc))
    (edges_along f blocks plane pass sc (min 8 (mi_cols f.shape - 8 * sc))) sr (min 8 (mi_rows f.shape - 8 * sr))
    (λ r even. row_here f blocks plane pass sc r even)
    (λ r odd. row_between f blocks plane pass sc (min 8 (mi_cols f.shape - 8 * sc)) r odd)
