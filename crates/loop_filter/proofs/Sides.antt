-- The edges that a cell has lie in the area that is there.
use Rattle.std.proofs.Common.{◌≡◌, ◌<◌, ◌≤◌, ◌+◌, ◌*◌, ◌-◌, ◌%◌, ◌&&◌, ◌||◌, ℕ, Bool, true, false, inl, inr, refl, sym, arith, ap, nat_eq, unwrap_or}
use Rattle.std.specs.Prelude.{not, if◌then◌else◌, Option, Some, None}
use Rattle.std.proofs.lemmas.Bool.{cases_Bool}
use Rattle.std.proofs.lemmas.Bool.Decides.{nat_tests}
use Rattle.vp9_types.specs.Maps.{Map, IsAtMost}
use Rattle.vp9_types.specs.Shapes.{halved, mi_rows, mi_cols, coded_width, coded_height}
use Rattle.vp9_types.specs.Sizes.{greatest}
use Rattle.vp9_types.specs.declared.block.TxSize.{TxSize}
use Rattle.vp9_types.specs.declared.block.TxSize.TheVariants.{T4x4, T8x8, T16x16, T32x32}
use Rattle.vp9_types.specs.declared.shape.Depth.{Depth}
use Rattle.vp9_types.specs.declared.shape.Depth.TheVariants as depth
use Rattle.vp9_types.specs.declared.shape.Plane.{Plane}
use Rattle.vp9_types.specs.declared.shape.Plane.TheVariants.{Y, U, V}
use Rattle.vp9_types.specs.declared.shape.Shape.{Shape}
use Rattle.planes.specs.declared.area.Area.{Area}
use Rattle.block_plan.specs.InPlanes.{tx_in}
use Rattle.block_plan.specs.declared.block.BlockInfo.{BlockInfo}
use Rattle.line_filter.specs.Code.{IsEdgeIn}
use Rattle.line_filter.specs.FilteredEdges.{reach}
use Rattle.line_filter.specs.declared.edge.FilterWidth.{FilterWidth}
use Rattle.line_filter.specs.declared.edge.FilterWidth.TheVariants.{Four, Eight, Sixteen}
use Rattle.line_filter.specs.declared.edge.Limits.{Limits}
use Rattle.line_filter.specs.declared.edge.Pass.{Pass}
use Rattle.line_filter.specs.declared.edge.Pass.TheVariants.{Vertical, Horizontal}
use Rattle.loop_edges.specs.Cells.{cell_at, across, widest, outer_width, outer_edge, has_inner, is_4x4, is_skipped_inter, sub_x, sub_y}
use Rattle.loop_edges.specs.FrameEdges.{side_edge, middle_edge}
use Rattle.loop_edges.specs.FilterLevels.{limits_of}
use Rattle.loop_edges.specs.declared.cells.CellAt.{CellAt}
use Rattle.loop_edges.specs.declared.cells.Crossing.{Crossing}
use Rattle.loop_filter.specs.Code.{IsCellIn, CanFilterSide, CanFilterMiddle}
use Rattle.loop_filter.specs.declared.way.PlanePass.{PlanePass}

pub reach_low : (w : FilterWidth) → reach w ≤ 8
reach_low Four = omega arith
reach_low Eight = omega arith
reach_low Sixteen = omega arith

reach_some : (w : FilterWidth) → 4 ≤ reach w
reach_some Four = omega arith
reach_some Eight = omega arith
reach_some Sixteen = omega arith

same_width : (v w : FilterWidth) → Some v ≡ Some w → v ≡ w
same_width v w is = ap (λ (o : Option FilterWidth). unwrap_or o Four) is

narrowed_widest : (z : Crossing) (w : FilterWidth) → widest z ≡ w → z.is_last ≡ true → reach w ≡ 4
narrowed_widest z w is last = rw (sym is, last) refl

narrowed_if : (t : Bool) (z : Crossing) (w : FilterWidth) → (if t then Some (widest z) else None) ≡ Some w → z.is_last ≡ true → reach w ≡ 4
narrowed_if true z w is last = narrowed_widest z w (same_width (widest z) w is) last
narrowed_if false z w is last = let no : ⊥ = cc in absurd no

narrowed_four : (t : Bool) (w : FilterWidth) → Some (if t then Eight else Four) ≡ Some w → reach w ≡ 4
narrowed_four true w is = rw (sym (same_width Eight w is)) refl
narrowed_four false w is = rw (sym (same_width Four w is)) refl

pub narrowed : (tx : TxSize) (z : Crossing) (w : FilterWidth) → outer_width tx z ≡ Some w → z.is_last ≡ true → reach w ≡ 4
narrowed T32x32 z w is last = narrowed_if (nat_eq (z.k % 4) 0) z w is last
narrowed T16x16 z w is last = narrowed_if (nat_eq (z.k % 2) 0) z w is last
narrowed T8x8 z w is last = rw (sym (same_width Eight w is)) refl
narrowed T4x4 z w is last = narrowed_four (nat_eq (z.k % 4) 0) w is

pub not_first : (p f : Bool) (o : Option FilterWidth) (w : FilterWidth) → (if p && not f then o else None) ≡ Some w → f ≡ false
not_first true false o w is = refl
not_first true true o w is = let no : ⊥ = cc in absurd no
not_first false f o w is = let no : ⊥ = cc in absurd no

pub there : (p f : Bool) (o : Option FilterWidth) (w : FilterWidth) → (if p && not f then o else None) ≡ Some w → o ≡ Some w
there true false o w is = is
there true true o w is = let no : ⊥ = cc in absurd no
there false f o w is = let no : ⊥ = cc in absurd no

pub later : (n : ℕ) → nat_eq n 0 ≡ false → 0 < n
later n is = grind (arith, nat_tests)

-- a whole cell is in a plane's height or width
pub whole_side : (sub : Bool) (n end : ℕ) → n < end → (sub && nat_eq (n + 1) end) ≡ false → halved sub (8 * n) + 8 ≤ halved sub (8 * end)
whole_side false n end low last = omega arith
whole_side true n end low last = let other : n + 1 < end = grind (arith, nat_tests) in omega (arith, other)

pub half_side : (sub : Bool) (n end : ℕ) → n < end → halved sub (8 * n) + 4 ≤ halved sub (8 * end)
half_side false n end low = omega arith
half_side true n end low = omega arith

-- how far a filter looks beyond the edge
pub reached : (sub : Bool) (n end : ℕ) (w : FilterWidth) → n < end → ((sub && nat_eq (n + 1) end) ≡ true → reach w ≡ 4) → halved sub (8 * n) + reach w ≤ halved sub (8 * end)
reached sub n end w low last = elim (cases_Bool (sub && nat_eq (n + 1) end)) [
  | inl one ↦ omega (arith, last one, half_side sub n end low)
  | inr none ↦ omega (arith, reach_low w, whole_side sub n end low none)
]

pub high : (shape : Shape) (plane : Plane) → coded_height shape plane ≡ halved (sub_y shape plane) (8 * mi_rows shape)
high shape Y = refl
high shape U = refl
high shape V = refl

wide : (shape : Shape) (plane : Plane) → coded_width shape plane ≡ halved (sub_x shape plane) (8 * mi_cols shape)
wide shape Y = refl
wide shape U = refl
wide shape V = refl

side_by : (shape : Shape) (plane : Plane) (pass : Pass) (b : BlockInfo) (a : Area) (r c : ℕ) (limits : Limits) (w : FilterWidth)
    → IsCellIn shape plane a r c → (across pass shape (cell_at plane pass r c) b).is_first ≡ false → ((across pass shape (cell_at plane pass r c) b).is_last ≡ true → reach w ≡ 4)
    → IsEdgeIn a (side_edge shape (cell_at plane pass r c) limits w)
side_by shape plane Vertical b a r c limits w so first last =
    let column = reached (sub_x shape plane) c (mi_cols shape) w so.column last in
    let row = half_side (sub_y shape plane) r (mi_rows shape) so.row in
    record {
      above = so.above;
      below = omega (arith, so.below, row, high shape plane);
      left = omega (arith, so.left, so.left_all (later c first), reach_low w);
      right = omega (arith, so.right, wide shape plane, column);
      lines = sym so.below;
    }
side_by shape plane Horizontal b a r c limits w so first last =
    let row = reached (sub_y shape plane) r (mi_rows shape) w so.row last in
    let column = half_side (sub_x shape plane) c (mi_cols shape) so.column in
    record {
      above = omega (arith, so.above_all (later r first), reach_low w);
      below = omega (arith, so.below, row, reach_low w, reach_some w, high shape plane);
      left = omega (arith, so.left);
      right = omega (arith, so.right, wide shape plane, column);
      lines = rw so.right refl;
    }

pub side_fits : (shape : Shape) (way : PlanePass) (b : BlockInfo) (a : Area) (at : CellAt) (limits : Limits) (o : Option FilterWidth)
    → IsCellIn shape way.plane a at.row at.col → o ≡ outer_edge shape (cell_at way.plane way.pass at.row at.col) b → CanFilterSide shape way a at limits o
unfolding outer_edge
side_fits shape way b a at limits None so is = tt
side_fits shape way b a at limits (Some w) so is =
    let z = across way.pass shape (cell_at way.plane way.pass at.row at.col) b in
    let p = not (is_skipped_inter b) || z.is_block_edge in
    side_by shape way.plane way.pass b a at.row at.col limits w so
    (not_first p z.is_first (outer_width (tx_in shape b way.plane) z) w (sym is))
    (narrowed (tx_in shape b way.plane) z w (there p z.is_first (outer_width (tx_in shape b way.plane) z) w (sym is)))

pub last_of : (p q r s : Bool) → (p && q && not r && not s) ≡ true → s ≡ false
last_of true true false false is = refl
last_of true true false true is = let no : ⊥ = cc in absurd no
last_of true true true s is = let no : ⊥ = cc in absurd no
last_of true false r s is = let no : ⊥ = cc in absurd no
last_of false q r s is = let no : ⊥ = cc in absurd no

middle_by : (shape : Shape) (plane : Plane) (pass : Pass) (b : BlockInfo) (a : Area) (r c : ℕ) (limits : Limits)
    → IsCellIn shape plane a r c → (across pass shape (cell_at plane pass r c) b).is_last ≡ false → IsEdgeIn a (middle_edge shape (cell_at plane pass r c) limits)
middle_by shape plane Vertical b a r c limits so last =
    let column = whole_side (sub_x shape plane) c (mi_cols shape) so.column last in
    let row = half_side (sub_y shape plane) r (mi_rows shape) so.row in
    record {
      above = so.above;
      below = omega (arith, so.below, row, high shape plane);
      left = omega (arith, so.left);
      right = omega (arith, so.right, wide shape plane, column);
      lines = sym so.below;
    }
middle_by shape plane Horizontal b a r c limits so last =
    let row = whole_side (sub_y shape plane) r (mi_rows shape) so.row last in
    let column = half_side (sub_x shape plane) c (mi_cols shape) so.column in
    record {
      above = omega (arith, so.above);
      below = omega (arith, so.below, row, high shape plane);
      left = omega (arith, so.left);
      right = omega (arith, so.right, wide shape plane, column);
      lines = rw so.right refl;
    }

pub middle_fits : (shape : Shape) (way : PlanePass) (b : BlockInfo) (a : Area) (at : CellAt) (limits : Limits) (inner : Bool)
    → IsCellIn shape way.plane a at.row at.col → inner ≡ has_inner shape (cell_at way.plane way.pass at.row at.col) b → CanFilterMiddle shape way a at limits inner
unfolding has_inner
middle_fits shape way b a at limits false so is = tt
middle_fits shape way b a at limits true so is =
    middle_by shape way.plane way.pass b a at.row at.col limits so
    (last_of (is_4x4 (tx_in shape b way.plane)) (not (is_skipped_inter b)) (across Vertical shape (cell_at way.plane Vertical at.row at.col) b).is_last
    (across way.pass shape (cell_at way.plane way.pass at.row at.col) b).is_last (sym is))

top_of : (d : Depth) (sharpness level : ℕ) → 2 * (limits_of d sharpness level).half - 1 ≡ greatest d
unfolding limits_of
top_of depth.Eight sharpness level = refl
top_of depth.Ten sharpness level = refl
top_of depth.Twelve sharpness level = refl

pub in_limits : (d : Depth) (sharpness level : ℕ) (l : Limits) (m : Map) → l ≡ limits_of d sharpness level → IsAtMost (greatest d) m → IsAtMost (2 * l.half - 1) m
in_limits d sharpness level l m is small = rw (is, top_of d sharpness level) small

pub kept_in_limits : (d : Depth) (sharpness level : ℕ) (l : Limits) (most : ℕ) → l ≡ limits_of d sharpness level → greatest d ≤ most → 2 * l.half - 1 ≤ most
kept_in_limits d sharpness level l most is kept = rw (is, top_of d sharpness level) kept

pub in_depth : (d : Depth) (sharpness level : ℕ) (l : Limits) (m : Map) → l ≡ limits_of d sharpness level → IsAtMost (2 * l.half - 1) m → IsAtMost (greatest d) m
in_depth d sharpness level l m is small = rw (sym (top_of d sharpness level), sym is) small
