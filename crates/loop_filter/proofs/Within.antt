-- The cells of a row of superblocks lie in an area that has its rows.
use Rattle.std.proofs.Common.{◌≡◌, nat_eq, ◌<◌, ◌≤◌, ◌+◌, ◌*◌, ◌-◌, ◌%◌, ℕ, zero, suc, Bool, true, false, refl, sym, arith, subst, length, get_or}
use Rattle.std.specs.Prelude.{not, ◌&&◌}
use Rattle.std.proofs.lemmas.Bool.Decides.{nat_tests}
use Rattle.std.proofs.lemmas.List.{get_or-take, length-take-le}
use Rattle.vp9_types.specs.Shapes.{halved}
use Rattle.vp9_types.specs.declared.shape.Plane.{Plane}
use Rattle.vp9_types.specs.declared.shape.Plane.TheVariants.{Y, U, V}
use Rattle.vp9_types.specs.declared.shape.Shape.{Shape}
use Rattle.planes.specs.declared.area.Area.{Area}
use Rattle.loop_edges.specs.Cells.{sub_x, sub_y}
use Rattle.loop_edges.specs.declared.setting.EdgeSetting.{EdgeSetting}
use Rattle.loop_filter.specs.Code.{IsCellIn, HasFilterRows}
use Rattle.loop_filter.specs.FilterPlans.{has_cell, cells_in, IsPlaceOf, AreCellsOf, IsCellWithin, AreCellsWithin}
use Rattle.loop_filter.specs.declared.plans.CellList.{CellList}
use Rattle.loop_filter.specs.declared.plans.PlannedCell.{PlannedCell}

-- Where a plane is subsampled, its cells begin at even places.
evens : (x y : Bool) → (not x && not y) ≡ true → (x ≡ false) × (y ≡ false)
evens false false is = (refl, refl)
evens false true is = let no : ⊥ = cc in absurd no
evens true y is = let no : ⊥ = cc in absurd no

even_place : (shape : Shape) (plane : Plane) (r c : ℕ) → has_cell shape plane r c ≡ true
    → ((sub_x shape plane && nat_eq (c % 2) 1) ≡ false) × ((sub_y shape plane && nat_eq (r % 2) 1) ≡ false)
even_place shape Y r c here = (refl, refl)
even_place shape U r c here = evens (shape.ss_x && nat_eq (c % 2) 1) (shape.ss_y && nat_eq (r % 2) 1) here
even_place shape V r c here = evens (shape.ss_x && nat_eq (c % 2) 1) (shape.ss_y && nat_eq (r % 2) 1) here

even : (k : ℕ) → nat_eq (k % 2) 1 ≡ false → k % 2 ≡ 0
even k is = grind (arith, nat_tests)

from_by : (sub : Bool) (sr r : ℕ) → 8 * sr ≤ r → halved sub (64 * sr) ≤ halved sub (8 * r)
from_by true sr r from = omega (arith, from)
from_by false sr r from = omega (arith, from)

first_by : (sub : Bool) (r : ℕ) → 0 < r → (sub && nat_eq (r % 2) 1) ≡ false → 8 ≤ halved sub (8 * r)
first_by true r some is = omega (arith, some, even r is)
first_by false r some is = omega (arith, some)

above_by : (sub : Bool) (sr r first : ℕ) → first ≤ halved sub (64 * sr) - 8 → 8 * sr ≤ r → 0 < r → (sub && nat_eq (r % 2) 1) ≡ false → first + 8 ≤ halved sub (8 * r)
above_by sub zero r first above from some is = omega (arith, zero_first sub first above, first_by sub r some is)
  where
    zero_first : (sub : Bool) (first : ℕ) → first ≤ halved sub (64 * 0) - 8 → first ≡ 0
    zero_first true first above = omega (arith, above)
    zero_first false first above = omega (arith, above)
above_by true (suc sr) r first above from some is = omega (arith, above, from)
above_by false (suc sr) r first above from some is = omega (arith, above, from)

whole_by : (sub : Bool) (sr r : ℕ) → r < 8 * (sr + 1) → (sub && nat_eq (r % 2) 1) ≡ false → halved sub (8 * r) + 8 ≤ halved sub (64 * (sr + 1))
whole_by true sr r to is = omega (arith, to, even r is)
whole_by false sr r to is = omega (arith, to)

cell_within : (f : EdgeSetting) (plane : Plane) (a : Area) (sr r c : ℕ) → HasFilterRows f.shape plane sr a → IsPlaceOf f sr r c → has_cell f.shape plane r c ≡ true
    → IsCellIn f.shape plane a r c
cell_within f plane a sr r c so place here =
    let at = even_place f.shape plane r c here in
    let from = from_by (sub_y f.shape plane) sr r place.from in
    let whole = whole_by (sub_y f.shape plane) sr r place.to at.1 in
    record {
      row = place.row;
      column = place.column;
      above = omega (arith, so.above, from);
      above_all = λ some. above_by (sub_y f.shape plane) sr r a.first_row so.above place.from some at.1;
      below = omega (arith, whole, so.below, so.end);
      left = so.left;
      left_all = λ some. first_by (sub_x f.shape plane) c some at.0;
      right = so.right;
    }

pub cells_within : (f : EdgeSetting) (plane : Plane) (a : Area) (sr : ℕ) (list : CellList) → HasFilterRows f.shape plane sr a → list.count ≤ 64 → AreCellsOf f plane sr list
    → AreCellsWithin f plane a list
cells_within f plane a sr list so few are = record {
  few = few;
  cells = λ i d low. let is = are i d low in record { within = cell_within f plane a sr _ _ so is.place is.here; edges = is.edges };
}

pub cell_of : (f : EdgeSetting) (plane : Plane) (a now : Area) (list : CellList) (k : ℕ) (d : PlannedCell) → now ≡ a → length list.cells ≡ 64 → AreCellsWithin f plane a list → k < list.count
    → IsCellWithin f plane now (get_or list.cells k d)
cell_of f plane a now list k d same long so low =
    let there : k < length (cells_in list) = omega (arith, low, so.few, long, length-take-le list.count list.cells (omega (arith, so.few, long))) in
    let cell : PlannedCell = get_or list.cells k d in
    subst (λ (z : Area). IsCellWithin f plane z cell) (sym same) (subst (IsCellWithin f plane a) (get_or-take list.count list.cells k d low) (so.cells k d there))
