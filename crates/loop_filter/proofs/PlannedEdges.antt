-- What is planned for a cell is what the definition has there.
use Rattle.std.proofs.Common.{◌≡◌, ◌<◌, ◌≤◌, ◌+◌, ◌*◌, ◌-◌, ℕ, inl, inr, Bool, true, false, refl, sym, ◌∙◌, arith, ap, subst, List, [], ◌∷◌, ◌++◌, nat_eq, min}
use Rattle.std.specs.Prelude.{Option, Some, None, All, not, ◌&&◌, ◌||◌, if◌then◌else◌}
use Rattle.std.specs.List.{flat_map, fold}
use Rattle.std.proofs.lemmas.Bool.{cases_Bool}
use Rattle.std.proofs.lemmas.Bool.Decides.{nat_tests}
use Rattle.std.proofs.lemmas.List.{append-nil, append_assoc}
use Rattle.std.proofs.lemmas.List.Elements.{All-push}
use Rattle.vp9_types.specs.Maps.{Map}
use Rattle.vp9_types.specs.Shapes.{mi_rows, mi_cols}
use Rattle.vp9_types.specs.declared.shape.Plane.{Plane}
use Rattle.vp9_types.specs.declared.shape.Plane.TheVariants.{Y, U, V}
use Rattle.vp9_types.specs.declared.shape.Shape.{Shape}
use Rattle.planes.specs.declared.area.Area.{Area}
use Rattle.block_plan.specs.Blocks.{covering}
use Rattle.block_plan.specs.InPlanes.{tx_in}
use Rattle.block_plan.specs.declared.block.BlockInfo.{BlockInfo}
use Rattle.line_filter.specs.FilteredEdges.{with_edge}
use Rattle.line_filter.specs.declared.edge.Edge.{Edge}
use Rattle.line_filter.specs.declared.edge.FilterWidth.{FilterWidth}
use Rattle.line_filter.specs.declared.edge.Limits.{Limits}
use Rattle.line_filter.specs.declared.edge.Pass.{Pass}
use Rattle.line_filter.specs.declared.edge.Pass.TheVariants.{Vertical, Horizontal}
use Rattle.loop_edges.specs.Cells.{cell_at, across, is_skipped_inter, is_4x4, outer_width, outer_edge, has_inner}
use Rattle.loop_edges.specs.Code.{is_inside}
use Rattle.loop_edges.specs.FrameEdges.{both_edges, block_edges, superblock_edges}
use Rattle.loop_edges.specs.FilterLevels.{filter_level, limits_of}
use Rattle.loop_edges.specs.declared.cells.CellAt.{CellAt}
use Rattle.loop_edges.specs.declared.setting.EdgeSetting.{EdgeSetting}
use Rattle.loop_filter.specs.Code.{CanFilterSide, CanFilterMiddle}
use Rattle.loop_filter.specs.FilterPlans.{crossed_by, has_chroma, has_cell, edges_in, planned_edges, cells_in, list_of, listed_edges, placed_edges, edges_at, edges_along, edges_of_rows, IsCellOf, IsCellWithin, HasPlace, HasPlaces, HasRows, IsPlanned}
use Rattle.loop_filter.specs.declared.plans.CellList.{CellList}
use Rattle.loop_filter.specs.declared.plans.CrossedEdges.{CrossedEdges}
use Rattle.loop_filter.specs.declared.plans.PlannedCell.{PlannedCell}
use Rattle.loop_filter.specs.declared.plans.SuperblockPlans.{SuperblockPlans}
use Rattle.loop_filter.specs.declared.way.PlanePass.{PlanePass}
use Rattle.loop_filter.proofs.Sides.{side_fits, middle_fits}
use Rattle.loop_filter.proofs.Walks.{flat_map_push}
use Rattle.loop_filter.proofs.CellRows.{place_more, placed_here, placed_not, all_rows}

---- A cell by its block ----

pub is_on : (n level : ℕ) → level ≡ n → 0 < level → nat_eq n 0 ≡ false
is_on n level is some = grind (arith, nat_tests)

pub is_off : (n level : ℕ) → level ≡ n → level ≤ 0 → nat_eq n 0 ≡ true
is_off n level is none = grind (arith, nat_tests)

block_off : (f : EdgeSetting) (plane : Plane) (pass : Pass) (r c : ℕ) (b : BlockInfo) → nat_eq (filter_level f b) 0 ≡ true → block_edges f (cell_at plane pass r c) b ≡ []
unfolding block_edges
block_off f plane pass r c b none = rw none refl

block_on : (f : EdgeSetting) (plane : Plane) (pass : Pass) (r c : ℕ) (b : BlockInfo) → nat_eq (filter_level f b) 0 ≡ false
    → block_edges f (cell_at plane pass r c) b ≡ both_edges f.shape (cell_at plane pass r c) b (limits_of f.shape.depth f.filter.sharpness (filter_level f b))
unfolding block_edges
block_on f plane pass r c b some = rw some refl

-- the edges and level of a block at a cell
pub record IsCellBy (f : EdgeSetting) (plane : Plane) (at : CellAt) (b : BlockInfo) (cell : PlannedCell) : Type 0 where
  pub row : cell.row ≡ at.row
  pub column : cell.col ≡ at.col
  pub level : cell.level ≡ filter_level f b
  pub edges : cell.edges ≡ crossed_by f.shape plane at.row at.col b

planned_both : (f : EdgeSetting) (plane : Plane) (pass : Pass) (at : CellAt) (b : BlockInfo) (cell : PlannedCell) → IsCellBy f plane at b cell
    → planned_edges f plane pass cell ≡ both_edges f.shape (cell_at plane pass at.row at.col) b (limits_of f.shape.depth f.filter.sharpness (filter_level f b))
unfolding planned_edges both_edges
planned_both f plane Vertical at b cell is = rw (is.row, is.column, is.level, is.edges) refl
planned_both f plane Horizontal at b cell is = rw (is.row, is.column, is.level, is.edges) refl

planned_by : (f : EdgeSetting) (plane : Plane) (pass : Pass) (at : CellAt) (b : BlockInfo) (cell : PlannedCell) → nat_eq (filter_level f b) 0 ≡ false → IsCellBy f plane at b cell
    → planned_edges f plane pass cell ≡ block_edges f (cell_at plane pass at.row at.col) b
planned_by f plane pass at b cell some is = planned_both f plane pass at b cell is ∙ sym (block_on f plane pass at.row at.col b some)

-- both planes of chroma have the same edges
pub crossed_same : (shape : Shape) (r c : ℕ) (b : BlockInfo) → crossed_by shape U r c b ≡ crossed_by shape V r c b
unfolding outer_edge has_inner
crossed_same shape r c b = refl

---- Places inside of skipped inter blocks ----

inside_parts : (s l t : Bool) → (s && not l && not t) ≡ true → (s ≡ true) × (l ≡ false) × (t ≡ false)
inside_parts true false false is = (refl, refl, refl)
inside_parts true false true is = let no : ⊥ = cc in absurd no
inside_parts true true t is = let no : ⊥ = cc in absurd no
inside_parts false l t is = let no : ⊥ = cc in absurd no

outer_inside : (s border first : Bool) (o : Option FilterWidth) → s ≡ true → border ≡ false → (if (not s || border) && not first then o else None) ≡ None
outer_inside true false first o smooth no_border = refl
outer_inside true true first o smooth no_border = let no : ⊥ = cc in absurd no
outer_inside false border first o smooth no_border = let no : ⊥ = cc in absurd no

inner_inside : (p s u v : Bool) → s ≡ true → (p && not s && not u && not v) ≡ false
inner_inside true true u v smooth = refl
inner_inside false true u v smooth = refl
inner_inside p false u v smooth = let no : ⊥ = cc in absurd no

both_none : (shape : Shape) (plane : Plane) (pass : Pass) (r c : ℕ) (b : BlockInfo) (limits : Limits) → outer_edge shape (cell_at plane pass r c) b ≡ None
    → has_inner shape (cell_at plane pass r c) b ≡ false → both_edges shape (cell_at plane pass r c) b limits ≡ []
unfolding both_edges
both_none shape plane pass r c b limits outer inner = rw (outer, inner) refl

inside_both : (shape : Shape) (plane : Plane) (pass : Pass) (r c : ℕ) (b : BlockInfo) (limits : Limits) → is_inside b r c ≡ true → both_edges shape (cell_at plane pass r c) b limits ≡ []
unfolding outer_edge has_inner
inside_both shape plane pass r c b limits is =
    let parts = inside_parts (is_skipped_inter b) (across Vertical shape (cell_at plane Vertical r c) b).is_block_edge (across Horizontal shape (cell_at plane Horizontal r c) b).is_block_edge is in
    let here = across pass shape (cell_at plane pass r c) b in
    both_none shape plane pass r c b limits
    (outer_inside (is_skipped_inter b) here.is_block_edge here.is_first (outer_width (tx_in shape b plane) here) parts.0 (border pass parts.1 parts.2))
    (inner_inside (is_4x4 (tx_in shape b plane)) (is_skipped_inter b) (across Vertical shape (cell_at plane Vertical r c) b).is_last here.is_last parts.0)
  where
    border : (p : Pass) → (across Vertical shape (cell_at plane Vertical r c) b).is_block_edge ≡ false → (across Horizontal shape (cell_at plane Horizontal r c) b).is_block_edge ≡ false
        → (across p shape (cell_at plane p r c) b).is_block_edge ≡ false
    border Vertical left top = left
    border Horizontal left top = top

block_inside : (f : EdgeSetting) (plane : Plane) (pass : Pass) (r c : ℕ) (b : BlockInfo) → is_inside b r c ≡ true → block_edges f (cell_at plane pass r c) b ≡ []
block_inside f plane pass r c b is = elim (cases_Bool (nat_eq (filter_level f b) 0)) [
  | inl none ↦ block_off f plane pass r c b none
  | inr some ↦ block_on f plane pass r c b some ∙ inside_both f.shape plane pass r c b (limits_of f.shape.depth f.filter.sharpness (filter_level f b)) is
]

---- A place added to a list ----

list_kept : (f : EdgeSetting) (plane : Plane) (r c : ℕ) (o : Option BlockInfo) (list : CellList) → ((pass : Pass) → placed_edges f plane pass r c o ≡ [])
    → HasPlace f plane r c o list list
list_kept f plane r c o list none = record {
  few = omega arith;
  edges = λ pass. sym (ap (λ xs. listed_edges f plane pass list ++ xs) (none pass) ∙ append-nil (listed_edges f plane pass list));
  cells = λ sr place are. are;
}

if_same : (t : Bool) (xs : List Edge) → xs ≡ [] → (if t then xs else []) ≡ []
if_same true xs none = none
if_same false xs none = refl

pub no_level : (f : EdgeSetting) (plane : Plane) (r c : ℕ) (b : BlockInfo) (list : CellList) → nat_eq (filter_level f b) 0 ≡ true → HasPlace f plane r c (Some b) list list
no_level f plane r c b list off = list_kept f plane r c (Some b) list (λ pass. if_same (has_cell f.shape plane r c) (block_edges f (cell_at plane pass r c) b) (block_off f plane pass r c b off))

pub inside : (f : EdgeSetting) (plane : Plane) (r c : ℕ) (b : BlockInfo) (list : CellList) → is_inside b r c ≡ true → HasPlace f plane r c (Some b) list list
inside f plane r c b list is = list_kept f plane r c (Some b) list (λ pass. if_same (has_cell f.shape plane r c) (block_edges f (cell_at plane pass r c) b) (block_inside f plane pass r c b is))

pub no_cell : (f : EdgeSetting) (plane : Plane) (r c : ℕ) (b : BlockInfo) (list : CellList) → has_cell f.shape plane r c ≡ false → HasPlace f plane r c (Some b) list list
no_cell f plane r c b list none = list_kept f plane r c (Some b) list (λ pass. placed_not (has_cell f.shape plane r c) (block_edges f (cell_at plane pass r c) b) none)

pub cell_added : (f : EdgeSetting) (plane : Plane) (at : CellAt) (b : BlockInfo) (cell : PlannedCell) (old new : CellList) → has_cell f.shape plane at.row at.col ≡ true
    → nat_eq (filter_level f b) 0 ≡ false → IsCellBy f plane at b cell → new.count ≡ old.count + 1 → cells_in new ≡ cells_in old ++ cell ∷ []
    → HasPlace f plane at.row at.col (Some b) old new
cell_added f plane at b cell old new here some is count cells = record {
  few = omega (arith, count);
  edges = λ pass. ap (flat_map (planned_edges f plane pass)) cells
      ∙ (flat_map_push (planned_edges f plane pass) (cells_in old) cell
      ∙ ap (λ xs. listed_edges f plane pass old ++ xs)
      (planned_by f plane pass at b cell some is ∙ sym (placed_here (has_cell f.shape plane at.row at.col) (block_edges f (cell_at plane pass at.row at.col) b) here)));
  cells = λ sr place are. subst (All (IsCellOf f plane sr)) (sym cells) (All-push (IsCellOf f plane sr) (cells_in old) cell are
      (record { place = rw (is.row, is.column) place; here = rw (is.row, is.column) here; edges = (b, rw (is.row, is.column) is.edges) }));
}

-- at a place where a cell of chroma begins too, and at one where none does
pub both_added : (f : EdgeSetting) (at : CellAt) (b : BlockInfo) (luma chroma : PlannedCell) (old new : SuperblockPlans) → has_chroma f.shape at.row at.col ≡ true
    → nat_eq (filter_level f b) 0 ≡ false → IsCellBy f Y at b luma → IsCellBy f U at b chroma
    → new.luma.count ≡ old.luma.count + 1 → cells_in new.luma ≡ cells_in old.luma ++ luma ∷ []
    → new.chroma.count ≡ old.chroma.count + 1 → cells_in new.chroma ≡ cells_in old.chroma ++ chroma ∷ []
    → (plane : Plane) → HasPlace f plane at.row at.col (Some b) (list_of old plane) (list_of new plane)
both_added f at b luma chroma old new here some is so count cells more others Y = cell_added f Y at b luma old.luma new.luma refl some is count cells
both_added f at b luma chroma old new here some is so count cells more others U = cell_added f U at b chroma old.chroma new.chroma here some so more others
both_added f at b luma chroma old new here some is so count cells more others V =
    cell_added f V at b chroma old.chroma new.chroma here some (record { row = so.row; column = so.column; level = so.level; edges = so.edges ∙ crossed_same f.shape at.row at.col b }) more others

pub luma_added : (f : EdgeSetting) (at : CellAt) (b : BlockInfo) (luma : PlannedCell) (old new : SuperblockPlans) → has_chroma f.shape at.row at.col ≡ false
    → nat_eq (filter_level f b) 0 ≡ false → IsCellBy f Y at b luma
    → new.luma.count ≡ old.luma.count + 1 → cells_in new.luma ≡ cells_in old.luma ++ luma ∷ [] → new.chroma ≡ old.chroma
    → (plane : Plane) → HasPlace f plane at.row at.col (Some b) (list_of old plane) (list_of new plane)
luma_added f at b luma old new none some is count cells same Y = cell_added f Y at b luma old.luma new.luma refl some is count cells
luma_added f at b luma old new none some is count cells same U = rw same (no_cell f U at.row at.col b old.chroma none)
luma_added f at b luma old new none some is count cells same V = rw same (no_cell f V at.row at.col b old.chroma none)

---- Places and rows one after another ----

pub one_place_more : (f : EdgeSetting) (blocks : List BlockInfo) (plane : Plane) (r sc n : ℕ) (first old new : CellList) → HasPlaces f blocks plane r sc n first old
    → HasPlace f plane r (8 * sc + n) (covering blocks r (8 * sc + n)) old new → 8 * sc + n < mi_cols f.shape → HasPlaces f blocks plane r sc (n + 1) first new
one_place_more f blocks plane r sc n first old new so place inside = record {
  few = omega (arith, so.few, place.few);
  edges = λ pass. place.edges pass
      ∙ (ap (λ xs. xs ++ edges_at f blocks plane pass r (8 * sc + n)) (so.edges pass)
      ∙ (append_assoc (listed_edges f plane pass first) (edges_along f blocks plane pass sc n r) (edges_at f blocks plane pass r (8 * sc + n))
      ∙ ap (λ xs. listed_edges f plane pass first ++ xs) (sym (place_more (edges_at f blocks plane pass r) sc n))));
  cells = λ sr from to row are. place.cells sr (record { from = from; to = to; row = row; column = inside }) (so.cells sr from to row are);
}

pub one_row_more : (f : EdgeSetting) (blocks : List BlockInfo) (plane : Plane) (sr sc n : ℕ) (old new : CellList) → HasRows f blocks plane sr sc n old
    → HasPlaces f blocks plane (8 * sr + n) sc (min 8 (mi_cols f.shape - 8 * sc)) old new → n < 8 → 8 * sr + n < mi_rows f.shape → HasRows f blocks plane sr sc (n + 1) new
one_row_more f blocks plane sr sc n old new so row few inside = record {
  few = omega (arith, so.few, row.few);
  edges = λ pass. row.edges pass
      ∙ (ap (λ xs. xs ++ edges_along f blocks plane pass sc (min 8 (mi_cols f.shape - 8 * sc)) (8 * sr + n)) (so.edges pass)
      ∙ sym (place_more (edges_along f blocks plane pass sc (min 8 (mi_cols f.shape - 8 * sc))) sr n));
  cells = row.cells sr (omega arith) (omega (arith, few)) inside so.cells;
}

pub all_planned : (f : EdgeSetting) (blocks : List BlockInfo) (plane : Plane) (sr sc n : ℕ) (list : CellList) → HasRows f blocks plane sr sc n list
    → n ≡ min 8 (mi_rows f.shape - 8 * sr) → IsPlanned f blocks plane sr sc list
all_planned f blocks plane sr sc n list so all = record {
  few = omega (arith, so.few, all);
  edges = λ pass. so.edges pass ∙ (ap (edges_of_rows f blocks plane pass sr sc) all ∙ all_rows f blocks plane pass sr sc);
  cells = so.cells;
}

pub both_passes : (f : EdgeSetting) (blocks : List BlockInfo) (plane : Plane) (sr sc : ℕ) (list : CellList) (m new : Map) → IsPlanned f blocks plane sr sc list
    → new ≡ fold with_edge m (listed_edges f plane Vertical list ++ listed_edges f plane Horizontal list) → new ≡ fold with_edge m (superblock_edges f blocks plane sr sc)
unfolding superblock_edges
both_passes f blocks plane sr sc list m new so done = done ∙ rw (so.edges Vertical, so.edges Horizontal) refl

---- In the area that is there ----

abbrev pub place_of : PlannedCell → CellAt
place_of cell = record { row = cell.row; col = cell.col }

outer_is : (shape : Shape) (plane : Plane) (pass : Pass) (b : BlockInfo) (cell : PlannedCell) → cell.edges ≡ crossed_by shape plane cell.row cell.col b
    → (edges_in cell pass).outer ≡ outer_edge shape (cell_at plane pass cell.row cell.col) b
outer_is shape plane Vertical b cell is = ap (λ (e : CrossedEdges). e.vertical.outer) is
outer_is shape plane Horizontal b cell is = ap (λ (e : CrossedEdges). e.horizontal.outer) is

inner_is : (shape : Shape) (plane : Plane) (pass : Pass) (b : BlockInfo) (cell : PlannedCell) → cell.edges ≡ crossed_by shape plane cell.row cell.col b
    → (edges_in cell pass).inner ≡ has_inner shape (cell_at plane pass cell.row cell.col) b
inner_is shape plane Vertical b cell is = ap (λ (e : CrossedEdges). e.vertical.inner) is
inner_is shape plane Horizontal b cell is = ap (λ (e : CrossedEdges). e.horizontal.inner) is

pub side_planned : (f : EdgeSetting) (way : PlanePass) (a : Area) (limits : Limits) (cell : PlannedCell) → IsCellWithin f way.plane a cell
    → CanFilterSide f.shape way a (place_of cell) limits (edges_in cell way.pass).outer
side_planned f way a limits cell so =
    side_fits f.shape way so.edges.0 a (place_of cell) limits (edges_in cell way.pass).outer so.within (outer_is f.shape way.plane way.pass so.edges.0 cell so.edges.1)

pub middle_planned : (f : EdgeSetting) (way : PlanePass) (a : Area) (limits : Limits) (cell : PlannedCell) → IsCellWithin f way.plane a cell
    → CanFilterMiddle f.shape way a (place_of cell) limits (edges_in cell way.pass).inner
middle_planned f way a limits cell so =
    middle_fits f.shape way so.edges.0 a (place_of cell) limits (edges_in cell way.pass).inner so.within (inner_is f.shape way.plane way.pass so.edges.0 cell so.edges.1)
