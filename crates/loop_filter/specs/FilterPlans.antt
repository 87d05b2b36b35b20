-- What the code keeps of a superblock: its cells that may have edges, in order, each with its edges and its block's level.
use Rattle.std.specs.Prelude.{◌≡◌, ℕ, ◌+◌, ◌*◌, ◌-◌, ◌%◌, ◌<◌, ◌≤◌, Bool, true, false, ◌&&◌, ◌||◌, not, List, [], ◌++◌, All, Option, min, nat_eq, take, if◌then◌else◌}
use Rattle.std.specs.List.{flat_map}
use Rattle.vp9_types.specs.Shapes.{is_chroma, mi_rows, mi_cols}
use Rattle.vp9_types.specs.declared.shape.Plane.{Plane}
use Rattle.vp9_types.specs.declared.shape.Plane.TheVariants.{Y, U, V}
use Rattle.vp9_types.specs.declared.shape.Shape.{Shape}
use Rattle.planes.specs.declared.area.Area.{Area}
use Rattle.block_plan.specs.Blocks.{covering}
use Rattle.block_plan.specs.declared.block.BlockInfo.{BlockInfo}
use Rattle.line_filter.specs.declared.edge.Edge.{Edge}
use Rattle.line_filter.specs.declared.edge.Pass.{Pass}
use Rattle.line_filter.specs.declared.edge.Pass.TheVariants.{Vertical, Horizontal}
use Rattle.loop_edges.specs.Cells.{cell_at, outer_edge, has_inner}
use Rattle.loop_edges.specs.FrameEdges.{side_edges, middle_edges, edges_of, pass_edges, cells_from}
use Rattle.loop_edges.specs.FilterLevels.{limits_of}
use Rattle.loop_edges.specs.declared.cells.CellEdges.{CellEdges}
use Rattle.loop_edges.specs.declared.setting.EdgeSetting.{EdgeSetting}
use Rattle.loop_filter.specs.Code.{IsCellIn}
use Rattle.loop_filter.specs.declared.plans.CellList.{CellList}
use Rattle.loop_filter.specs.declared.plans.CrossedEdges.{CrossedEdges}
use Rattle.loop_filter.specs.declared.plans.PlannedCell.{PlannedCell}
use Rattle.loop_filter.specs.declared.plans.SuperblockPlans.{SuperblockPlans}

-- A cell of chroma begins at the places whose column and row are even, where it is subsampled.
abbrev pub has_chroma : Shape → ℕ → ℕ → Bool
has_chroma shape r c = not (shape.ss_x && nat_eq (c % 2) 1) && not (shape.ss_y && nat_eq (r % 2) 1)

-- A cell of a plane begins at a place.
abbrev pub has_cell : Shape → Plane → ℕ → ℕ → Bool
has_cell shape plane r c = not (is_chroma plane) || has_chroma shape r c

-- the edges of a cell, by its block
abbrev pub edges_by : Shape → Plane → Pass → ℕ → ℕ → BlockInfo → CellEdges
edges_by shape plane pass r c b = record { outer = outer_edge shape (cell_at plane pass r c) b; inner = has_inner shape (cell_at plane pass r c) b }

abbrev pub crossed_by : Shape → Plane → ℕ → ℕ → BlockInfo → CrossedEdges
crossed_by shape plane r c b = record { vertical = edges_by shape plane Vertical r c b; horizontal = edges_by shape plane Horizontal r c b }

abbrev pub edges_in : PlannedCell → Pass → CellEdges
edges_in cell Vertical = cell.edges.vertical
edges_in cell Horizontal = cell.edges.horizontal

-- what the filter is to do at a cell in a pass
unfoldable pub planned_edges : EdgeSetting → Plane → Pass → PlannedCell → List Edge
planned_edges f plane pass cell =
    let limits = limits_of f.shape.depth f.filter.sharpness cell.level in
    side_edges f.shape (cell_at plane pass cell.row cell.col) limits (edges_in cell pass).outer
    ++ middle_edges f.shape (cell_at plane pass cell.row cell.col) limits (edges_in cell pass).inner

-- the cells of a list
abbrev pub cells_in : CellList → List PlannedCell
cells_in list = take list.count list.cells

-- both planes of chroma have the same
abbrev pub list_of : SuperblockPlans → Plane → CellList
list_of plans Y = plans.luma
list_of plans U = plans.chroma
list_of plans V = plans.chroma

-- what the filter is to do at the cells of a list, one after another
abbrev pub listed_edges : EdgeSetting → Plane → Pass → CellList → List Edge
listed_edges f plane pass list = flat_map (planned_edges f plane pass) (cells_in list)

-- a place in the frame, of a row of superblocks
pub record IsPlaceOf (f : EdgeSetting) (sr r c : ℕ) : Type 0 where
  pub from : 8 * sr ≤ r
  pub to : r < 8 * (sr + 1)
  pub row : r < mi_rows f.shape
  pub column : c < mi_cols f.shape

-- a cell of a plane at such a place, with the edges that a block has there
pub record IsCellOf (f : EdgeSetting) (plane : Plane) (sr : ℕ) (cell : PlannedCell) : Type 0 where
  pub place : IsPlaceOf f sr cell.row cell.col
  pub here : has_cell f.shape plane cell.row cell.col ≡ true
  pub edges : (b : BlockInfo) × (cell.edges ≡ crossed_by f.shape plane cell.row cell.col b)

abbrev pub AreCellsOf : EdgeSetting → Plane → ℕ → CellList → Type 0
AreCellsOf f plane sr list = All (IsCellOf f plane sr) (cells_in list)

-- those of a plane, of which an area has what the filter looks at
pub record IsCellWithin (f : EdgeSetting) (plane : Plane) (a : Area) (cell : PlannedCell) : Type 0 where
  pub within : IsCellIn f.shape plane a cell.row cell.col
  pub edges : (b : BlockInfo) × (cell.edges ≡ crossed_by f.shape plane cell.row cell.col b)

pub record AreCellsWithin (f : EdgeSetting) (plane : Plane) (a : Area) (list : CellList) : Type 0 where
  pub few : list.count ≤ 64
  pub cells : All (IsCellWithin f plane a) (cells_in list)

---- Place after place ----

-- what a plane has at a place by the block there: the edges of its cell, if one begins there
abbrev pub placed_edges : EdgeSetting → Plane → Pass → ℕ → ℕ → Option BlockInfo → List Edge
placed_edges f plane pass r c o = if has_cell f.shape plane r c then edges_of f (cell_at plane pass r c) o else []

abbrev pub edges_at : EdgeSetting → List BlockInfo → Plane → Pass → ℕ → ℕ → List Edge
edges_at f blocks plane pass r c = placed_edges f plane pass r c (covering blocks r c)

-- at the first places of a row of a superblock, and of its first rows
abbrev pub edges_along : EdgeSetting → List BlockInfo → Plane → Pass → ℕ → ℕ → ℕ → List Edge
edges_along f blocks plane pass sc n r = flat_map (edges_at f blocks plane pass r) (cells_from false sc n)

abbrev pub edges_of_rows : EdgeSetting → List BlockInfo → Plane → Pass → ℕ → ℕ → ℕ → List Edge
edges_of_rows f blocks plane pass sr sc n = flat_map (edges_along f blocks plane pass sc (min 8 (mi_cols f.shape - 8 * sc))) (cells_from false sr n)

-- a list with a place's cell after those that it had
pub record HasPlace (f : EdgeSetting) (plane : Plane) (r c : ℕ) (o : Option BlockInfo) (old new : CellList) : Type 0 where
  pub few : new.count ≤ old.count + 1
  pub edges : (pass : Pass) → listed_edges f plane pass new ≡ listed_edges f plane pass old ++ placed_edges f plane pass r c o
  pub cells : (sr : ℕ) → IsPlaceOf f sr r c → AreCellsOf f plane sr old → AreCellsOf f plane sr new

-- with those of the first places of a row
pub record HasPlaces (f : EdgeSetting) (blocks : List BlockInfo) (plane : Plane) (r sc n : ℕ) (old new : CellList) : Type 0 where
  pub few : new.count ≤ old.count + n
  pub edges : (pass : Pass) → listed_edges f plane pass new ≡ listed_edges f plane pass old ++ edges_along f blocks plane pass sc n r
  pub cells : (sr : ℕ) → 8 * sr ≤ r → r < 8 * (sr + 1) → r < mi_rows f.shape → AreCellsOf f plane sr old → AreCellsOf f plane sr new

-- the cells of a superblock's first rows
pub record HasRows (f : EdgeSetting) (blocks : List BlockInfo) (plane : Plane) (sr sc n : ℕ) (list : CellList) : Type 0 where
  pub few : list.count ≤ 8 * n
  pub edges : (pass : Pass) → listed_edges f plane pass list ≡ edges_of_rows f blocks plane pass sr sc n
  pub cells : AreCellsOf f plane sr list

-- those of all of it
pub record IsPlanned (f : EdgeSetting) (blocks : List BlockInfo) (plane : Plane) (sr sc : ℕ) (list : CellList) : Type 0 where
  pub few : list.count ≤ 64
  pub edges : (pass : Pass) → listed_edges f plane pass list ≡ pass_edges f blocks plane pass sr sc
  pub cells : AreCellsOf f plane sr list
