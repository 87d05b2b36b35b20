-- What the code asks of planes and of cells.
use Rattle.std.specs.Prelude.{ℕ, List, All, ◌+◌, ◌-◌, ◌*◌, ◌<◌, ◌≤◌, ◌≡◌, Bool, true, false, Option, Some, None, min}
use Rattle.vp9_types.specs.Shapes.{halved, mi_rows, mi_cols, coded_width, coded_height}
use Rattle.vp9_types.specs.declared.shape.Plane.{Plane}
use Rattle.vp9_types.specs.declared.shape.Shape.{Shape}
use Rattle.vp9_tables.specs.BlockTables.{greatest_of}
use Rattle.vp9_tables.specs.Numbers.{tx_number}
use Rattle.block_plan.specs.Grid.{GridOf}
use Rattle.block_plan.specs.declared.block.BlockInfo.{BlockInfo}
use Rattle.planes.specs.Planes.{lower_end, right_end}
use Rattle.planes.specs.declared.area.Area.{Area}
use Rattle.planes.specs.declared.frame_planes.FramePlanes.{FramePlanes}
use Rattle.vp9_types.specs.declared.shape.Plane.TheVariants.{Y, U, V}
use Rattle.line_filter.specs.Code.{IsEdgeIn}
use Rattle.line_filter.specs.declared.edge.FilterWidth.{FilterWidth}
use Rattle.line_filter.specs.declared.edge.Limits.{Limits}
use Rattle.loop_edges.specs.Cells.{cell_at, sub_x, sub_y}
use Rattle.loop_edges.specs.FrameEdges.{side_edge, middle_edge}
use Rattle.loop_edges.specs.declared.cells.CellAt.{CellAt}
use Rattle.loop_filter.specs.declared.way.PlanePass.{PlanePass}

-- the first sample of a cell in its plane
abbrev pub row_of : Shape → Plane → ℕ → ℕ
row_of shape plane r = halved (sub_y shape plane) (8 * r)

abbrev pub column_of : Shape → Plane → ℕ → ℕ
column_of shape plane c = halved (sub_x shape plane) (8 * c)

-- An area has the whole width of a plane, and those rows that the filter looks at around a cell.
pub record IsCellIn (shape : Shape) (plane : Plane) (a : Area) (r c : ℕ) : Type 0 where
  pub row : r < mi_rows shape
  pub column : c < mi_cols shape
  pub above : a.first_row ≤ row_of shape plane r
  pub above_all : 0 < r → a.first_row + 8 ≤ row_of shape plane r
  pub below : min 8 (lower_end a - row_of shape plane r) ≡ min 8 (coded_height shape plane - row_of shape plane r)
  pub left : a.first_column ≡ 0
  pub left_all : 0 < c → 8 ≤ column_of shape plane c
  pub right : right_end a ≡ coded_width shape plane

-- an edge that there is lies in an area
abbrev pub CanFilterSide : Shape → PlanePass → Area → CellAt → Limits → Option FilterWidth → Type 0
CanFilterSide shape way a at limits None = Unit {0}
CanFilterSide shape way a at limits (Some width) = IsEdgeIn a (side_edge shape (cell_at way.plane way.pass at.row at.col) limits width)

abbrev pub CanFilterMiddle : Shape → PlanePass → Area → CellAt → Limits → Bool → Type 0
CanFilterMiddle shape way a at limits false = Unit {0}
CanFilterMiddle shape way a at limits true = IsEdgeIn a (middle_edge shape (cell_at way.plane way.pass at.row at.col) limits)

-- An area has the whole width of a plane, and the rows of a row of superblocks with the eight above it: all of the plane, or
-- a part of it.
pub record HasFilterRows (shape : Shape) (plane : Plane) (sr : ℕ) (a : Area) : Type 0 where
  pub above : a.first_row ≤ halved (sub_y shape plane) (64 * sr) - 8
  pub below : min (coded_height shape plane) (halved (sub_y shape plane) (64 * (sr + 1))) ≤ lower_end a
  pub end : lower_end a ≤ coded_height shape plane
  pub left : a.first_column ≡ 0
  pub right : right_end a ≡ coded_width shape plane

-- no block has a transform that is larger than it
abbrev pub AllFit : List BlockInfo → Type 0
AllFit blocks = All (λ b. tx_number b.tx ≤ greatest_of b.size) blocks

pub record HoldsFilterRows {X : Type 0} (shape : Shape) (sr : ℕ) (f : FramePlanes X) : Type 0 where
  pub y : HasFilterRows shape Y sr f.y.area
  pub u : HasFilterRows shape U sr f.u.area
  pub v : HasFilterRows shape V sr f.v.area

-- two frames' planes lie in the same places
pub record HasAreasOf {X : Type 0} (f g : FramePlanes X) : Type 0 where
  pub y : g.y.area ≡ f.y.area
  pub u : g.u.area ≡ f.u.area
  pub v : g.v.area ≡ f.v.area

-- the blocks of a whole frame, none of which has a transform that is larger than it
pub record IsWholeGrid (shape : Shape) (grid : GridOf) : Type 0 where
  pub rows : grid.rows ≡ mi_rows shape
  pub from : grid.from ≡ 0
  pub to : grid.to ≡ mi_cols shape
  pub fit : AllFit grid.blocks
