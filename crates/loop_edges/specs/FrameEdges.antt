-- The edges of a frame in the order in which they are filtered, and what the filter makes of a frame (8.8.1 and 8.8.2 of the
-- standard). The filter reads and changes each plane by itself, so a frame's edges are listed plane by plane; those of one
-- plane come in the order of the standard.
use Rattle.std.specs.Prelude.{ℕ, ◌+◌, ◌-◌, ◌*◌, Bool, true, false, List, [], ◌∷◌, ◌++◌, map, Option, Some, None, min, nat_eq, if◌then◌else◌}
use Rattle.std.specs.Int.{div_ceil}
use Rattle.std.specs.List.{range_with_len, flat_map, fold}
use Rattle.vp9_types.specs.Maps.{FrameMap}
use Rattle.vp9_types.specs.Shapes.{halved, mi_rows, mi_cols, coded_width, coded_height}
use Rattle.vp9_types.specs.Sizes.{superblocks_along}
use Rattle.vp9_types.specs.declared.shape.Plane.{Plane}
use Rattle.vp9_types.specs.declared.shape.Shape.{Shape}
use Rattle.block_plan.specs.Blocks.{covering}
use Rattle.block_plan.specs.declared.block.BlockInfo.{BlockInfo}
use Rattle.line_filter.specs.FilteredEdges.{with_edge}
use Rattle.line_filter.specs.declared.edge.Edge.{Edge}
use Rattle.line_filter.specs.declared.edge.FilterWidth.{FilterWidth}
use Rattle.line_filter.specs.declared.edge.FilterWidth.TheVariants.{Four}
use Rattle.line_filter.specs.declared.edge.Limits.{Limits}
use Rattle.line_filter.specs.declared.edge.Pass.{Pass}
use Rattle.line_filter.specs.declared.edge.Pass.TheVariants.{Vertical, Horizontal}
use Rattle.loop_edges.specs.Cells.{Cell, cell_at, sub_x, sub_y, outer_edge, has_inner}
use Rattle.loop_edges.specs.FilterLevels.{filter_level, limits_of}
use Rattle.loop_edges.specs.declared.setting.EdgeSetting.{EdgeSetting}

-- the first row and column of a cell in its plane
abbrev pub first_row : Shape → Cell → ℕ
first_row shape cell = halved (sub_y shape cell.plane) (8 * cell.row)

abbrev pub first_column : Shape → Cell → ℕ
first_column shape cell = halved (sub_x shape cell.plane) (8 * cell.column)

-- the lines from a cell's first one to the end of the plane
abbrev pub lines_left : Pass → Shape → Cell → ℕ
lines_left Vertical shape cell = coded_height shape cell.plane - first_row shape cell
lines_left Horizontal shape cell = coded_width shape cell.plane - first_column shape cell

-- the edge at the side of a cell, with those of its eight lines that are in the plane
abbrev pub side_edge : Shape → Cell → Limits → FilterWidth → Edge
side_edge shape cell limits width = record {
  pass = cell.pass;
  row = first_row shape cell;
  column = first_column shape cell;
  lines = min 8 (lines_left cell.pass shape cell);
  width = width;
  limits = limits;
}

-- an edge four samples further on
abbrev pub further : Pass → Edge → Edge
further Vertical e = record e { column = e.column + 4 }
further Horizontal e = record e { row = e.row + 4 }

-- the edge in the middle of a cell
abbrev pub middle_edge : Shape → Cell → Limits → Edge
middle_edge shape cell limits = further cell.pass (side_edge shape cell limits Four)

abbrev pub side_edges : Shape → Cell → Limits → Option FilterWidth → List Edge
side_edges shape cell limits None = []
side_edges shape cell limits (Some width) = side_edge shape cell limits width ∷ []

abbrev pub middle_edges : Shape → Cell → Limits → Bool → List Edge
middle_edges shape cell limits false = []
middle_edges shape cell limits true = middle_edge shape cell limits ∷ []

-- those of a cell's block: at its side, then in its middle
unfoldable pub both_edges : Shape → Cell → BlockInfo → Limits → List Edge
both_edges shape cell b limits = side_edges shape cell limits (outer_edge shape cell b) ++ middle_edges shape cell limits (has_inner shape cell b)

-- none at level 0
unfoldable pub block_edges : EdgeSetting → Cell → BlockInfo → List Edge
block_edges f cell b =
    if nat_eq (filter_level f b) 0 then []
    else both_edges f.shape cell b (limits_of f.shape.depth f.filter.sharpness (filter_level f b))

abbrev pub edges_of : EdgeSetting → Cell → Option BlockInfo → List Edge
edges_of f cell None = []
edges_of f cell (Some b) = block_edges f cell b

unfoldable pub cell_edges : EdgeSetting → List BlockInfo → Cell → List Edge
cell_edges f blocks cell = edges_of f cell (covering blocks cell.row cell.column)

-- places of 8x8 luma samples along a cell
abbrev pub step_of : Bool → ℕ
step_of sub = if sub then 2 else 1

-- how many cells a superblock has along a side, inside of a frame that ends after so many places
abbrev pub cells_along : Bool → ℕ → ℕ → ℕ
cells_along sub end s = div_ceil (min 8 (end - 8 * s)) (step_of sub)

-- where they stand
abbrev pub cells_from : Bool → ℕ → ℕ → List ℕ
cells_from sub s n = map (λ i. 8 * s + step_of sub * i) (range_with_len 0 n)

abbrev pub cells_of : Bool → ℕ → ℕ → List ℕ
cells_of sub end s = cells_from sub s (cells_along sub end s)

-- rows of cells from top to bottom, each from left to right
unfoldable pub cell_row : EdgeSetting → List BlockInfo → Plane → Pass → ℕ → List ℕ → List Edge
cell_row f blocks plane pass r columns = flat_map (λ c. cell_edges f blocks (cell_at plane pass r c)) columns

unfoldable pub pass_edges : EdgeSetting → List BlockInfo → Plane → Pass → ℕ → ℕ → List Edge
pass_edges f blocks plane pass sr sc =
    flat_map (λ r. cell_row f blocks plane pass r (cells_of (sub_x f.shape plane) (mi_cols f.shape) sc))
    (cells_of (sub_y f.shape plane) (mi_rows f.shape) sr)

-- all vertical edges of a superblock, then all horizontal ones
unfoldable pub superblock_edges : EdgeSetting → List BlockInfo → Plane → ℕ → ℕ → List Edge
superblock_edges f blocks plane sr sc = pass_edges f blocks plane Vertical sr sc ++ pass_edges f blocks plane Horizontal sr sc

-- a row of superblocks, from left to right; no edges if the frame's level is 0
unfoldable pub row_edges : EdgeSetting → List BlockInfo → Plane → ℕ → List Edge
row_edges f blocks plane sr =
    if nat_eq f.filter.level 0 then []
    else flat_map (superblock_edges f blocks plane sr) (range_with_len 0 (superblocks_along (mi_cols f.shape)))

-- rows of superblocks from top to bottom
unfoldable pub frame_edges : EdgeSetting → List BlockInfo → Plane → List Edge
frame_edges f blocks plane = flat_map (row_edges f blocks plane) (range_with_len 0 (superblocks_along (mi_rows f.shape)))

-- a frame filtered
unfoldable pub filtered_frame : EdgeSetting → List BlockInfo → FrameMap → FrameMap
filtered_frame f blocks m = λ plane. fold with_edge (m plane) (frame_edges f blocks plane)
