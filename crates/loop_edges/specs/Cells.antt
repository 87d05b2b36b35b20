-- Which edges of blocks and transform blocks the filter goes across, in a cell of 8x8 samples of a plane (8.8.2 of the
-- standard).
use Rattle.std.specs.Prelude.{ℕ, ◌+◌, ◌%◌, Bool, ◌&&◌, ◌||◌, not, true, false, Option, Some, None, nat_eq, if◌then◌else◌}
use Rattle.vp9_types.specs.Shapes.{is_chroma, halved, mi_rows, mi_cols}
use Rattle.vp9_types.specs.declared.block.TxSize.{TxSize}
use Rattle.vp9_types.specs.declared.block.TxSize.TheVariants.{T4x4, T8x8, T16x16, T32x32}
use Rattle.vp9_types.specs.declared.shape.Plane.{Plane}
use Rattle.vp9_types.specs.declared.shape.Shape.{Shape}
use Rattle.block_geometry.specs.BlockSizes.{width_8, height_8}
use Rattle.frame_headers.specs.HeaderState.{shape_of}
use Rattle.frame_headers.specs.declared.header.Header.{Header}
use Rattle.block_plan.specs.Blocks.{is_inter}
use Rattle.block_plan.specs.InPlanes.{tx_in}
use Rattle.block_plan.specs.declared.block.BlockInfo.{BlockInfo}
use Rattle.line_filter.specs.declared.edge.FilterWidth.{FilterWidth}
use Rattle.line_filter.specs.declared.edge.FilterWidth.TheVariants.{Four, Eight, Sixteen}
use Rattle.line_filter.specs.declared.edge.Pass.{Pass}
use Rattle.line_filter.specs.declared.edge.Pass.TheVariants.{Vertical, Horizontal}
use Rattle.loop_edges.specs.declared.cells.Crossing.{Crossing}
use Rattle.loop_edges.specs.declared.setting.EdgeSetting.{EdgeSetting}

abbrev pub setting_of : Header → EdgeSetting
setting_of h = record { shape = shape_of h; filter = h.params.loop_filter; segmentation = h.params.segmentation }

-- a plane's subsampling
abbrev pub sub_x : Shape → Plane → Bool
sub_x shape plane = is_chroma plane && shape.ss_x

abbrev pub sub_y : Shape → Plane → Bool
sub_y shape plane = is_chroma plane && shape.ss_y

-- it has no residue that edges inside of it could come from
abbrev pub is_skipped_inter : BlockInfo → Bool
is_skipped_inter b = b.skip && is_inter b.prediction

-- Where a pass over a plane is: at a cell of 8x8 of its samples. The row and column are those of 8x8 luma samples; where the
-- plane is subsampled, a cell stands at every second one.
pub record Cell : Type 0 where
  pub plane : Plane
  pub pass : Pass
  pub row : ℕ
  pub column : ℕ

abbrev pub cell_at : Plane → Pass → ℕ → ℕ → Cell
cell_at plane pass r c = record { plane = plane; pass = pass; row = r; column = c }

-- how a pass sees a cell across its edges: k is its column or row in the superblock, in cells of the plane; it is the last one where half of
-- it alone lies in the plane
abbrev pub across : Pass → Shape → Cell → BlockInfo → Crossing
across Vertical shape cell b = record {
  k = halved (sub_x shape cell.plane) (cell.column % 8);
  is_block_edge = nat_eq (cell.column % width_8 b.size) 0;
  is_first = nat_eq cell.column 0;
  is_last = sub_x shape cell.plane && nat_eq (cell.column + 1) (mi_cols shape);
}
across Horizontal shape cell b = record {
  k = halved (sub_y shape cell.plane) (cell.row % 8);
  is_block_edge = nat_eq (cell.row % height_8 b.size) 0;
  is_first = nat_eq cell.row 0;
  is_last = sub_y shape cell.plane && nat_eq (cell.row + 1) (mi_rows shape);
}

-- The filter size process: at is32Edge, where k % 4 is 0, a 4x4 counts as 8x8; a 32x32 counts as 16x16; and the last cell takes 8 at most.
abbrev pub widest : Crossing → FilterWidth
widest a = if a.is_last then Eight else Sixteen

-- the width of the filter at the side of a cell, if a transform block begins there
abbrev pub outer_width : TxSize → Crossing → Option FilterWidth
outer_width T32x32 a = if nat_eq (a.k % 4) 0 then Some (widest a) else None
outer_width T16x16 a = if nat_eq (a.k % 2) 0 then Some (widest a) else None
outer_width T8x8 a = Some Eight
outer_width T4x4 a = Some (if nat_eq (a.k % 4) 0 then Eight else Four)

abbrev pub has_outer : BlockInfo → Crossing → Bool
has_outer b a = (not (is_skipped_inter b) || a.is_block_edge) && not a.is_first

-- the edge at the side of a cell: left of it or above it
unfoldable pub outer_edge : Shape → Cell → BlockInfo → Option FilterWidth
outer_edge shape cell b =
    let a = across cell.pass shape cell b in
    if has_outer b a then outer_width (tx_in shape b cell.plane) a else None

abbrev pub is_4x4 : TxSize → Bool
is_4x4 T4x4 = true
is_4x4 T8x8 = false
is_4x4 T16x16 = false
is_4x4 T32x32 = false

-- The edge in the middle of a cell, of width 4. In both passes there is none in a last column that is subsampled, in the
-- second pass none in such a last row.
unfoldable pub has_inner : Shape → Cell → BlockInfo → Bool
has_inner shape cell b =
    is_4x4 (tx_in shape b cell.plane) && not (is_skipped_inter b)
    && not (across Vertical shape cell b).is_last && not (across cell.pass shape cell b).is_last
