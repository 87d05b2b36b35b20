-- The levels of a block, as they are drawn: transform block by transform block, plane by plane (6.4.21 of the standard:
-- residual).
use Rattle.std.specs.Prelude.{ℕ, ◌+◌, ◌*◌, ℤ, pos, List, [], ◌∷◌, ◌++◌, take, drop, replicate, length, slice_set, if◌then◌else◌}
use Rattle.vp9_types.specs.declared.shape.Plane.{Plane}
use Rattle.vp9_types.specs.declared.shape.Plane.TheVariants.{Y, U, V}
use Rattle.vp9_tables.specs.Scans.{area, scan_of}
use Rattle.block_geometry.specs.declared.transform_blocks.TransformPlace.{TransformPlace}
use Rattle.frame_headers.specs.HeaderState.{shape_of}
use Rattle.frame_headers.specs.declared.header.Header.{Header}
use Rattle.block_plan.specs.InPlanes.{places_in}
use Rattle.block_plan.specs.declared.block.BlockInfo.{BlockInfo}
use Rattle.residue_syntax.specs.BlocksInPlanes.{block_in, type_at}
use Rattle.residue_syntax.specs.declared.in_plane.BlockInPlane.{BlockInPlane}
use Rattle.residue_writer.specs.declared.levels.BlockLevels.{BlockLevels}
use Rattle.residue_writer.specs.declared.levels.PlaneLevels.{PlaneLevels}
use Rattle.drawn_symbols.specs.Draws.{Drawn, stay, ◌>>=◌}
use Rattle.drawn_symbols.specs.LevelDraws.{draw_levels, placed_from}

-- no levels: no place of a scan is coded, and all of them are 0
abbrev pub no_plane : PlaneLevels
no_plane = record { counts = replicate 256 0; values = replicate 4096 (pos 0) }

---- A transform block ----

-- the levels of the one at a row and column, by position: they stand in the first places of its scan, and the others are 0
abbrev pub placed_levels : BlockInPlane → TransformPlace → List ℤ → List ℤ
placed_levels b at levels = placed_from 0 (scan_of b.block.tx (type_at b at.row at.column)) levels (replicate (area b.block.tx) (pos 0))

-- values with others from a place on, in place of as many
abbrev pub with_values : List ℤ → ℕ → List ℤ → List ℤ
with_values values from others = take from values ++ others ++ drop (from + length others) values

-- with those of the k-th, which stand behind those of the ones before it
abbrev pub with_levels : BlockInPlane → TransformPlace → ℕ → List ℤ → PlaneLevels → PlaneLevels
with_levels b at k levels p = record {
  counts = slice_set p.counts k (length levels);
  values = with_values p.values (k * area b.block.tx) (placed_levels b at levels);
}

---- A block ----

-- those of the transform blocks at these places, from the k-th on, behind those before it
unfoldable pub draw_from : BlockInPlane → List TransformPlace → ℕ → PlaneLevels → Drawn PlaneLevels
draw_from b [] k p = stay p
draw_from b (at ∷ places) k p = draw_levels >>= λ levels. draw_from b places (k + 1) (with_levels b at k levels p)

-- in a plane; a skipped block has none
unfoldable pub draw_plane : Header → BlockInfo → Plane → Drawn PlaneLevels
draw_plane header b p =
    if b.skip then stay no_plane else draw_from (block_in header b p) (places_in (shape_of header) b p) 0 no_plane

-- plane by plane
unfoldable pub draw_block_levels : Header → BlockInfo → Drawn BlockLevels
draw_block_levels header b = do
  y ← draw_plane header b Y
  u ← draw_plane header b U
  v ← draw_plane header b V
  stay (record { y = y; u = u; v = v })
