-- What the levels of a block are put as, transform block by transform block, plane by plane (6.4.21 of the standard), whatever
-- residue they make.
use Rattle.std.specs.Prelude.{ℕ, ◌+◌, ℤ, List, [], ◌∷◌, ◌++◌, slice_index, nat_lt, if◌then◌else◌}
use Rattle.vp9_types.specs.declared.shape.Plane.{Plane}
use Rattle.vp9_types.specs.declared.shape.Plane.TheVariants.{Y, U, V}
use Rattle.vp9_tables.specs.Scans.{area}
use Rattle.block_geometry.specs.declared.transform_blocks.TransformPlace.{TransformPlace}
use Rattle.frame_headers.specs.HeaderState.{shape_of}
use Rattle.frame_headers.specs.declared.header.Header.{Header}
use Rattle.prob_contexts.specs.ProbLists.{ContextLists}
use Rattle.bool_lists.specs.BoolLists.{BoolList}
use Rattle.coef_tokens.specs.TokenKinds.{block_tables}
use Rattle.level_lists.specs.LevelLists.{spelled_levels}
use Rattle.block_plan.specs.InPlanes.{places_in}
use Rattle.block_plan.specs.declared.block.BlockInfo.{BlockInfo}
use Rattle.residue_syntax.specs.BlocksInPlanes.{block_in, token_kind}
use Rattle.residue_syntax.specs.Residues.{first_context, with_sides}
use Rattle.residue_syntax.specs.Sides.{Sides}
use Rattle.residue_syntax.specs.declared.in_plane.BlockInPlane.{BlockInPlane}
use Rattle.residue_syntax.specs.declared.sides.TileSides.{TileSides}
use Rattle.residue_writer.specs.SaidResidues.{levels_at}
use Rattle.residue_writer.specs.declared.levels.BlockLevels.{BlockLevels}
use Rattle.residue_writer.specs.declared.levels.PlaneLevels.{PlaneLevels}

-- the transform block at a row and column, of so many coded places
unfoldable pub spelled_at : ContextLists → BlockInPlane → TransformPlace → ℕ → List ℤ → Sides → BoolList
spelled_at contexts b at count levels s =
    spelled_levels (block_tables contexts (token_kind b at.row at.column)) (first_context b.block at.row at.column s) levels count

-- the transform blocks at these places, from the k-th on, by the sides behind those before it
unfoldable pub spelled_residues : ContextLists → BlockInPlane → PlaneLevels → List TransformPlace → ℕ → Sides → BoolList
spelled_residues contexts b levels [] k s = []
spelled_residues contexts b levels (at ∷ places) k s =
    spelled_at contexts b at (slice_index levels.counts k) (levels_at levels (area b.block.tx) k) s
    ++ spelled_residues contexts b levels places (k + 1) (with_sides b.block at.row at.column (nat_lt 0 (slice_index levels.counts k)) s)

-- of a skipped block nothing is put
unfoldable pub spelled_plane : Header → ContextLists → BlockInfo → Plane → PlaneLevels → Sides → BoolList
spelled_plane header contexts b p levels s =
    if b.skip then [] else spelled_residues contexts (block_in header b p) levels (places_in (shape_of header) b p) 0 s

unfoldable pub spelled_residue : Header → ContextLists → BlockInfo → BlockLevels → TileSides → BoolList
spelled_residue header contexts b levels s =
    spelled_plane header contexts b Y levels.y s.y ++ spelled_plane header contexts b U levels.u s.u ++ spelled_plane header contexts b V levels.v s.v
