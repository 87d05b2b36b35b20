-- Levels that can be put.
use Rattle.std.specs.Prelude.{◌≡◌, ◌<◌, ℕ, ℤ, false, List, length, get_or, slice_index}
use Rattle.vp9_types.specs.declared.shape.Plane.{Plane}
use Rattle.vp9_types.specs.declared.shape.Plane.TheVariants.{Y, U, V}
use Rattle.vp9_tables.specs.Scans.{area}
use Rattle.block_geometry.specs.TransformBlocks.{place_at}
use Rattle.block_geometry.specs.declared.transform_blocks.TransformPlace.{TransformPlace}
use Rattle.prob_contexts.specs.ProbLists.{ContextLists}
use Rattle.frame_headers.specs.HeaderState.{shape_of}
use Rattle.frame_headers.specs.declared.header.Header.{Header}
use Rattle.coef_tokens.specs.TokenKinds.{block_tables}
use Rattle.token_writer.specs.TokenFits.{CanPut}
use Rattle.block_plan.specs.InPlanes.{places_in}
use Rattle.block_plan.specs.declared.block.BlockInfo.{BlockInfo}
use Rattle.residue_syntax.specs.BlocksInPlanes.{block_in, token_kind}
use Rattle.residue_syntax.specs.declared.in_plane.BlockInPlane.{BlockInPlane}
use Rattle.residue_writer.specs.SaidResidues.{levels_at}
use Rattle.residue_writer.specs.declared.levels.BlockLevels.{BlockLevels}
use Rattle.residue_writer.specs.declared.levels.PlaneLevels.{PlaneLevels}

-- tokens can code the levels of the transform block at a row and column
abbrev pub CanPutAt : ContextLists → BlockInPlane → TransformPlace → List ℤ → ℕ → Type 0
CanPutAt contexts b at levels count = CanPut (block_tables contexts (token_kind b at.row at.column)) levels count

-- and those of each of a block's transform blocks
abbrev pub CanPutAll : ContextLists → BlockInPlane → List TransformPlace → PlaneLevels → Type 0
CanPutAll contexts b places levels =
    (k : ℕ) → k < length places → CanPutAt contexts b (get_or places k (place_at 0 0)) (levels_at levels (area b.block.tx) k) (slice_index levels.counts k)

-- of a skipped block nothing is put
abbrev pub CanPutIn : Header → ContextLists → BlockInfo → Plane → PlaneLevels → Type 0
CanPutIn header contexts b p levels = b.skip ≡ false → CanPutAll contexts (block_in header b p) (places_in (shape_of header) b p) levels

pub record CanPutBlock (header : Header) (contexts : ContextLists) (b : BlockInfo) (levels : BlockLevels) : Type 0 where
  pub y : CanPutIn header contexts b Y levels.y
  pub u : CanPutIn header contexts b U levels.u
  pub v : CanPutIn header contexts b V levels.v
