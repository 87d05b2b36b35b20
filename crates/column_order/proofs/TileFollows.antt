-- The blocks of a tile follow those of its column in earlier tiles.
use Rattle.std.proofs.Common.{◌≡◌, ◌∙◌, ◌++◌, ◌∷◌, [], ℕ, ◌+◌, ◌-◌, ◌*◌, ◌/◌, ◌<◌, ◌≤◌, List, refl, sym, ap, subst, arith, append_assoc, append-nil, min}
use Rattle.vp9_types.specs.Shapes.{mi_rows}
use Rattle.vp9_types.specs.Sizes.{superblocks_along}
use Rattle.vp9_types.specs.declared.shape.Shape.{Shape}
use Rattle.frame_headers.specs.HeaderState.{shape_of}
use Rattle.frame_headers.specs.declared.header.Header.{Header}
use Rattle.block_geometry.specs.FrameShapes.{places_of}
use Rattle.block_geometry.specs.BlockSizes.{width_8, height_8}
use Rattle.block_plan.specs.Planned.{PlannedBlock}
use Rattle.block_plan.specs.declared.block.BlockAt.{BlockAt}
use Rattle.block_plan.specs.declared.block.BlockInfo.{BlockInfo}
use Rattle.block_rebuild.specs.Laws.{IsInColumn, IsRead}
use Rattle.block_rebuild.specs.Strips.{Region, superblock_row}
use Rattle.residue_syntax.specs.Residues as residues
use Rattle.counting_reader.specs.Counting.{Yields, lifted, settle}
use Rattle.counting_reader.proofs.Yields.{yields_bind, yields_map}
use Rattle.inter_modes.specs.ModeInfo.{mode_info}
use Rattle.mode_syntax.specs.Walk.{TileWalk, block_at}
use Rattle.frame_state.specs.FrameReading.{Column, TileRead, begun, column_after, infos, read_block, read_tile, read_walk}
use Rattle.frame_state.specs.Sources.{block_sources, FrameSources}
use Rattle.frame_state.specs.TilePlaces.{column_of, tile_row_of, superblocks_before, tile_offset, tile_places}
use Rattle.frame_state.specs.declared.tile_places.TilePlaces.{TilePlaces}
use Rattle.frame_state.proofs.TileOffsets.{before_grows, tile_is_low}
use Rattle.column_order.specs.ColumnStrips.{column_from, column_to}
use Rattle.column_order.proofs.Follows.{Follow, LieBefore, before_more, is_inside, is_read, one_before, one_follows, row_fits, row_is}
use Rattle.column_order.proofs.ResiduePlaces.{IsPlannedOf, block_places}
use Rattle.column_order.proofs.RowsKept.{EachKeeps, LiesIn, tile_kept}
use Rattle.column_order.proofs.Stands.{StandsAt, Tells, info_stands, lifted_stands}

abbrev all_blocks : TileRead → List PlannedBlock
all_blocks s = s.earlier ++ s.blocks

-- behind q rows of superblocks
pub record Stand (shape : Shape) (from to q : ℕ) (blocks : List PlannedBlock) : Type 0 where
  pub follow : Follow shape from to blocks
  pub before : LieBefore q blocks

pub wider : (shape : Shape) (from to q s : ℕ) (blocks : List PlannedBlock) → q ≤ s → Stand shape from to q blocks → Stand shape from to s blocks
wider shape from to q s blocks low h = record { follow = h.follow; before = before_more q s blocks low h.before }

stand_more : (shape : Shape) (from to q : ℕ) (blocks : List PlannedBlock) (b : PlannedBlock) → Stand shape from to (q + 1) blocks
    → IsRead shape b → IsInColumn from to b → superblock_row b ≡ q → Stand shape from to (q + 1) (blocks ++ b ∷ [])
stand_more shape from to q blocks b h read inside at = record {
  follow = one_follows shape from to q blocks b h.follow h.before read inside at;
  before = one_before q blocks b h.before at;
}

---- A block ----

-- the block that is read at a place of a row of superblocks
module _ (by : FrameSources) (tile : TilePlaces) (to q top : ℕ) where
  abbrev walk : TileWalk TileRead
  walk = read_walk by (places_of (shape_of by.header)) tile

  abbrev window : Region
  window = record { left = tile.col_from; right = to; top = top; bottom = top + 8 }

  added : (at : BlockAt) (info : BlockInfo) (b : PlannedBlock) (s : TileRead) → at.tile_from ≡ tile.col_from → top ≡ 8 * q → LiesIn walk window at.row at.col (height_8 at.size) (width_8 at.size)
      → Stand (shape_of by.header) tile.col_from to (q + 1) (all_blocks s) → StandsAt at info → IsPlannedOf by.header at.tile_from info b
      → Stand (shape_of by.header) tile.col_from to (q + 1) (s.earlier ++ (s.blocks ++ b ∷ []))
  added at info b s from aligned lies has stands is =
      let read : IsRead (shape_of by.header) b =
      is_read by.header at info b is stands lies.row lies.column (rw from lies.left) (row_fits at.row top q at.size aligned lies.top lies.bottom) in
      let inside : IsInColumn tile.col_from to b = subst (λ n. IsInColumn n to b) from (is_inside by.header at info b to is stands lies.right) in
      let row : superblock_row b ≡ q = ap (λ n. n / 8) (is.row ∙ stands.row) ∙ row_is at.row top q at.size aligned lies.top lies.bottom in
      subst (λ bs. Stand (shape_of by.header) tile.col_from to (q + 1) bs) (append_assoc s.earlier s.blocks (b ∷ [])) (stand_more (shape_of by.header) tile.col_from to q (all_blocks s) b has read inside row)

  block_kept : (at : BlockAt) (s : TileRead) → at.tile_from ≡ tile.col_from → top ≡ 8 * q → LiesIn walk window at.row at.col (height_8 at.size) (width_8 at.size)
      → Stand (shape_of by.header) tile.col_from to (q + 1) (all_blocks s)
      → Yields (read_block by at s) (λ t. Stand (shape_of by.header) tile.col_from to (q + 1) (all_blocks t))
  unfolding read_block settle
  block_kept at s from aligned lies has =
      yields_bind (mode_info (block_sources by) (infos (all_blocks s)) at) _ (Tells at) _
      (info_stands (block_sources by) (infos (all_blocks s)) at)
      (λ told tells. yields_bind (lifted told) _ (StandsAt at) _ (lifted_stands at told tells)
      (λ info stands. yields_bind (residues.block_residue by.header by.contexts at.tile_from info s.sides) _ (λ r. IsPlannedOf by.header at.tile_from info r.0) _
      (block_places by.header by.contexts at.tile_from info s.sides)
      (λ read is. added at info read.0 s from aligned lies has stands is)))

  pub blocks_kept : (top < mi_rows (shape_of by.header) → top ≡ 8 * q)
      → EachKeeps (read_walk by (places_of (shape_of by.header)) tile) (λ s. Stand (shape_of by.header) tile.col_from to (q + 1) (all_blocks s)) (record { left = tile.col_from; right = to; top = top; bottom = top + 8 })
  blocks_kept aligned = record {
    kept = λ r c size s lies has. block_kept (block_at walk r c size) s refl (aligned (omega (arith, lies.top, lies.row))) lies has;
  }

---- A tile ----

tile_stands : (by : FrameSources) (tile : TilePlaces) (to q : ℕ) (c : Column) → tile.col_from + 8 * superblocks_along (tile.col_to - tile.col_from) ≤ to
    → (tile.row_from < mi_rows (shape_of by.header) → tile.row_from ≡ 8 * q) → Stand (shape_of by.header) tile.col_from to q c.blocks
    → Yields (read_tile by tile c) (λ t. Stand (shape_of by.header) tile.col_from to (q + superblocks_along (tile.row_to - tile.row_from)) (all_blocks t))
unfolding read_tile
tile_stands by tile to q c wide aligned has =
    tile_kept (read_walk by (places_of (shape_of by.header)) tile) (λ m s. Stand (shape_of by.header) tile.col_from to m (all_blocks s)) tile.col_from to
    (λ m s h. wider (shape_of by.header) tile.col_from to m (m + 1) (all_blocks s) (omega arith) h)
    (λ m top here. blocks_kept by tile to m top here)
    (superblocks_along (tile.col_to - tile.col_from)) tile.row_from tile.col_from (superblocks_along (tile.row_to - tile.row_from)) q (begun (shape_of by.header) c)
    (omega arith) wide aligned (subst (λ bs. Stand (shape_of by.header) tile.col_from to q bs) (sym (append-nil c.blocks)) has)

-- how many rows of superblocks lie before the n-th tile, and before those below it
abbrev pub rows_before : Header → ℕ → ℕ
rows_before header n = superblocks_before (mi_rows (shape_of header)) header.params.tiles.rows_log2 (tile_row_of header.params.tiles n)

abbrev pub rows_behind : Header → ℕ → ℕ
rows_behind header n = superblocks_before (mi_rows (shape_of header)) header.params.tiles.rows_log2 (tile_row_of header.params.tiles n + 1)

in_rows : (rows a : ℕ) → min (8 * a) rows < rows → min (8 * a) rows ≡ 8 * a
in_rows rows a low = omega (arith, low)

own_tile : (by : FrameSources) (n : ℕ) (c : Column)
    → Stand (shape_of by.header) (column_from by.header (column_of by.header.params.tiles n)) (column_to by.header (column_of by.header.params.tiles n)) (rows_before by.header n) c.blocks
    → Yields (read_tile by (tile_places (places_of (shape_of by.header)) by.header.params.tiles n) c)
    (λ t. Stand (shape_of by.header) (column_from by.header (column_of by.header.params.tiles n)) (column_to by.header (column_of by.header.params.tiles n)) (rows_behind by.header n) (all_blocks t))
unfolding tile_places
own_tile by n c has =
    let h = by.header in
    let rows = mi_rows (shape_of h) in
    let log2 = h.params.tiles.rows_log2 in
    let i = tile_row_of h.params.tiles n in
    let from = column_from h (column_of h.params.tiles n) in
    let to = column_to h (column_of h.params.tiles n) in
    let grows = before_grows rows log2 i (i + 1) (omega arith) in
    let few = tile_is_low rows log2 i in
    let tall = superblocks_along (tile_offset rows log2 (i + 1) - tile_offset rows log2 i) in
    let most : rows_before h n + tall ≤ rows_behind h n = omega (arith, grows, few) in
    yields_map (read_tile by (tile_places (places_of (shape_of h)) h.params.tiles n) c) _ _
    (tile_stands by (tile_places (places_of (shape_of h)) h.params.tiles n) to (rows_before h n) c (omega arith) (in_rows rows (rows_before h n)) has)
    (λ t stand. wider (shape_of h) from to (rows_before h n + tall) (rows_behind h n) (all_blocks t) most stand)

-- a tile of the k-th column
pub tile_follows : (by : FrameSources) (n k : ℕ) (c : Column) → column_of by.header.params.tiles n ≡ k
    → Stand (shape_of by.header) (column_from by.header k) (column_to by.header k) (rows_before by.header n) c.blocks
    → Yields (read_tile by (tile_places (places_of (shape_of by.header)) by.header.params.tiles n) c)
    (λ t. Stand (shape_of by.header) (column_from by.header k) (column_to by.header k) (rows_behind by.header n) (column_after t).blocks)
tile_follows by n k c same =
    subst (λ j. Stand (shape_of by.header) (column_from by.header j) (column_to by.header j) (rows_before by.header n) c.blocks
    → Yields (read_tile by (tile_places (places_of (shape_of by.header)) by.header.params.tiles n) c)
    (λ t. Stand (shape_of by.header) (column_from by.header j) (column_to by.header j) (rows_behind by.header n) (column_after t).blocks)) same (own_tile by n c)
