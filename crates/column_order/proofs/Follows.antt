-- Blocks of a tile column that follow one another.
use Rattle.std.proofs.Common.{◌≡◌, ◌∙◌, ◌++◌, ◌∷◌, [], ℕ, ◌+◌, ◌*◌, ◌/◌, ◌%◌, ◌<◌, ◌≤◌, List, arith, length, get_or}
use Rattle.std.specs.List.{All}
use Rattle.std.proofs.Math.Nat.{le-max_left}
use Rattle.std.proofs.lemmas.List.{get_or-map, length-map}
use Rattle.std.proofs.lemmas.List.Elements.{All-push}
use Rattle.std.proofs.lemmas.List.Quantifiers.{all_pairs_push}
use Rattle.vp9_types.specs.Shapes.{mi_cols, mi_rows}
use Rattle.vp9_types.specs.declared.block.BlockSize.{BlockSize}
use Rattle.vp9_types.specs.declared.shape.Shape.{Shape}
use Rattle.vp9_tables.specs.BlockTables.{height_of}
use Rattle.frame_headers.specs.HeaderState.{shape_of}
use Rattle.frame_headers.specs.declared.header.Header.{Header}
use Rattle.block_geometry.specs.BlockSizes.{width_8, height_8}
use Rattle.block_plan.specs.Planned.{PlannedBlock}
use Rattle.block_plan.specs.declared.block.BlockAt.{BlockAt}
use Rattle.block_plan.specs.declared.block.BlockInfo.{BlockInfo}
use Rattle.block_rebuild.specs.Laws.{AreInOrder, IsInColumn, IsRead}
use Rattle.block_rebuild.specs.Strips.{superblock_row}
use Rattle.column_plan.specs.PlanRows as rows
use Rattle.frame_state.specs.FrameReading.{infos}
use Rattle.column_order.proofs.ResiduePlaces.{IsPlannedOf}
use Rattle.column_order.proofs.Stands.{StandsAt}

-- what blocks owe to one another
pub record Follow (shape : Shape) (from to : ℕ) (blocks : List PlannedBlock) : Type 0 where
  pub placed : All (IsRead shape) blocks
  pub inside : All (IsInColumn from to) blocks
  pub order : AreInOrder blocks

-- they lie before a row of superblocks
abbrev pub LieBefore : ℕ → List PlannedBlock → Type 0
LieBefore q blocks = All (λ b. superblock_row b < q) blocks

pub before_more : (q s : ℕ) (blocks : List PlannedBlock) → q ≤ s → LieBefore q blocks → LieBefore s blocks
before_more q s blocks low h = λ i d there. let here = h i d there in omega (arith, here, low)

pub nothing_follows : (shape : Shape) (from to : ℕ) → Follow shape from to []
nothing_follows shape from to = record {
  placed = λ i d low. absurd (omega (arith, low));
  inside = λ i d low. absurd (omega (arith, low));
  order = λ i j d first low. absurd (omega (arith, low));
}

pub one_follows : (shape : Shape) (from to q : ℕ) (blocks : List PlannedBlock) (b : PlannedBlock) → Follow shape from to blocks → LieBefore (q + 1) blocks
    → IsRead shape b → IsInColumn from to b → superblock_row b ≡ q → Follow shape from to (blocks ++ b ∷ [])
one_follows shape from to q blocks b h before read inside at = record {
  placed = All-push (IsRead shape) blocks b h.placed read;
  inside = All-push (IsInColumn from to) blocks b h.inside inside;
  order = all_pairs_push (λ x y. superblock_row x ≤ superblock_row y) blocks b h.order (λ i d low. let here = before i d low in omega (arith, here, at));
}

pub one_before : (q : ℕ) (blocks : List PlannedBlock) (b : PlannedBlock) → LieBefore (q + 1) blocks → superblock_row b ≡ q → LieBefore (q + 1) (blocks ++ b ∷ [])
one_before q blocks b before at = All-push (λ b. superblock_row b < q + 1) blocks b before (omega (arith, at))

---- A block in its row of superblocks ----

pub row_is : (r top q : ℕ) (size : BlockSize) → top ≡ 8 * q → top ≤ r → r + height_8 size ≤ top + 8 → r / 8 ≡ q
row_is r top q size is low high = omega (arith, is, low, high, le-max_left 1 (height_of size / 8))

pub row_fits : (r top q : ℕ) (size : BlockSize) → top ≡ 8 * q → top ≤ r → r + height_8 size ≤ top + 8 → r % 8 + height_8 size ≤ 8
row_fits r top q size is low high = omega (arith, is, low, high, le-max_left 1 (height_of size / 8))

pub is_read : (header : Header) (at : BlockAt) (info : BlockInfo) (b : PlannedBlock) → IsPlannedOf header at.tile_from info b → StandsAt at info
    → at.row < mi_rows (shape_of header) → at.col < mi_cols (shape_of header) → at.tile_from ≤ at.col → at.row % 8 + height_8 at.size ≤ 8 → IsRead (shape_of header) b
is_read header at info b is stands row column tile fits = record {
  placed = record {
    row = rw (is.row ∙ stands.row) row;
    column = rw (is.col ∙ stands.col) column;
    tile = rw (is.tile, is.col ∙ stands.col) tile;
    fits = rw (is.tx, is.size ∙ stands.size) stands.fits;
  };
  row = rw (is.row ∙ stands.row, is.size ∙ stands.size) fits;
  places = is.places;
}

pub is_inside : (header : Header) (at : BlockAt) (info : BlockInfo) (b : PlannedBlock) (to : ℕ) → IsPlannedOf header at.tile_from info b → StandsAt at info
    → at.col + width_8 at.size ≤ to → IsInColumn at.tile_from to b
is_inside header at info b to is stands end = record { begin = is.tile; end = rw (is.col ∙ stands.col, is.size ∙ stands.size) end }

---- As they are listed ----

pub infos_in_order : (blocks : List PlannedBlock) → AreInOrder blocks → rows.AreInOrder (infos blocks)
infos_in_order blocks order = λ i j d first low.
    let long : length (infos blocks) ≡ length blocks = length-map blocks (λ (b : PlannedBlock). b.info) in
    let there : j < length blocks = omega (arith, low, long) in
    let e : PlannedBlock = record { info = d; tile_from = 0; y = []; u = []; v = [] } in
    let is : (n : ℕ) → n < length blocks → get_or (infos blocks) n d ≡ (get_or blocks n e).info = λ n in_list. get_or-map (λ (b : PlannedBlock). b.info) blocks n e d in_list in
    rw (is i (omega (arith, first, there)), is j there) (order i j e first there)
