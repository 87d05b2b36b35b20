-- What the laws of walks speak of.
use Rattle.std.specs.Prelude.{◌≡◌, ℕ, zero, suc, ◌+◌, ◌*◌, ◌^◌, ◌<◌, ◌≤◌, ◌⊎◌, Bool, true, ◌&&◌, List, [], ◌∷◌, ◌++◌, Result, map, filter, min, nat_lt}
use Rattle.vp9_types.specs.Syntax.{Syntax}
use Rattle.vp9_types.specs.declared.block.BlockSize.{BlockSize}
use Rattle.vp9_types.specs.declared.block.Modes.{Modes}
use Rattle.vp9_types.specs.declared.block.Partition.{Partition}
use Rattle.vp9_types.specs.declared.rule.Rule.{Rule}
use Rattle.bool_decoder.specs.Bools.{run_bools}
use Rattle.bool_decoder.specs.Window.{Window}
use Rattle.frame_headers.specs.declared.header.Header.{Header}
use Rattle.prob_contexts.specs.ProbLists.{ContextLists}
use Rattle.counting_reader.specs.Counting.{Settled, settle, in_order, mapped, Yields, ◌>>=◌}
use Rattle.block_geometry.specs.BlockSizes.{width_8}
use Rattle.block_geometry.specs.declared.transform_blocks.FramePlaces.{FramePlaces}
use Rattle.block_plan.specs.Blocks.{covering}
use Rattle.block_plan.specs.declared.block.BlockAt.{BlockAt}
use Rattle.block_plan.specs.declared.block.BlockInfo.{BlockInfo}
use Rattle.mode_syntax.specs.IntraModeInfo.{intra_frame_mode_info}
use Rattle.mode_syntax.specs.Partitions.{partition_at}
use Rattle.mode_syntax.specs.Superblocks.{superblocks_of}
use Rattle.mode_syntax.specs.TileColumns.{settled_part}
use Rattle.mode_syntax.specs.TileSquares.{Leaf, Cut, one_leaf, leaves, tile_leaves}
use Rattle.mode_syntax.specs.Walk.{TileWalk, block_at, parts, decode_at_level, decode_tile}
use Rattle.mode_syntax.specs.declared.square_at.SquareAt.{SquareAt}

---- Row by row ----

-- a square of a walk's tile, and what is read of it
abbrev pub square_at : {S : Type 0} → TileWalk S → ℕ → ℕ → ℕ → SquareAt
square_at walk level r c = record { row = r; col = c; level = level; tile_from = walk.tile_from; tile_to = walk.tile_to }

abbrev pub decode_square : {S : Type 0} → TileWalk S → ℕ → ℕ → ℕ → S → Syntax ℕ Rule (Settled S)
decode_square walk level r c s = decode_at_level walk level (square_at walk level r c) s

-- the parts of one whose quarters have level n
abbrev pub square_parts : {S : Type 0} → TileWalk S → ℕ → ℕ → ℕ → S → Partition → Syntax ℕ Rule (Settled S)
square_parts walk n r c s p = parts walk (decode_at_level walk n) (square_at walk (suc n) r c) s p

-- a row of n superblocks from a column on, and n rows of them
unfoldable pub decode_row : {S : Type 0} → TileWalk S → ℕ → ℕ → ℕ → S → Syntax ℕ Rule (Settled S)
decode_row walk r c zero s = settle s
decode_row walk r c (suc n) s = in_order (decode_square walk 3 r c s) (decode_row walk r (c + 8) n)

unfoldable pub decode_rows : {S : Type 0} → TileWalk S → ℕ → ℕ → ℕ → ℕ → S → Syntax ℕ Rule (Settled S)
decode_rows walk columns r c zero s = settle s
decode_rows walk columns r c (suc n) s = in_order (decode_row walk r c columns s) (decode_rows walk columns (r + 8) c n)

-- the superblocks of n rows of a walk's tile
abbrev pub squares_from : {S : Type 0} → TileWalk S → ℕ → ℕ → ℕ → ℕ → List SquareAt
squares_from walk columns r c n = superblocks_of (square_at walk 3 r c) n columns

---- Listed blocks ----

abbrev pub leaf_of : BlockInfo → Leaf
leaf_of b = record { row = b.row; col = b.col; size = b.size }

-- blocks of these places and sizes were listed behind those so far
abbrev pub Lists : {S : Type 0} → TileWalk S → S → List Leaf → S → Type 0
Lists walk s ls t = (new : List BlockInfo) × (map leaf_of new ≡ ls) × (walk.blocks t ≡ walk.blocks s ++ new)

-- what a block reads lists it, and nothing else
abbrev pub ListsItsBlock : {S : Type 0} → TileWalk S → Type 0
ListsItsBlock {S} walk = (r c : ℕ) (size : BlockSize) (s : S) → Yields (walk.block (block_at walk r c size) s) (Lists walk s (one_leaf r c size))

-- the blocks of a partition tree of a square
abbrev pub ListsLeaves : {S : Type 0} → TileWalk S → ℕ → ℕ → ℕ → S → S → Type 0
ListsLeaves walk n r c s t = (cut : Cut) × Lists walk s (leaves walk.frame n r c cut) t

-- the blocks of partition trees of a tile's superblocks
abbrev pub ListsTile : {S : Type 0} → TileWalk S → List SquareAt → S → S → Type 0
ListsTile walk squares s t = (cuts : SquareAt → Cut) × Lists walk s (tile_leaves walk.frame cuts squares) t

---- Walks that do the same ----

-- a walk of the same tile over another state
abbrev pub walk_over : {S T : Type 0} → TileWalk S → (BlockAt → T → Syntax ℕ Rule (Settled T)) → (T → List BlockInfo) → TileWalk T
walk_over walk block blocks = record {
  frame = walk.frame;
  tile_from = walk.tile_from;
  tile_to = walk.tile_to;
  intra = walk.intra;
  probs = walk.probs;
  block = block;
  blocks = blocks;
}

-- so many columns from one on lie in those from `low` on, below `high`, and begin in the frame
pub record LiesIn {S : Type 0} (walk : TileWalk S) (low high c width : ℕ) : Type 0 where
  pub from : low ≤ c
  pub to : c + width ≤ high
  pub starts : c < walk.frame.cols

-- Another state keeps step with a walk's between two columns: what a block does to it is what the block does to the
-- walk's state, seen through `view`, and squares are partitioned alike.
pub record KeepsStep {S T : Type 0} (walk : TileWalk S) (block : BlockAt → T → Syntax ℕ Rule (Settled T)) (blocks : T → List BlockInfo) (view : S → T) (low high : ℕ) : Type 0 where
  pub partitions : (level r c : ℕ) (s : S) → LiesIn walk low high c (2 ^ level)
      → partition_at walk.intra walk.probs (blocks (view s)) walk.frame (square_at walk level r c) ≡ partition_at walk.intra walk.probs (walk.blocks s) walk.frame (square_at walk level r c)
  pub block_steps : (r c : ℕ) (size : BlockSize) (s : S) → LiesIn walk low high c (width_8 size) → block (block_at walk r c size) (view s) ≡ mapped view (walk.block (block_at walk r c size) s)

-- what each block of a walk between two columns keeps
pub record EachKeeps {S : Type 0} (walk : TileWalk S) (P : S → Type 0) (low high : ℕ) : Type 0 where
  pub kept : (r c : ℕ) (size : BlockSize) (s : S) → LiesIn walk low high c (width_8 size) → P s → Yields (walk.block (block_at walk r c size) s) P

---- Blocks of some columns ----

-- at every place of these columns the same block stands
abbrev pub SameIn : ℕ → ℕ → List BlockInfo → List BlockInfo → Type 0
SameIn from to xs ys = (r c : ℕ) → from ≤ c → c < to → covering xs r c ≡ covering ys r c

-- part of a block lies in the columns from one on, and before another
abbrev pub reaches_into : ℕ → ℕ → BlockInfo → Bool
reaches_into from to b = nat_lt b.col to && nat_lt from (b.col + width_8 b.size)

abbrev pub in_columns : ℕ → ℕ → List BlockInfo → List BlockInfo
in_columns from to blocks = filter (reaches_into from to) blocks

-- the modes of a tile's blocks alone: the state is the blocks so far
unfoldable pub next_block : Header → Modes → ContextLists → BlockAt → List BlockInfo → Syntax ℕ Rule (Settled (List BlockInfo))
next_block header modes contexts at blocks = do
  block ← intra_frame_mode_info header modes contexts blocks at
  settle (blocks ++ block ∷ [])

abbrev pub mode_walk : Header → Modes → ContextLists → FramePlaces → ℕ → ℕ → TileWalk (List BlockInfo)
mode_walk header modes contexts frame tile_from tile_to = record {
  frame = frame;
  tile_from = tile_from;
  tile_to = tile_to;
  intra = true;
  probs = contexts.partitions;
  block = next_block header modes contexts;
  blocks = λ blocks. blocks;
}

---- Where columns lie ----

-- where the tiles of a frame lie, and their bytes: the columns from which and before which a tile column lies and how
-- many superblocks it is wide, and by its number the row from which a tile lies, how many superblocks it is high, its window
pub record Layout : Type 0 where
  pub from : ℕ → ℕ
  pub to : ℕ → ℕ
  pub wide : ℕ → ℕ
  pub row : ℕ → ℕ
  pub high : ℕ → ℕ
  pub window : ℕ → Window

-- a tile column ends with its superblocks or with the frame, and the superblocks of another are before it or behind it
pub record IsLaidOut (frame : FramePlaces) (l : Layout) : Type 0 where
  pub ends : (k : ℕ) → min (l.from k + 8 * l.wide k) frame.cols ≤ l.to k
  pub apart : (j k : ℕ) → (j ≡ k → ⊥) → (l.from j + 8 * l.wide j ≤ l.from k) ⊎ (l.to k ≤ l.from j)

-- the modes of a tile of a number: the state is the blocks so far
unfoldable pub mode_tile : Header → Modes → ContextLists → FramePlaces → Layout → (ℕ → ℕ) → ℕ → List BlockInfo → Result (Settled (List BlockInfo)) Rule
mode_tile header modes contexts frame l column_of n blocks =
    let k = column_of n in
    let walk = mode_walk header modes contexts frame (l.from k) (l.to k) in
    settled_part (run_bools (decode_tile walk (squares_from walk (l.wide k) (l.row n) (l.from k) (l.high n)) blocks) (l.window n))

abbrev pub column_blocks : Layout → ℕ → List BlockInfo → List BlockInfo
column_blocks l k blocks = in_columns (l.from k) (l.to k) blocks
