-- How the blocks of a tile are read (6.4.2 and 6.4.3 of the standard: decode_tile, decode_partition), whatever a block
-- reads. S is what reading keeps, with the blocks so far.
use Rattle.std.specs.Prelude.{ℕ, zero, suc, ◌+◌, ◌-◌, ◌^◌, Bool, ◌&&◌, List, nat_lt, if◌then◌else◌}
use Rattle.vp9_types.specs.Syntax.{Syntax}
use Rattle.vp9_types.specs.declared.block.BlockSize.{BlockSize}
use Rattle.vp9_types.specs.declared.block.Partition.{Partition}
use Rattle.vp9_types.specs.declared.block.Partition.TheVariants.{Whole, Horizontal, Vertical, Split}
use Rattle.vp9_types.specs.declared.rule.Rule.{Rule}
use Rattle.block_geometry.specs.SplitSquares.{part_size}
use Rattle.block_geometry.specs.declared.transform_blocks.FramePlaces.{FramePlaces}
use Rattle.block_plan.specs.declared.block.BlockAt.{BlockAt}
use Rattle.block_plan.specs.declared.block.BlockInfo.{BlockInfo}
use Rattle.mode_syntax.specs.declared.square_at.SquareAt.{SquareAt}
use Rattle.counting_reader.specs.Counting.{Settled, settle, through, ◌>>=◌}
use Rattle.mode_syntax.specs.Partitions.{partition_at}
use Rattle.mode_syntax.specs.Superblocks.{quarter_square}

-- what a walk is told: the frame, the tile's columns, which probabilities partitions have, what a block reads, and the
-- blocks that are listed
pub record TileWalk (S : Type 0) : Type 0 where
  pub frame : FramePlaces
  pub tile_from : ℕ
  pub tile_to : ℕ
  pub intra : Bool
  pub probs : List ℕ
  pub block : BlockAt → S → Syntax ℕ Rule (Settled S)
  pub blocks : S → List BlockInfo

abbrev pub block_at : {S : Type 0} → TileWalk S → ℕ → ℕ → BlockSize → BlockAt
block_at walk r c size = record { row = r; col = c; size = size; tile_from = walk.tile_from; tile_to = walk.tile_to }

abbrev pub starts_inside : {S : Type 0} → TileWalk S → ℕ → ℕ → Bool
starts_inside walk r c = nat_lt r walk.frame.rows && nat_lt c walk.frame.cols

-- a block, unless it starts outside
unfoldable pub block_inside : {S : Type 0} → TileWalk S → ℕ → ℕ → BlockSize → S → Syntax ℕ Rule (Settled S)
block_inside walk r c size s = if starts_inside walk r c then walk.block (block_at walk r c size) s else settle s

-- the one block of a square of 8x8, whose size says how it is partitioned
unfoldable pub smallest_parts : {S : Type 0} → TileWalk S → SquareAt → S → Partition → Syntax ℕ Rule (Settled S)
smallest_parts walk at s p = walk.block (block_at walk at.row at.col (part_size p 0)) s

-- the parts of a larger square, whose quarters are read so
unfoldable pub parts : {S : Type 0} → TileWalk S → (SquareAt → S → Syntax ℕ Rule (Settled S)) → SquareAt → S → Partition → Syntax ℕ Rule (Settled S)
parts walk decode at s Whole = walk.block (block_at walk at.row at.col (part_size Whole at.level)) s
parts walk decode at s Horizontal = do
  s ← walk.block (block_at walk at.row at.col (part_size Horizontal at.level)) s
  block_inside walk (at.row + 2 ^ (at.level - 1)) at.col (part_size Horizontal at.level) s
parts walk decode at s Vertical = do
  s ← walk.block (block_at walk at.row at.col (part_size Vertical at.level)) s
  block_inside walk at.row (at.col + 2 ^ (at.level - 1)) (part_size Vertical at.level) s
parts walk decode at s Split = do
  s ← decode (quarter_square at 0) s
  s ← decode (quarter_square at 1) s
  s ← decode (quarter_square at 2) s
  decode (quarter_square at 3) s

-- A square of a level: its partition, and then its parts. One that starts outside isn't coded.
unfoldable pub decode_at_level : {S : Type 0} → TileWalk S → ℕ → SquareAt → S → Syntax ℕ Rule (Settled S)
decode_at_level walk zero at s =
    if starts_inside walk at.row at.col
    then (partition_at walk.intra walk.probs (walk.blocks s) walk.frame at >>= smallest_parts walk at s)
    else settle s
decode_at_level walk (suc n) at s =
    if starts_inside walk at.row at.col
    then (partition_at walk.intra walk.probs (walk.blocks s) walk.frame at >>= parts walk (decode_at_level walk n) at s)
    else settle s

abbrev pub decode_partition : {S : Type 0} → TileWalk S → SquareAt → S → Syntax ℕ Rule (Settled S)
decode_partition walk at s = decode_at_level walk at.level at s

-- its superblocks, one after another
unfoldable pub decode_tile : {S : Type 0} → TileWalk S → List SquareAt → S → Syntax ℕ Rule (Settled S)
decode_tile walk squares s = through (decode_partition walk) squares s
