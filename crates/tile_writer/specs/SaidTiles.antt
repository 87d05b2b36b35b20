-- What a tile says (6.4.2 and 6.4.3 of the standard: decode_tile, decode_partition), whatever a block says: how its squares are
-- partitioned and what its blocks say, one after another in the order in which they are read, and the bools of all that.
use Rattle.std.specs.Prelude.{ℕ, zero, suc, ◌+◌, ◌-◌, ◌^◌, Bool, List, [], ◌∷◌, ◌++◌, Option, Some, None, Result, Ok, Err, nat_lt, if◌then◌else◌}
use Rattle.vp9_types.specs.Results.{◌>>=◌}
use Rattle.vp9_types.specs.declared.block.BlockSize.{BlockSize}
use Rattle.vp9_types.specs.declared.block.Partition.{Partition}
use Rattle.vp9_types.specs.declared.block.Partition.TheVariants.{Whole, Horizontal, Vertical, Split}
use Rattle.bool_lists.specs.BoolLists.{BoolList}
use Rattle.block_geometry.specs.SplitSquares.{part_size}
use Rattle.block_plan.specs.declared.block.BlockAt.{BlockAt}
use Rattle.block_lists.specs.PartitionLists.{spelled_partition_at}
use Rattle.mode_syntax.specs.Partitions.{half_of}
use Rattle.mode_syntax.specs.Superblocks.{quarter_square}
use Rattle.mode_syntax.specs.Walk.{TileWalk, block_at, starts_inside}
use Rattle.mode_syntax.specs.declared.square_at.SquareAt.{SquareAt}
use Rattle.tile_writer.specs.declared.unwritten.Unwritten.{Unwritten}
use Rattle.tile_writer.specs.declared.unwritten.Unwritten.TheVariants.{Unsaid}

-- what is said so far: what reading keeps then, who tells what is to come, and the bools from the tile's first on
pub record SaidSoFar (S T : Type 0) : Type 0 where
  pub state : S
  pub told : T
  pub bools : BoolList

abbrev pub so_far : {S T : Type 0} → S → T → BoolList → SaidSoFar S T
so_far s t bools = record { state = s; told = t; bools = bools }

abbrev pub Said : Type 0 → Type 0 → Type 0
Said S T = Result (SaidSoFar S T) Unwritten

-- What a tile is told, by whoever keeps T: the partition of a square, by whether its lower and its right half begin inside the
-- frame, if there is one to tell; and what a block adds to what is said so far.
pub record Teller (S T : Type 0) : Type 0 where
  pub partition : Bool → Bool → T → Option (Partition × T)
  pub block : BlockAt → SaidSoFar S T → Said S T

-- one after another
abbrev pub then_said : {S T : Type 0} → Said S T → (SaidSoFar S T → Said S T) → Said S T
then_said said f = said >>= f

abbrev pub told_partition : {S T : Type 0} → TileWalk S → Teller S T → SquareAt → T → Option (Partition × T)
told_partition walk teller at t =
    teller.partition (nat_lt (at.row + half_of at.level) walk.frame.rows) (nat_lt (at.col + half_of at.level) walk.frame.cols) t

-- a partition more, with its bools by the blocks before it
abbrev pub with_partition : {S T : Type 0} → TileWalk S → SquareAt → SaidSoFar S T → Partition → T → SaidSoFar S T
with_partition walk at p partition t =
    so_far p.state t (p.bools ++ spelled_partition_at walk.intra walk.probs (walk.blocks p.state) walk.frame at partition)

abbrev pub told_block : {S T : Type 0} → TileWalk S → Teller S T → ℕ → ℕ → BlockSize → SaidSoFar S T → Said S T
told_block walk teller r c size p = teller.block (block_at walk r c size) p

-- a block, unless it starts outside
unfoldable pub said_inside : {S T : Type 0} → TileWalk S → Teller S T → ℕ → ℕ → BlockSize → SaidSoFar S T → Said S T
said_inside walk teller r c size p = if starts_inside walk r c then told_block walk teller r c size p else Ok p

-- what was told, if there was anything to tell
abbrev pub if_told : {A : Type 0} → Option A → Result A Unwritten
if_told (Some x) = Ok x
if_told None = Err Unsaid

-- the parts of a square larger than 8x8, whose quarters say this
unfoldable pub said_parts : {S T : Type 0} → TileWalk S → Teller S T → (SquareAt → SaidSoFar S T → Said S T) → SquareAt → Partition → SaidSoFar S T → Said S T
said_parts walk teller said at Whole p = told_block walk teller at.row at.col (part_size Whole at.level) p
said_parts walk teller said at Horizontal p = do
  p ← told_block walk teller at.row at.col (part_size Horizontal at.level) p
  said_inside walk teller (at.row + 2 ^ (at.level - 1)) at.col (part_size Horizontal at.level) p
said_parts walk teller said at Vertical p = do
  p ← told_block walk teller at.row at.col (part_size Vertical at.level) p
  said_inside walk teller at.row (at.col + 2 ^ (at.level - 1)) (part_size Vertical at.level) p
said_parts walk teller said at Split p = do
  p ← said (quarter_square at 0) p
  p ← said (quarter_square at 1) p
  p ← said (quarter_square at 2) p
  said (quarter_square at 3) p

-- A square of a level: its partition, and then its parts. One that starts outside says nothing.
unfoldable pub said_at_level : {S T : Type 0} → TileWalk S → Teller S T → ℕ → SquareAt → SaidSoFar S T → Said S T
said_at_level walk teller zero at p =
    if starts_inside walk at.row at.col
    then (if_told (told_partition walk teller at p.told)
    >>= λ q. told_block walk teller at.row at.col (part_size q.0 0) (with_partition walk at p q.0 q.1))
    else Ok p
said_at_level walk teller (suc n) at p =
    if starts_inside walk at.row at.col
    then (if_told (told_partition walk teller at p.told)
    >>= λ q. said_parts walk teller (said_at_level walk teller n) at q.0 (with_partition walk at p q.0 q.1))
    else Ok p

abbrev pub said_square : {S T : Type 0} → TileWalk S → Teller S T → SquareAt → SaidSoFar S T → Said S T
said_square walk teller at p = said_at_level walk teller at.level at p

-- its superblocks, one after another
unfoldable pub said_tile : {S T : Type 0} → TileWalk S → Teller S T → List SquareAt → SaidSoFar S T → Said S T
said_tile walk teller [] p = Ok p
said_tile walk teller (at ∷ squares) p = said_square walk teller at p >>= said_tile walk teller squares
