-- What a tile's writer keeps, and what its calls answer.
use Rattle.std.specs.Prelude.{◌≡◌, ℕ, zero, suc, ◌+◌, ◌^◌, ◌≤◌, Bool, List, Some, None, Result, Ok, Err}
use Rattle.vp9_types.specs.Syntax.{Syntax}
use Rattle.vp9_types.specs.declared.block.BlockSize.{BlockSize}
use Rattle.vp9_types.specs.declared.block.Partition.{Partition}
use Rattle.vp9_types.specs.declared.rule.Rule.{Rule}
use Rattle.bool_encoder.specs.Part.{NumberPart, behind_marker}
use Rattle.bool_lists.specs.BoolLists.{BoolList, HasPut}
use Rattle.block_geometry.specs.BlockSizes.{width_8}
use Rattle.block_plan.specs.declared.block.BlockAt.{BlockAt}
use Rattle.counting_reader.specs.Counting.{Settled, in_order}
use Rattle.bool_encoder.specs.CountedBools.{PutsValue, PutsTo}
use Rattle.mode_syntax.specs.Partitions.{partition_at}
use Rattle.mode_syntax.specs.Laws.{square_at, decode_square, square_parts, decode_row, decode_rows}
use Rattle.mode_syntax.specs.Walk.{TileWalk, block_inside, decode_tile}
use Rattle.mode_syntax.specs.declared.square_at.SquareAt.{SquareAt}
use Rattle.tile_writer.specs.SaidTiles.{SaidSoFar, Teller, Said, so_far, then_said, said_inside, said_parts, said_at_level, said_tile}
use Rattle.tile_writer.specs.declared.unwritten.Unwritten.{Unwritten}
use Rattle.tile_writer.specs.declared.unwritten.Unwritten.TheVariants.{Broken, Unsaid, OutOfMemory}

-- How a tile is read, and who tells it what it says; the end of its columns of superblocks and the room for blocks. Of what
-- reading keeps the code holds H, as `view` says; and what is still to be told, and the bools that were put.
pub record Tile (S H T : Type 0) : Type 0 where
  pub walk : TileWalk S
  pub teller : Teller S T
  pub view : S → H
  pub limit : ℕ
  pub room : ℕ
  pub held : H
  pub told : T
  pub part : NumberPart

-- the same tile, further on
pub record SameTile {S H T : Type 0} (old new : Tile S H T) : Type 0 where
  pub walk : new.walk ≡ old.walk
  pub teller : new.teller ≡ old.teller
  pub view : new.view ≡ old.view
  pub limit : new.limit ≡ old.limit

-- what is to be put of a tile, from what reading keeps on, and what that says
pub record Rest (S T : Type 0) : Type 0 where
  pub syntax : S → Syntax ℕ Rule (Settled S)
  pub said : SaidSoFar S T → Said S T

-- behind the bools that the tile's are so far: what reading keeps next, bools that lead to it being put; what is said then, and
-- the bools that the tile's are with that
pub record IsNext {S H T : Type 0} (rest : Rest S T) (old new : Tile S H T) (s : S) (bools : BoolList) : Type 0 where
  pub next : S
  pub all : BoolList
  pub held : old.view next ≡ new.held
  pub put : PutsValue (rest.syntax s) old.part next new.part
  pub list : HasPut behind_marker all new.part
  pub said : rest.said (so_far s old.told bools) ≡ Ok (so_far next new.told all)

-- what reading keeps is what the code holds, and the bools are the tile's so far
abbrev pub HoldsSoFar : {S H T : Type 0} → Tile S H T → S → BoolList → Type 0
HoldsSoFar t s bools = (t.view s ≡ t.held) × HasPut behind_marker bools t.part

-- It was written to its end, with at most n blocks: to what is said, or to the rule that it breaks; or what is to be said isn't
-- there. Want of memory has no cause.
abbrev pub EndsTile : {S H T : Type 0} → Rest S T → ℕ → Tile S H T → Result (Unit {0}) Unwritten → Tile S H T → Type 0
EndsTile {S = S} rest n old (Ok u) new = ((s : S) (bools : BoolList) → HoldsSoFar old s bools → IsNext rest old new s bools) × SameTile old new × (old.room ≤ new.room + n)
EndsTile {S = S} rest n old (Err (Broken rule)) new =
    ((s : S) (bools : BoolList) → HoldsSoFar old s bools → PutsTo (rest.syntax s) old.part (Err rule) new.part × (rest.said (so_far s old.told bools) ≡ Err (Broken rule))) × SameTile old new
EndsTile {S = S} rest n old (Err Unsaid) new = (s : S) (bools : BoolList) → HoldsSoFar old s bools → rest.said (so_far s old.told bools) ≡ Err Unsaid
EndsTile rest n old (Err OutOfMemory) new = Unit {0}

-- a block
abbrev pub block_rest : {S T : Type 0} → TileWalk S → Teller S T → BlockAt → Rest S T
block_rest walk teller at = record { syntax = walk.block at; said = teller.block at }

-- a partition was put that was told, and nothing else changes
pub record TellsPartition {S H T : Type 0} (at : SquareAt) (has_rows has_cols : Bool) (old new : Tile S H T) (p : Partition) : Type 0 where
  pub put : (s : S) → old.view s ≡ old.held → PutsValue (partition_at old.walk.intra old.walk.probs (old.walk.blocks s) old.walk.frame at) old.part p new.part
  pub said : old.teller.partition has_rows has_cols old.told ≡ Some (p, new.told)
  pub held : new.held ≡ old.held
  pub room : new.room ≡ old.room
  pub same : SameTile old new

abbrev pub GivesPartition : {S H T : Type 0} → SquareAt → Bool → Bool → Tile S H T → Result Partition Unwritten → Tile S H T → Type 0
GivesPartition at has_rows has_cols old (Ok p) new = TellsPartition at has_rows has_cols old new p
GivesPartition at has_rows has_cols old (Err (Broken rule)) new = ⊥
GivesPartition at has_rows has_cols old (Err Unsaid) new = old.teller.partition has_rows has_cols old.told ≡ None
GivesPartition at has_rows has_cols old (Err OutOfMemory) new = Unit {0}

-- a block stands in the columns of the tile
pub record StandsIn {S H T : Type 0} (t : Tile S H T) (at : BlockAt) : Type 0 where
  pub from : at.tile_from ≡ t.walk.tile_from
  pub to : at.tile_to ≡ t.walk.tile_to
  pub first : at.tile_from ≤ at.col
  pub wide : at.col + width_8 at.size ≤ t.limit

-- a square does, and there is room for all of its blocks
pub record IsSquareOf {S H T : Type 0} (t : Tile S H T) (at : SquareAt) : Type 0 where
  pub from : at.tile_from ≡ t.walk.tile_from
  pub to : at.tile_to ≡ t.walk.tile_to
  pub first : at.tile_from ≤ at.col
  pub within : at.col + 2 ^ at.level ≤ t.limit
  pub room : 4 ^ at.level ≤ t.room

---- What is put of a tile ----

abbrev pub inside_rest : {S T : Type 0} → TileWalk S → Teller S T → ℕ → ℕ → BlockSize → Rest S T
inside_rest walk teller r c size = record { syntax = block_inside walk r c size; said = said_inside walk teller r c size }

abbrev pub then_rest : {S T : Type 0} → Rest S T → Rest S T → Rest S T
then_rest a b = record { syntax = λ s. in_order (a.syntax s) b.syntax; said = λ p. then_said (a.said p) b.said }

abbrev pub square_rest : {S T : Type 0} → TileWalk S → Teller S T → ℕ → ℕ → ℕ → Rest S T
square_rest walk teller level r c = record { syntax = decode_square walk level r c; said = said_at_level walk teller level (square_at walk level r c) }

-- the parts of a square whose quarters have a level
abbrev pub parts_rest : {S T : Type 0} → TileWalk S → Teller S T → ℕ → ℕ → ℕ → Partition → Rest S T
parts_rest walk teller k r c partition = record {
  syntax = λ s. square_parts walk k r c s partition;
  said = said_parts walk teller (said_at_level walk teller k) (square_at walk (suc k) r c) partition;
}

-- what a row of n superblocks from a column on says, and n rows of them
unfoldable pub said_row : {S T : Type 0} → TileWalk S → Teller S T → ℕ → ℕ → ℕ → SaidSoFar S T → Said S T
said_row walk teller r c zero p = Ok p
said_row walk teller r c (suc n) p = then_said (said_at_level walk teller 3 (square_at walk 3 r c) p) (said_row walk teller r (c + 8) n)

unfoldable pub said_rows : {S T : Type 0} → TileWalk S → Teller S T → ℕ → ℕ → ℕ → ℕ → SaidSoFar S T → Said S T
said_rows walk teller columns r c zero p = Ok p
said_rows walk teller columns r c (suc n) p = then_said (said_row walk teller r c columns p) (said_rows walk teller columns (r + 8) c n)

abbrev pub row_rest : {S T : Type 0} → ℕ → TileWalk S → Teller S T → ℕ → ℕ → Rest S T
row_rest r walk teller c n = record { syntax = decode_row walk r c n; said = said_row walk teller r c n }

abbrev pub rows_rest : {S T : Type 0} → ℕ → ℕ → TileWalk S → Teller S T → ℕ → ℕ → Rest S T
rows_rest columns c walk teller r n = record { syntax = decode_rows walk columns r c n; said = said_rows walk teller columns r c n }

-- a tile, superblock by superblock
abbrev pub tile_rest : {S T : Type 0} → TileWalk S → Teller S T → List SquareAt → Rest S T
tile_rest walk teller squares = record { syntax = decode_tile walk squares; said = said_tile walk teller squares }
