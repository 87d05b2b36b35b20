-- What a tile's reader keeps, and what its calls answer.
use Rattle.std.specs.Prelude.{◌≡◌, ℕ, ◌+◌, ◌^◌, ◌≤◌, Option, Some, None, Result, Ok, Err}
use Rattle.vp9_types.specs.Syntax.{Syntax}
use Rattle.vp9_types.specs.declared.block.Partition.{Partition}
use Rattle.vp9_types.specs.declared.rule.Rule.{Rule}
use Rattle.block_geometry.specs.BlockSizes.{width_8}
use Rattle.block_plan.specs.declared.block.BlockAt.{BlockAt}
use Rattle.counting_reader.specs.Counting.{Settled, in_order}
use Rattle.counting_reader.specs.Code.{Standing, run_counting}
use Rattle.mode_syntax.specs.Partitions.{partition_at}
use Rattle.mode_syntax.specs.Walk.{TileWalk}
use Rattle.mode_syntax.specs.declared.square_at.SquareAt.{SquareAt}

-- How a tile is read, and which rule is broken where reading ends early, if one is; the end of its columns of superblocks and
-- the room for blocks; what reading keeps by now, and where it stands.
pub record Tile (S H : Type 0) : Type 0 where
  pub walk : TileWalk S
  pub rule_of : H → Option Rule
  pub limit : ℕ
  pub room : ℕ
  pub state : S
  pub standing : Standing

-- the same tile, further on
pub record SameTile {S H : Type 0} (old new : Tile S H) : Type 0 where
  pub walk : new.walk ≡ old.walk
  pub rule_of : new.rule_of ≡ old.rule_of
  pub limit : new.limit ≡ old.limit

-- what is to be read of a tile, from what reading keeps on
abbrev pub Rest : Type 0 → Type 0
Rest S = S → Syntax ℕ Rule (Settled S)

-- It breaks this rule. Where none is named, memory was wanting, and nothing is said.
abbrev pub Breaks : {S : Type 0} → Option Rule → Syntax ℕ Rule (Settled S) → Standing → Type 0
Breaks None s m = Unit {0}
Breaks (Some rule) s m = run_counting s m ≡ Err rule

-- it was read to its end, with at most n blocks, or it breaks the rule
abbrev pub EndsTile : {S H : Type 0} → Rest S → ℕ → Tile S H → Result (Unit {0}) H → Tile S H → Type 0
EndsTile rest n old (Ok u) new = (run_counting (rest old.state) old.standing ≡ Ok (new.state, new.standing)) × SameTile old new × (old.room ≤ new.room + n)
EndsTile rest n old (Err e) new = Breaks (old.rule_of e) (rest old.state) old.standing

-- a partition was read, and nothing else changes
pub record ReadsPartition {S H : Type 0} (at : SquareAt) (old new : Tile S H) (p : Partition) : Type 0 where
  pub read : run_counting (partition_at old.walk.intra old.walk.probs (old.walk.blocks old.state) old.walk.frame at) old.standing ≡ Ok (p, new.standing)
  pub state : new.state ≡ old.state
  pub room : new.room ≡ old.room
  pub same : SameTile old new

-- a block stands in the columns of the tile
pub record StandsIn {S H : Type 0} (t : Tile S H) (at : BlockAt) : Type 0 where
  pub from : at.tile_from ≡ t.walk.tile_from
  pub to : at.tile_to ≡ t.walk.tile_to
  pub first : at.tile_from ≤ at.col
  pub wide : at.col + width_8 at.size ≤ t.limit

-- a square does, and there is room for all of its blocks
pub record IsSquareOf {S H : Type 0} (t : Tile S H) (at : SquareAt) : Type 0 where
  pub from : at.tile_from ≡ t.walk.tile_from
  pub to : at.tile_to ≡ t.walk.tile_to
  pub first : at.tile_from ≤ at.col
  pub within : at.col + 2 ^ at.level ≤ t.limit
  pub room : 4 ^ at.level ≤ t.room

-- one after another
abbrev pub then_rest : {S : Type 0} → Rest S → Rest S → Rest S
then_rest a b = λ s. in_order (a s) b
