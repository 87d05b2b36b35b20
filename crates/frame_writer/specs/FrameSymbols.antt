-- What the blocks of a frame say, and what reading makes of that (6.4.4 of the standard: decode_block).
use Rattle.std.specs.Prelude.{Bool, List, [], ◌∷◌, ◌++◌, Option, Some, None, Result, Ok, Err}
use Rattle.vp9_types.specs.Results.{◌>>=◌}
use Rattle.vp9_types.specs.declared.block.Partition.{Partition}
use Rattle.vp9_types.specs.declared.rule.Rule.{Rule}
use Rattle.frame_headers.specs.declared.header.FrameKind.{FrameKind}
use Rattle.frame_headers.specs.declared.header.FrameKind.TheVariants as frame
use Rattle.bool_lists.specs.BoolLists.{BoolList}
use Rattle.block_lists.specs.InterLists.{spelled_mode_info}
use Rattle.block_plan.specs.Planned.{PlannedBlock}
use Rattle.block_plan.specs.declared.block.BlockAt.{BlockAt}
use Rattle.block_plan.specs.declared.block.BlockInfo.{BlockInfo}
use Rattle.block_plan.specs.declared.block.Prediction.TheVariants as prediction
use Rattle.residue_syntax.specs.declared.sides.TileSides.{TileSides}
use Rattle.inter_modes.specs.ModeInfo.{InterFrame, block_with, sources_of}
use Rattle.inter_modes.specs.declared.starts.BlockStart.{BlockStart}
use Rattle.frame_state.specs.FrameReading.{TileRead, infos}
use Rattle.frame_state.specs.Sources.{block_sources, FrameSources}
use Rattle.inter_writer.specs.SaidBlocks as inter
use Rattle.inter_writer.specs.declared.frame_blocks.BlockSymbols.{BlockSymbols}
use Rattle.inter_writer.specs.declared.frame_blocks.PredictionSymbols.{PredictionSymbols}
use Rattle.inter_writer.specs.declared.frame_blocks.PredictionSymbols.TheVariants.{Intra, Inter}
use Rattle.residue_writer.specs.ResidueLists.{spelled_residue}
use Rattle.residue_writer.specs.SaidResidues as residue
use Rattle.residue_writer.specs.declared.levels.BlockLevels.{BlockLevels}
use Rattle.tile_writer.specs.SaidTiles.{SaidSoFar, Teller, Said, if_told, so_far}
use Rattle.tile_writer.specs.declared.unwritten.Unwritten.{Unwritten}
use Rattle.tile_writer.specs.declared.unwritten.Unwritten.TheVariants.{Broken, Unsaid}

-- Who tells them, keeping T: the partition of a square, by whether its lower and its right half begin inside the frame; what a
-- block says, by the blocks before it; and the levels of a block whose modes are known. Each is told if there is one to tell.
pub record Speaker (T : Type 0) : Type 0 where
  pub partition : Bool → Bool → T → Option (Partition × T)
  pub block : FrameSources → List BlockInfo → BlockAt → T → Option (BlockSymbols × T)
  pub levels : FrameSources → BlockInfo → T → Option (BlockLevels × T)

abbrev pub as_said : {A : Type 0} → Result A Rule → Result A Unwritten
as_said (Ok x) = Ok x
as_said (Err rule) = Err (Broken rule)

---- A block ----

-- a block of an intra frame says no inter prediction
abbrev pub intra_said : BlockAt → BlockStart → PredictionSymbols → Result BlockInfo Unwritten
intra_said at start (Intra p) = Ok (block_with at start (prediction.Intra p))
intra_said at start (Inter q) = Err Unsaid

abbrev pub modes_by : FrameKind → FrameSources → List BlockInfo → BlockAt → BlockSymbols → Result BlockInfo Unwritten
modes_by (frame.Inter fields) by earlier at symbols =
    let f : InterFrame = record { header = by.header; fields = fields; modes = by.modes; contexts = by.contexts } in
    as_said (inter.block_said f (sources_of f earlier by.past.vectors at) symbols.start symbols.prediction)
modes_by _ by earlier at symbols = intra_said at symbols.start symbols.prediction

-- its modes, by the blocks before it
abbrev pub modes_said : FrameSources → List BlockInfo → BlockAt → BlockSymbols → Result BlockInfo Unwritten
modes_said by earlier at symbols = modes_by by.header.kind by earlier at symbols

-- one block more
abbrev pub with_read_block : TileRead → PlannedBlock × TileSides → TileRead
with_read_block s read = record { earlier = s.earlier; blocks = s.blocks ++ read.0 ∷ []; sides = read.1 }

-- its modes as they are spelled by the blocks before it, and its levels by the sides
abbrev pub modes_spelled : FrameSources → BlockAt → TileRead → BlockInfo → BoolList
modes_spelled by at s info = spelled_mode_info (block_sources by) (infos (s.earlier ++ s.blocks)) at info

abbrev pub levels_spelled : FrameSources → TileRead → BlockInfo → BlockLevels → BoolList
levels_spelled by s info levels = spelled_residue by.header by.contexts info levels s.sides

-- its levels, and what is made of them, behind what was said so far
abbrev pub residue_told : {T : Type 0} → Speaker T → FrameSources → BlockAt → SaidSoFar TileRead T → BlockInfo → Said TileRead T
residue_told speaker by at said info = do
  p ← if_told (speaker.levels by info said.told)
  read ← as_said (residue.block_residues_said by.header at.tile_from info p.0 said.state.sides)
  Ok (so_far (with_read_block said.state read) p.1 (said.bools ++ levels_spelled by said.state info p.0))

unfoldable pub block_told : {T : Type 0} → Speaker T → FrameSources → BlockAt → SaidSoFar TileRead T → Said TileRead T
block_told speaker by at said = do
  p ← if_told (speaker.block by (infos (said.state.earlier ++ said.state.blocks)) at said.told)
  info ← modes_said by (infos (said.state.earlier ++ said.state.blocks)) at p.0
  residue_told speaker by at (so_far said.state p.1 (said.bools ++ modes_spelled by at said.state info)) info

-- what a tile is told of it
abbrev pub teller_of : {T : Type 0} → Speaker T → FrameSources → Teller TileRead T
teller_of speaker by = record { partition = speaker.partition; block = block_told speaker by }
