-- What blocks say, as it is drawn (6.4.5 of the standard: mode_info).
use Rattle.std.specs.Prelude.{Bool, List, if◌then◌else◌}
use Rattle.vp9_types.specs.declared.block.BlockSize.{BlockSize}
use Rattle.vp9_types.specs.declared.block.Modes.{Modes}
use Rattle.frame_headers.specs.declared.header.FrameKind.{FrameKind}
use Rattle.frame_headers.specs.declared.header.FrameKind.TheVariants as frame
use Rattle.frame_headers.specs.declared.header.Header.{Header}
use Rattle.block_plan.specs.declared.block.BlockAt.{BlockAt}
use Rattle.block_plan.specs.declared.block.BlockInfo.{BlockInfo}
use Rattle.inter_modes.specs.ModeInfo.{BlockSources, InterFrame, inter_frame, sources_of}
use Rattle.inter_modes.specs.BlockVectors.{Sources}
use Rattle.inter_writer.specs.declared.frame_blocks.BlockSymbols.{BlockSymbols}
use Rattle.inter_writer.specs.declared.frame_blocks.PredictionSymbols.{PredictionSymbols}
use Rattle.inter_writer.specs.declared.frame_blocks.PredictionSymbols.TheVariants.{Intra, Inter}
use Rattle.drawn_symbols.specs.Draws.{Drawn, stay, ◌>>=◌}
use Rattle.drawn_symbols.specs.IntraDraws.{draw_intra}
use Rattle.drawn_symbols.specs.InterDraws.{draw_inter}
use Rattle.drawn_symbols.specs.StartDraws.{draw_intra_start, draw_inter_start}

unfoldable pub draw_intra_prediction : BlockSize → Drawn PredictionSymbols
draw_intra_prediction size = draw_intra size >>= λ p. stay (Intra p)

unfoldable pub draw_inter_prediction : InterFrame → Sources → Drawn PredictionSymbols
draw_inter_prediction f s = draw_inter f s >>= λ q. stay (Inter q)

-- a block of an intra frame
unfoldable pub draw_intra_frame_block : Header → Modes → BlockSize → Drawn BlockSymbols
draw_intra_frame_block header modes size = do
  start ← draw_intra_start header.params.segmentation modes.tx_mode size
  prediction ← draw_intra_prediction size
  stay (record { start = start; prediction = prediction })

unfoldable pub draw_prediction : Bool → InterFrame → Sources → Drawn PredictionSymbols
draw_prediction is_inter f s = if is_inter then draw_inter_prediction f s else draw_intra_prediction s.search.at.size

-- a block of an inter frame
unfoldable pub draw_inter_frame_block : InterFrame → Sources → Drawn BlockSymbols
draw_inter_frame_block f s = do
  start ← draw_inter_start f.header.params.segmentation f.modes.tx_mode s.search.at.size
  prediction ← draw_prediction start.is_inter f s
  stay (record { start = start; prediction = prediction })

abbrev pub draw_by_kind : FrameKind → BlockSources → List BlockInfo → BlockAt → Drawn BlockSymbols
draw_by_kind (frame.Inter fields) by earlier at = draw_inter_frame_block (inter_frame by fields) (sources_of (inter_frame by fields) earlier by.vectors at)
draw_by_kind _ by earlier at = draw_intra_frame_block by.header by.modes at.size

-- a block of any frame, by the same as it is read by
unfoldable pub draw_block : BlockSources → List BlockInfo → BlockAt → Drawn BlockSymbols
draw_block by earlier at = draw_by_kind by.header.kind by earlier at
