-- Who draws what the blocks of a frame say.
use Rattle.std.specs.Prelude.{Option, Some, None, if◌then◌else◌}
use Rattle.frame_state.specs.Sources.{FrameSources, block_sources}
use Rattle.frame_writer.specs.FrameSymbols.{Speaker}
use Rattle.drawn_symbols.specs.BlockDraws.{draw_block}
use Rattle.drawn_symbols.specs.Draws.{Drawn}
use Rattle.drawn_symbols.specs.IntraDraws.{draw_partition}
use Rattle.drawn_frames.specs.FrameTests.{is_drawn_frame}
use Rattle.drawn_frames.specs.BlockLevelDraws.{draw_block_levels}
use Rattle.drawn_frames.specs.declared.symbols.DrawnSymbols.{DrawnSymbols}

-- what is drawn is told, and further draws come from the number behind it
abbrev pub drawn : {A : Type 0} → Drawn A → DrawnSymbols → Option (A × DrawnSymbols)
drawn s t = Some ((s t.draws.x).0, record { draws = record { x = (s t.draws.x).1 } })

abbrev pub drawn_of : {A : Type 0} → FrameSources → Drawn A → DrawnSymbols → Option (A × DrawnSymbols)
drawn_of by s t = if is_drawn_frame by.header then drawn s t else None

-- partitions, blocks and levels, all from one number; blocks of drawn frames alone
abbrev pub drawing : Speaker DrawnSymbols
drawing = record {
  partition = λ has_rows has_cols. drawn (draw_partition has_rows has_cols);
  block = λ by earlier at. drawn_of by (draw_block (block_sources by) earlier at);
  levels = λ by block. drawn (draw_block_levels by.header block);
}
