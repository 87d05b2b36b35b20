use Rattle.std.proofs.Common.{◌≡◌}
use Rattle.frame_state.specs.KeptColumns.{AreTileColumns}
use Rattle.frame_state.specs.Code.{sources_of}
use Rattle.frame_writer.specs.Code.{AreSoFar}
use Rattle.frame_writer.proofs.tiles.write_tiles.Given as goal

abbrev pub invariant-loop-n : goal.invariant-loop-n
invariant-loop-n g l = record {
  by : l.frame.by.now ≡ l.fn.frame.by.now;
  columns : AreTileColumns l.fn.frame.by.now.setting.header l.n l.frame.columns.items;
  far : AreSoFar g.S.FrameSymbols.speaker (sources_of l.fn.frame.by.now) l.fn.frame.symbols l.fn.out.items l.n l.broken l.frame.columns.items l.out.items l.frame.symbols;
}
