use Rattle.std.proofs.Common.{◌≡◌}
use Rattle.std.specs.Prelude.{not, nat_eq}
use Rattle.frame_headers.specs.HeaderState.{shape_of}
use Rattle.frame_state.specs.KeptColumns.{AreTileColumns}
use Rattle.frame_decoder.specs.Code.{ArePlanes, HoldsRead, pictures_of}
use Rattle.frame_state.specs.Code.{counts_if, sources_of}
use Rattle.frame_state.specs.FrameReading.{FrameRead}
use Rattle.frame_state.proofs.TileSpans.{IsLeft}
use Rattle.frame_decoder.proofs.tiles.decode_tiles.Given as goal

abbrev pub invariant-loop-n : goal.invariant-loop-n
invariant-loop-n g l = record {
  columns : AreTileColumns l.by.reading.setting.header l.n l.columns;
  planes : ArePlanes (shape_of l.by.reading.setting.header) l.planes;
  read : (f : FrameRead) × IsLeft (sources_of l.by.reading) l.bytes l.compressed l.n f × HoldsRead (pictures_of l.by) l.columns l.planes f
      × (l.counts ≡ counts_if (not (nat_eq g.row.COUNTS 0)) f.counted);
}
