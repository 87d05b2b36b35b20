use Rattle.std.proofs.Common.{◌*◌}
use Rattle.tile_writer.proofs.RowEnds.{IsLeft}
use Rattle.tile_writer.specs.Code.{rows_rest}
use Rattle.tile_writer.proofs.rows.put_rows.Given as goal

abbrev pub invariant-loop-i : goal.invariant-loop-i
invariant-loop-i g l = record {
  left : IsLeft (rows_rest l.columns l.first.tile_from) l.first.row l.rows (64 * l.columns) l.i (g.W.TileWriter.tile l.initial.writer) (g.W.TileWriter.tile l.writer);
  ready : g.W.TileWriter.ready l.writer;
}
