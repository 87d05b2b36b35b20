use Rattle.tile_writer.proofs.RowEnds.{IsLeft}
use Rattle.tile_writer.specs.Code.{row_rest}
use Rattle.tile_writer.proofs.rows.put_row.Given as goal

abbrev pub invariant-loop-i : goal.invariant-loop-i
invariant-loop-i g l = record {
  left : IsLeft (row_rest l.first.row) l.first.tile_from l.count 64 l.i (g.W.TileWriter.tile l.initial.writer) (g.W.TileWriter.tile l.writer);
  ready : g.W.TileWriter.ready l.writer;
}
