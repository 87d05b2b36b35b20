use Rattle.std.proofs.Common.{◌≡◌}
use Rattle.tile_reader.proofs.RowEnds.{row_rest, IsLeft}
use Rattle.tile_reader.proofs.rows.read_row.Given as goal

abbrev pub invariant-loop-i : goal.invariant-loop-i
invariant-loop-i g l = record {
  left : IsLeft (row_rest l.first.row) l.first.tile_from l.count 64 l.i (g.R.TileReader.tile l.initial.reader) (g.R.TileReader.tile l.reader);
  ready : g.R.TileReader.ready l.reader;
  kept : g.R.TileReader.kept l.reader ≡ g.R.TileReader.kept l.initial.reader;
}
