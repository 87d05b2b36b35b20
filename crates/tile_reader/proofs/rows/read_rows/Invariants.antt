use Rattle.std.proofs.Common.{◌≡◌, ◌*◌}
use Rattle.tile_reader.proofs.RowEnds.{tile_rest, IsLeft}
use Rattle.tile_reader.proofs.rows.read_rows.Given as goal

abbrev pub invariant-loop-i : goal.invariant-loop-i
invariant-loop-i g l = record {
  left : IsLeft (tile_rest l.columns l.first.tile_from) l.first.row l.rows (64 * l.columns) l.i (g.R.TileReader.tile l.initial.reader) (g.R.TileReader.tile l.reader);
  ready : g.R.TileReader.ready l.reader;
  kept : g.R.TileReader.kept l.reader ≡ g.R.TileReader.kept l.initial.reader;
}
