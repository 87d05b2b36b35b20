use Rattle.mode_syntax.proofs.RowByRow.{tile_is}
use Rattle.mode_syntax.proofs.laws.tiles_are_read_row_by_row.Goals as goal

pub returns : goal.returns
returns g c = tile_is
