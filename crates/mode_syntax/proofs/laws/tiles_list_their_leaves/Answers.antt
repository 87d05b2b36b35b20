use Rattle.mode_syntax.proofs.TileWalks.{tile_listed}
use Rattle.mode_syntax.proofs.laws.tiles_list_their_leaves.Goals as goal

pub returns : goal.returns
returns g c = tile_listed
