use Rattle.tile_syntax.proofs.PlanTiles.{tile_seen}
use Rattle.tile_syntax.proofs.laws.plans_read_what_tiles_say.Goals as goal

pub returns : goal.returns
returns c = tile_seen
