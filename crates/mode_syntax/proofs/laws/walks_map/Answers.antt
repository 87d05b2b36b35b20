use Rattle.mode_syntax.proofs.Mapped.{partition_step, tile_step, tile_everywhere}
use Rattle.mode_syntax.proofs.laws.walks_map.Goals as goal

pub returns-clause-square : goal.returns-clause-square
returns-clause-square g c = partition_step

pub returns-clause-tile : goal.returns-clause-tile
returns-clause-tile g c = tile_step

pub returns-clause-everywhere : goal.returns-clause-everywhere
returns-clause-everywhere g c = tile_everywhere
