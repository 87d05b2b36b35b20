use Rattle.mode_syntax.proofs.Coverage.{tile_covered}
use Rattle.mode_syntax.proofs.laws.blocks_cover_a_tile_once.Goals as goal

pub returns : goal.returns
returns c = tile_covered
