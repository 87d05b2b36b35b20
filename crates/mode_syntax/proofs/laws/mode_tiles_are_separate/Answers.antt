use Rattle.mode_syntax.proofs.ModeTiles.{tiles_separate}
use Rattle.mode_syntax.proofs.laws.mode_tiles_are_separate.Goals as goal

pub returns : goal.returns
returns c = tiles_separate
