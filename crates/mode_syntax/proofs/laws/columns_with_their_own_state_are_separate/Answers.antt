use Rattle.mode_syntax.proofs.Columns.{columns_separate}
use Rattle.mode_syntax.proofs.laws.columns_with_their_own_state_are_separate.Goals as goal

pub returns : goal.returns
returns g c = columns_separate
