use Rattle.mode_syntax.proofs.Walks.{leaves_listed}
use Rattle.mode_syntax.proofs.laws.squares_list_their_leaves.Goals as goal

pub returns : goal.returns
returns g c = leaves_listed
