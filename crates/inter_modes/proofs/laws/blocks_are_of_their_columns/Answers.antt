use Rattle.inter_modes.proofs.Columns.{same_mode_info}
use Rattle.inter_modes.proofs.laws.blocks_are_of_their_columns.Goals as goal

pub returns : goal.returns
returns c = same_mode_info
