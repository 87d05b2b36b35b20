use Rattle.frame_groups.proofs.Fronts.{front_tells}
use Rattle.frame_groups.proofs.laws.four_bytes_tell_the_container.Goals as goal

pub returns : goal.returns
returns c = front_tells
