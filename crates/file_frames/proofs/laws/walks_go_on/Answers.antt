use Rattle.file_frames.proofs.Walks.{goes_on}
use Rattle.file_frames.proofs.laws.walks_go_on.Goals as goal

pub returns : goal.returns
returns g c = λ w number state first rest ending. goes_on w first number state rest ending
