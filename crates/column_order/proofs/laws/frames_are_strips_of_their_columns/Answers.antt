use Rattle.column_order.proofs.FrameStrips.{frame_strips}
use Rattle.column_order.proofs.laws.frames_are_strips_of_their_columns.Goals as goal

pub returns : goal.returns
returns c = frame_strips
