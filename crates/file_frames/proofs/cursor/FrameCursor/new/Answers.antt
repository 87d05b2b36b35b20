use Rattle.file_frames.specs.Code.{ahead}
use Rattle.file_frames.proofs.Aheads.{all_is_ahead}
use Rattle.file_frames.proofs.cursor.FrameCursor.new.Goals as goal

pub returns : goal.returns
unfolding ahead
returns c = all_is_ahead c.args.bytes.now c.new.result _ c.new-2.result.items c.new-2.ensures c.new.ensures.left

pub invariant_of-result-clause-placed_in : goal.invariant_of-result-clause-placed_in
invariant_of-result-clause-placed_in c = c.new.ensures.placed
