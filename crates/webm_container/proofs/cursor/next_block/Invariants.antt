use Rattle.std.proofs.Common.{length}
use Rattle.webm_container.proofs.Progress.{left_of}
use Rattle.webm_container.proofs.Walks.{IsOnWay}
use Rattle.webm_container.proofs.cursor.next_block.Given as goal

abbrev pub invariant-steps : goal.invariant-steps
invariant-steps l = IsOnWay l.bytes l.fn.cursor l.place

abbrev pub decreases-steps : goal.decreases-steps
decreases-steps l = left_of (length l.bytes) l.place
