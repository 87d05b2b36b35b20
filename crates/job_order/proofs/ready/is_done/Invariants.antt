use Rattle.std.proofs.Common.{◌-◌, length, take, reverse}
use Rattle.job_order.specs.Worlds.{IsFinished}
use Rattle.job_order.proofs.ready.is_done.Given as goal

abbrev pub invariant-loop-place : goal.invariant-loop-place
invariant-loop-place g l = ¬ IsFinished (reverse (take l.place l.finished)) l.job

abbrev pub decreases-loop-place : goal.decreases-loop-place
decreases-loop-place g l = length l.finished - l.place
