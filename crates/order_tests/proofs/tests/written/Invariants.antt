use Rattle.std.proofs.Common.{length, ◌-◌, ◌≤◌}
use Rattle.order_tests.proofs.tests.written.Given as goal

abbrev pub invariant-loop-place : goal.invariant-loop-place
invariant-loop-place l = l.frames ≤ l.place

abbrev pub decreases-loop-place : goal.decreases-loop-place
decreases-loop-place l = length l.finished - l.place
