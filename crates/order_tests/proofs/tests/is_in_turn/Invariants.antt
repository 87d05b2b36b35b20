use Rattle.std.proofs.Common.{length, ◌-◌}
use Rattle.order_tests.proofs.tests.is_in_turn.Given as goal

abbrev pub decreases-loop-place : goal.decreases-loop-place
decreases-loop-place l = length l.finished - l.place
