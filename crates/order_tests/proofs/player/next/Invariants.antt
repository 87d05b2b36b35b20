use Rattle.std.proofs.Common.{◌-◌}
use Rattle.order_tests.proofs.player.next.Given as goal

abbrev pub decreases-loop-passed : goal.decreases-loop-passed
decreases-loop-passed l = l.drawn - l.passed
