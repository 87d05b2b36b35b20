use Rattle.std.proofs.Common.{◌-◌}
use Rattle.job_order.specs.Worlds.{IsReached}
use Rattle.job_order.specs.Example.{example_rules}
use Rattle.order_tests.proofs.player.draw_all.Given as goal

abbrev pub invariant-loop-rounds : goal.invariant-loop-rounds
invariant-loop-rounds l = IsReached example_rules 2 l.world

abbrev pub decreases-loop-rounds : goal.decreases-loop-rounds
decreases-loop-rounds l = 100 - l.rounds
