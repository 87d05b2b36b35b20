use Rattle.std.proofs.Common.{arith}
use Rattle.order_tests.proofs.player.next.Goals as goal

pub is_ready-requires-clause-order : goal.is_ready-requires-clause-order
is_ready-requires-clause-order c =
    (c.reached_worlds_are_sound.ensures.sound 2 c.args.world.now (omega arith) c.some_rules_are_true.ensures.are_true c.requires).order
