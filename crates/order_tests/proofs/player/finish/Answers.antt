use Rattle.std.proofs.Common.{arith}
use Rattle.order_tests.proofs.Steps.{may_finish}
use Rattle.order_tests.proofs.player.finish.Goals as goal

pub step-requires-clause-allowed : goal.step-requires-clause-allowed
step-requires-clause-allowed c =
    may_finish c.args.world.now c.args.job c.frame_of.result c.publishes.result c.frame_of.ensures c.publishes.ensures c.requires.ready
    (c.some_rules_are_true.ensures.does c.args.world.now c.args.job
    (c.reached_worlds_are_sound.ensures.sound 2 c.args.world.now (omega arith) c.some_rules_are_true.ensures.are_true c.requires.reached) c.requires.ready)
