use Rattle.std.proofs.Common.{arith, sym, subst}
use Rattle.job_order.specs.JobSegments.{InOrder}
use Rattle.order_tests.proofs.player.job_of.Goals as goal

pub job_at-requires : goal.job_at-requires
job_at-requires c =
    subst InOrder (sym c.segments.ensures) (c.reached_worlds_are_sound.ensures.sound 2 c.args.world.now (omega arith) c.some_rules_are_true.ensures.are_true c.requires).order
