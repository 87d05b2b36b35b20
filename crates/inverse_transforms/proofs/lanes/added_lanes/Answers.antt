use Rattle.std.proofs.Common.{rules, refl}
use Rattle.inverse_transforms.specs.Flow.{sum_and_difference}
use Rattle.inverse_transforms.proofs.LaneLemmas.{two_begin, two_step}
use Rattle.inverse_transforms.proofs.lanes.added_lanes.Goals as goal

pub loop-j-init : goal.loop-j-init
loop-j-init c = two_begin _ _ _ _ _ _ refl refl

pub loop-j-preserved : goal.loop-j-preserved
loop-j-preserved c =
    two_step c.args.limit sum_and_difference c.args.x.now c.args.y.now _ _ _ _ _ c.sum_and_difference-r.result (search rules) (search rules)
    c.loop-j-test.true (search rules) (search rules) c.sum_and_difference-r.ensures c.two_fit-fit.ensures c.loop-j.invariant
