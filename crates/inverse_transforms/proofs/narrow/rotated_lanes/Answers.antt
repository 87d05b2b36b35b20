use Rattle.std.proofs.Common.{rules, refl, ◌^◌}
use Rattle.inverse_transforms.specs.Flow.{rotated, at}
use Rattle.inverse_transforms.proofs.LaneLemmas.{two_begin, two_step}
use Rattle.inverse_transforms.proofs.Narrows.{narrow_small}
use Rattle.inverse_transforms.proofs.narrow.rotated_lanes.Goals as goal

pub loop-j-init : goal.loop-j-init
loop-j-init c = two_begin _ _ _ _ _ _ refl refl

pub loop-j-preserved : goal.loop-j-preserved
loop-j-preserved c =
    two_step (2 ^ 15) (rotated c.args.turn.angle) c.args.x.now c.args.y.now _ _ _ _ _ c.rotated-r.result (search rules) (search rules)
    c.loop-j-test.true (narrow_small (at c.args.x.now c.loop-j.j) (c.requires.x c.loop-j.j c.loop-j-test.true)) (narrow_small (at c.args.y.now c.loop-j.j) (c.requires.y c.loop-j.j c.loop-j-test.true)) c.rotated-r.ensures.value c.two_fit-fit.ensures c.loop-j.invariant
