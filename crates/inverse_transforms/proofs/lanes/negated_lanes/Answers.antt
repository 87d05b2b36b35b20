use Rattle.std.proofs.Common.{rules, refl, arith, neg_ℤ}
use Rattle.inverse_transforms.proofs.LaneLemmas.{one_step}
use Rattle.inverse_transforms.proofs.lanes.negated_lanes.Goals as goal

pub loop-j-init : goal.loop-j-init
loop-j-init c = record { u_size = refl; made = λ j low. absurd (omega arith); fit = λ j low. absurd (omega arith) }

pub loop-j-preserved : goal.loop-j-preserved
loop-j-preserved c =
    one_step c.args.limit neg_ℤ c.args.x.now _ _ _ _ c.negated-r.result (search rules) c.loop-j-test.true (search rules) c.negated-r.ensures c.is_fit-fit.ensures c.loop-j.invariant
