use Rattle.std.proofs.Common.{subst, ◌^◌}
use Rattle.inverse_transforms.specs.Flow.{flow_step}
use Rattle.inverse_transforms.specs.LaneColumns.{FitsAll}
use Rattle.inverse_transforms.proofs.calm.apply.Goals as goal

pub add-requires-clause-fit : goal.add-requires-clause-fit
unfolding flow_step
add-requires-clause-fit c = subst (λ row. FitsAll (flow_step (2 ^ 15) row) c.args.t.now) c.in-Sum.is c.requires.fit

pub rotate-requires-clause-fit : goal.rotate-requires-clause-fit
unfolding flow_step
rotate-requires-clause-fit c = subst (λ row. FitsAll (flow_step (2 ^ 15) row) c.args.t.now) c.in-Rot.is c.requires.fit

pub returns-in-Rot-clause-gives : goal.returns-in-Rot-clause-gives
unfolding flow_step
returns-in-Rot-clause-gives c = rw c.in-Rot.is c.rotate.ensures.gives

pub returns-in-Sum-clause-gives : goal.returns-in-Sum-clause-gives
unfolding flow_step
returns-in-Sum-clause-gives c = rw c.in-Sum.is c.add.ensures.gives
