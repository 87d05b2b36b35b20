use Rattle.inverse_transforms.specs.Flow.{flow_step}
use Rattle.inverse_transforms.proofs.lane_steps.apply_often.Goals as goal

pub returns-in-Rot-clause-gives : goal.returns-in-Rot-clause-gives
unfolding flow_step
returns-in-Rot-clause-gives c = rw c.in-Rot.is c.rotate.ensures.gives

pub returns-in-Sum-clause-gives : goal.returns-in-Sum-clause-gives
unfolding flow_step
returns-in-Sum-clause-gives c = rw c.in-Sum.is c.add.ensures.gives
