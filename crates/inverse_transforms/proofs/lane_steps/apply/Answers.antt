use Rattle.std.proofs.Common.{ap, Ok}
use Rattle.inverse_transforms.specs.Flow.{flow_step}
use Rattle.inverse_transforms.proofs.ColumnLemmas.{gathered_column, gathered_small}
use Rattle.inverse_transforms.proofs.lane_steps.apply.Goals as goal

pub returns-in-Perm-clause-gives : goal.returns-in-Perm-clause-gives
unfolding flow_step
returns-in-Perm-clause-gives c = λ j low. rw (c.in-Perm.is, c.permute.ensures) (ap Ok (gathered_column j c.args.t.now c.in-Perm.order))

pub returns-in-Perm-clause-small : goal.returns-in-Perm-clause-small
returns-in-Perm-clause-small c = rw c.permute.ensures (gathered_small c.args.t.now c.in-Perm.order c.requires.small)

pub returns-in-Rot-clause-gives : goal.returns-in-Rot-clause-gives
unfolding flow_step
returns-in-Rot-clause-gives c = rw c.in-Rot.is c.rotate.ensures.gives

pub returns-in-Sum-clause-gives : goal.returns-in-Sum-clause-gives
unfolding flow_step
returns-in-Sum-clause-gives c = rw c.in-Sum.is c.add.ensures.gives

pub returns-in-Wide-clause-gives : goal.returns-in-Wide-clause-gives
unfolding flow_step
returns-in-Wide-clause-gives c = rw c.in-Wide.is c.rotate_wide.ensures.gives
