use Rattle.std.proofs.Common.{[], ◌^◌}
use Rattle.vp9_tables.specs.declared.flow_row.FlowRow.TheVariants.{Perm}
use Rattle.inverse_transforms.proofs.Small.{step_small}
use Rattle.inverse_transforms.proofs.Runs.{stepped}
use Rattle.inverse_transforms.proofs.steps.flow.Goals as goal

pub loop-row-preserved : goal.loop-row-preserved
loop-row-preserved c = record {
  small = step_small (2 ^ 24) c.args.limit _ c.loop-row.t _ c.requires.limit c.loop-row.invariant.small c.in_ok-apply.ensures;
  left = stepped c.args.limit c.args.rows.now (Perm []) c.loop-row.row-index c.loop-row.t _ _ c.loop-row-test.true c.loop-row.invariant.left c.in_ok-apply.ensures;
}
