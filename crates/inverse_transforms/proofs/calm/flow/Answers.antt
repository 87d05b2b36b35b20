use Rattle.std.proofs.Common.{[], ◌^◌, refl, arith}
use Rattle.vp9_tables.specs.declared.flow_row.FlowRow.TheVariants.{Perm}
use Rattle.inverse_transforms.specs.LaneColumns.{column}
use Rattle.inverse_transforms.proofs.Small.{step_small}
use Rattle.inverse_transforms.proofs.Runs.{stepped, goes_on}
use Rattle.inverse_transforms.proofs.calm.flow.Goals as goal

pub loop-row-init : goal.loop-row-init
loop-row-init c = record {
  small = c.requires.small;
  narrow = c.requires.narrow;
  left = λ j low. refl;
}

pub loop-row-preserved : goal.loop-row-preserved
loop-row-preserved c = record {
  small = c.in_ok-apply.ensures.small;
  narrow = λ j low. step_small (2 ^ 15) (2 ^ 15) _ (column j c.loop-row.t) _ (omega arith) (c.loop-row.invariant.narrow j low) (c.in_ok-apply.ensures.gives j low);
  left = λ j low. stepped (2 ^ 15) c.args.rows.now (Perm []) c.loop-row.row-index (column j c.loop-row.t) _ _ c.loop-row-test.true
      (c.loop-row.invariant.left j low) (c.in_ok-apply.ensures.gives j low);
}

pub apply-requires-clause-fit : goal.apply-requires-clause-fit
apply-requires-clause-fit c = λ j low.
    let whole = c.requires.fit j low in
    goes_on (2 ^ 15) c.args.rows.now (Perm []) c.loop-row.row-index (column j c.loop-row.t) whole.0 _ c.loop-row-test.true (c.loop-row.invariant.left j low) whole.1
