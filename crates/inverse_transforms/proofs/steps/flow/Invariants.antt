use Rattle.std.proofs.Common.{◌≡◌, drop, All}
use Rattle.inverse_transforms.specs.Flow.{run_flow}
use Rattle.inverse_transforms.specs.Ranges.{IsSmall}
use Rattle.inverse_transforms.proofs.steps.flow.Given as goal

abbrev pub invariant-loop-row : goal.invariant-loop-row
invariant-loop-row l = record {
  small : All IsSmall l.t;
  left : run_flow l.limit (drop l.row-index l.rows) l.t ≡ run_flow l.limit l.rows l.initial.t;
}
