use Rattle.std.proofs.Common.{◌≡◌, ◌++◌}
use Rattle.column_plan.specs.Code.{pieces_held}
use Rattle.column_plan.proofs.blocks.push_held.Given as goal

abbrev pub invariant-loop-k : goal.invariant-loop-k
invariant-loop-k l = record {
  pushed : l.residues ≡ l.initial.residues ++ pieces_held l.area l.some l.values l.k;
}
