use Rattle.std.proofs.Common.{◌≤◌}
use Rattle.std.specs.Vec.{vec_capacity}
use Rattle.frame_state.proofs.ColumnSteps.{AreBegun}
use Rattle.frame_state.proofs.columns.TileColumn.new_all.Given as goal

abbrev pub invariant-loop-k : goal.invariant-loop-k
invariant-loop-k l = record {
  begun : AreBegun l.setting.header l.k l.columns.items;
  room : l.count ≤ vec_capacity l.columns;
}
