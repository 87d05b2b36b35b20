use Rattle.std.proofs.Common.{◌≡◌, length, take}
use Rattle.frame_state.proofs.ColumnSteps.{AreBegun}
use Rattle.frame_state.proofs.columns.TileColumn.renew_all.Given as goal

abbrev pub invariant-loop-k : goal.invariant-loop-k
invariant-loop-k l = record {
  begun : AreBegun l.setting.header l.k (take l.k l.columns);
  many : length l.columns ≡ length l.initial.columns;
}
