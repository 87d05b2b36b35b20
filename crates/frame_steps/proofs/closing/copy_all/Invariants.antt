use Rattle.std.proofs.Common.{◌≤◌}
use Rattle.std.specs.Vec.{vec_capacity}
use Rattle.frame_close.specs.Code.{lent}
use Rattle.frame_steps.proofs.Joining.{AreFirst}
use Rattle.frame_steps.proofs.closing.copy_all.Given as goal

abbrev pub invariant-loop-k : goal.invariant-loop-k
invariant-loop-k g l = record {
  room : l.count ≤ vec_capacity l.counts;
  spare : l.count ≤ vec_capacity l.columns;
  first : AreFirst l.frame l.k (lent l.counts.items) l.columns.items;
}
