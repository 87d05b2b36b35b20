use Rattle.std.proofs.Common.{◌≡◌}
use Rattle.frame_close.specs.Code.{lent, result_at, sum_of}
use Rattle.frame_close.proofs.closing.add_all.Given as goal

abbrev pub invariant-loop-column : goal.invariant-loop-column
invariant-loop-column l = l.sum ≡ sum_of (result_at (lent l.columns)) l.column-index
