use Rattle.std.proofs.Common.{◌≡◌}
use Rattle.frame_state.specs.Laws.{least_verdict}
use Rattle.frame_close.specs.Code.{broken_by, lent, result_at}
use Rattle.frame_close.proofs.closing.least.Given as goal

abbrev pub invariant-loop-column : goal.invariant-loop-column
invariant-loop-column l = l.least ≡ least_verdict (λ k. broken_by (result_at (lent l.columns) k)) l.column-index
