use Rattle.std.proofs.Common.{◌≡◌, ◌<◌, ℕ}
use Rattle.std.specs.Prelude.{Err}
use Rattle.tile_syntax.specs.declared.plans.Unplanned.TheVariants as unplanned
use Rattle.frame_close.specs.Code.{lent, result_at}
use Rattle.frame_close.proofs.closing.wants_memory.Given as goal

abbrev pub invariant-loop-column : goal.invariant-loop-column
invariant-loop-column l = (k : ℕ) → k < l.column-index → result_at (lent l.columns) k ≡ Err unplanned.OutOfMemory → ⊥
