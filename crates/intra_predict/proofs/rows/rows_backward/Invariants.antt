use Rattle.std.proofs.Common.{◌+◌, ◌*◌, ◌-◌, get_or}
use Rattle.vp9_types.specs.Maps.{HoldsRows}
use Rattle.intra_predict.proofs.rows.rows_backward.Given as goal

abbrev pub invariant-loop-i : goal.invariant-loop-i
invariant-loop-i g l = HoldsRows l.block g.row.N l.i (λ i j. get_or l.line (l.step * (g.row.N - 1 - i) + j) 0)
