use Rattle.std.proofs.Common.{◌+◌, ◌*◌, ◌/◌, ◌%◌, get_or}
use Rattle.std.specs.Prelude.{nat_eq, if◌then◌else◌}
use Rattle.vp9_types.specs.Maps.{HoldsRows}
use Rattle.intra_predict.proofs.rows.pairs_forward.Given as goal

abbrev pub invariant-loop-k : goal.invariant-loop-k
invariant-loop-k g l = HoldsRows l.block g.row.N (2 * l.k)
    (λ i j. if nat_eq (i % 2) 0 then get_or l.even (i / 2 + j) 0 else get_or l.odd (i / 2 + j) 0)
