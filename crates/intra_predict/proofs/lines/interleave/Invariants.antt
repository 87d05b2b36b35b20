use Rattle.std.proofs.Common.{◌≡◌, ◌<◌, ◌*◌, ◌/◌, ◌%◌, ℕ, get_or}
use Rattle.std.specs.Prelude.{nat_eq, if◌then◌else◌}
use Rattle.intra_predict.specs.PredictedModes.{mean2_at, mean3_at}
use Rattle.intra_predict.proofs.lines.interleave.Given as goal

abbrev pub invariant-loop-k : goal.invariant-loop-k
invariant-loop-k l = (k : ℕ) → k < 2 * l.k →
    get_or l.line k 0 ≡ (if nat_eq (k % 2) 0 then mean2_at l.edge (k / 2) else mean3_at l.edge (k / 2))
