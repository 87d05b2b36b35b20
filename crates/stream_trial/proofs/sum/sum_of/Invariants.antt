use Rattle.std.proofs.Common.{◌≡◌, drop}
use Rattle.stream_trial.specs.TrialLines.{sum_from, sum_of}
use Rattle.stream_trial.proofs.sum.sum_of.Given as goal

abbrev pub invariant-loop-i : goal.invariant-loop-i
invariant-loop-i l = record {
  summed : sum_from l.sum (drop l.i l.bytes) ≡ sum_of l.bytes;
}
