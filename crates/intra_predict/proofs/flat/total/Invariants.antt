use Rattle.std.proofs.Common.{◌≡◌, ◌≤◌, ◌*◌, sum, take}
use Rattle.intra_predict.proofs.flat.total.Given as goal

abbrev pub invariant-loop-sample : goal.invariant-loop-sample
invariant-loop-sample l = record {
  value : l.total ≡ sum (take l.sample-index l.samples);
  most : l.total ≤ l.sample-index * 4095;
}
