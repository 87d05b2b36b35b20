use Rattle.std.proofs.Common.{◌≡◌, ◌<◌, length}
use Rattle.bench.proofs.inter.blocks.predict_blocks.Given as goal

abbrev pub invariant-loop-k : goal.invariant-loop-k
invariant-loop-k l = record {
  low : l.at < 16;
  block : length l.out ≡ 4096;
  lines : length l.lines ≡ 8576;
}
