use Rattle.std.proofs.Common.{◌≡◌, ◌≤◌, ◌<◌, ℕ, get_or, length, map}
use Rattle.bench.proofs.filter.frames.draw_row.Given as goal

abbrev pub invariant-loop-x : goal.invariant-loop-x
invariant-loop-x g l = record {
  long : length l.line ≡ length l.initial.line;
  small : (k : ℕ) → k < l.x → get_or (map g.P.Sample.value l.line) k 0 ≤ 255;
}
