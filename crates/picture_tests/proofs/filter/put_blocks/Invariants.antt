use Rattle.std.proofs.Common.{◌≡◌, ◌≤◌, ◌+◌, ℕ, length}
use Rattle.loop_filter.specs.Code.{AllFit}
use Rattle.picture_tests.proofs.filter.put_blocks.Given as goal

abbrev pub invariant-loop-k : goal.invariant-loop-k
invariant-loop-k l = record {
  rows : l.grid.rows ≡ l.rows;
  from : ◌≡◌ {A = ℕ} l.grid.from 0;
  to : l.grid.to ≡ l.cols;
  room : length l.numbers ≤ l.grid.room + l.k;
  fit : AllFit l.grid.blocks;
}
