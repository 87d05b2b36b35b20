use Rattle.std.proofs.Common.{◌≡◌, ◌+◌, ℕ, length}
use Rattle.loop_filter.specs.Code.{AllFit}
use Rattle.bench.proofs.filter.blocks.put_row.Given as goal

abbrev pub invariant-loop-col : goal.invariant-loop-col
invariant-loop-col l = record {
  rows : l.grid.rows ≡ l.initial.grid.rows;
  first : ◌≡◌ {A = ℕ} l.grid.from 0;
  to : l.grid.to ≡ l.initial.grid.to;
  room : l.grid.room + length l.grid.blocks ≡ l.total;
  fit : AllFit l.grid.blocks;
}
