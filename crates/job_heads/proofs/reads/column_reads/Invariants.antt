use Rattle.std.proofs.Common.{◌≡◌, ◌≤◌, length, map, take}
use Rattle.std.specs.Vec.{vec_capacity}
use Rattle.job_results.specs.RowReads.{spans_by}
use Rattle.job_heads.proofs.reads.column_reads.Given as goal

abbrev pub invariant-loop-row : goal.invariant-loop-row
invariant-loop-row l = record {
  many : length l.rows.items ≡ l.row;
  room : length l.needs ≤ vec_capacity l.rows;
  are : l.rows.items ≡ map (λ n. spans_by l.slots l.kind n) (take l.row l.needs);
}
