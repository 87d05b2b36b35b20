use Rattle.std.proofs.Common.{◌≡◌, ◌≤◌, length}
use Rattle.std.specs.Vec.{vec_capacity}
use Rattle.job_heads.specs.Reads.{AreFirstReads}
use Rattle.job_heads.proofs.reads.row_reads.Given as goal

abbrev pub invariant-loop-k : goal.invariant-loop-k
invariant-loop-k g l = record {
  many : length l.columns.items ≡ l.k;
  room : l.count ≤ vec_capacity l.columns;
  each : AreFirstReads l.frame l.slots l.columns.items;
}
