use Rattle.std.proofs.Common.{◌≤◌, ◌-◌, length}
use Rattle.frame_headers.proofs.SpanLemmas.{HasFound}
use Rattle.frame_headers.proofs.spans.tile_span.Given as goal

abbrev pub invariant-loop-i : goal.invariant-loop-i
invariant-loop-i l = record {
  within : l.at ≤ length l.frame;
  found : HasFound l.frame l.count l.fn.compressed.to (l.count - l.i) l.at;
}
