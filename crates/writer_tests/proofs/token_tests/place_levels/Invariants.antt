use Rattle.std.proofs.Common.{◌≡◌, ◌<◌, length, unsigned_abs, All}
use Rattle.vp9_tables.specs.Scans.{area, scan_of}
use Rattle.token_writer.proofs.Turns.{AreOthers}
use Rattle.writer_tests.proofs.token_tests.place_levels.Given as goal

abbrev pub invariant-loop-place : goal.invariant-loop-place
invariant-loop-place l = record {
  long : length l.levels ≡ area l.fn.at.tx;
  small : All (λ level. unsigned_abs level < 16451) l.levels;
  others : AreOthers (scan_of l.fn.at.tx l.fn.at.kind) l.place l.levels;
}
