use Rattle.std.proofs.Common.{◌≡◌, length}
use Rattle.loop_edges.specs.Code.{AreLevels}
use Rattle.loop_edges.proofs.tables.levels_of.Given as goal

abbrev pub invariant-loop-segment : goal.invariant-loop-segment
invariant-loop-segment l = record {
  long : length l.levels ≡ 8;
  first : AreLevels l.f l.segment l.levels;
}
