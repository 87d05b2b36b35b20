use Rattle.std.proofs.Common.{◌≡◌, length}
use Rattle.loop_edges.specs.Code.{AreLevelsOfSegment}
use Rattle.loop_edges.proofs.tables.levels_of_segment.Given as goal

abbrev pub invariant-loop-kind : goal.invariant-loop-kind
invariant-loop-kind l = record {
  long : length l.levels ≡ 8;
  first : AreLevelsOfSegment l.f l.segment l.kind l.levels;
}
