use Rattle.std.proofs.Common.{◌≡◌, length}
use Rattle.loop_edges.specs.Code.{AreLimits}
use Rattle.loop_edges.proofs.tables.limits_by_level.Given as goal

abbrev pub invariant-loop-level : goal.invariant-loop-level
invariant-loop-level l = record {
  long : length l.limits ≡ 256;
  first : AreLimits l.f l.level l.limits;
}
