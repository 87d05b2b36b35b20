use Rattle.std.proofs.Common.{◌≡◌, drop, take}
use Rattle.std.specs.Cmp.Lexicographic.{pointwise}
use Rattle.header_checks.specs.Same.{same_segment}
use Rattle.header_checks.proofs.same.same_segments.Given as goal

abbrev pub invariant-loop-i : goal.invariant-loop-i
invariant-loop-i l = record {
  tested : pointwise same_segment (drop l.i l.segments) (drop l.i l.others) ≡ pointwise same_segment l.segments l.others;
  same : take l.i l.segments ≡ take l.i l.others;
}
