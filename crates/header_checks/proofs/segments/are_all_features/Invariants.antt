use Rattle.std.proofs.Common.{◌≡◌, drop, take}
use Rattle.std.specs.Prelude.{All}
use Rattle.std.specs.List.{list_all}
use Rattle.header_writer.specs.WellFormed.{AreSegmentFeatures}
use Rattle.header_checks.specs.Params.{are_features}
use Rattle.header_checks.proofs.segments.are_all_features.Given as goal

abbrev pub invariant-loop-i : goal.invariant-loop-i
invariant-loop-i l = record {
  tested : list_all are_features (drop l.i l.segments) ≡ list_all are_features l.segments;
  are : All AreSegmentFeatures (take l.i l.segments);
}
