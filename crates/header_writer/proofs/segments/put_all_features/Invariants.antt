use Rattle.std.proofs.Common.{take, drop, replicate, length}
use Rattle.frame_headers.specs.Segments.{features_for, no_segment_features}
use Rattle.std.specs.Prelude.{flat_map}
use Rattle.header_writer.specs.Code.{EachLeft, HasPut}
use Rattle.header_writer.specs.Spelling.{spelled_segment_features}
use Rattle.header_writer.proofs.segments.put_all_features.Given as goal

abbrev pub invariant-loop-i : goal.invariant-loop-i
invariant-loop-i l = record {
  puts : EachLeft features_for (replicate (length l.segments) no_segment_features) l.fn.bits (take l.i l.segments)
      (drop l.i (replicate (length l.segments) no_segment_features)) l.bits;
  spells : HasPut l.fn.bits (flat_map spelled_segment_features (take l.i l.segments)) l.bits;
}
