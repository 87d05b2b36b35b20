use Rattle.std.proofs.Common.{take, drop, replicate, length}
use Rattle.frame_headers.specs.Segments.{probability_for}
use Rattle.std.specs.Prelude.{flat_map}
use Rattle.header_writer.specs.Code.{EachLeft, HasPut}
use Rattle.header_writer.specs.Spelling.{spelled_probability}
use Rattle.header_writer.proofs.segments.put_probabilities.Given as goal

abbrev pub invariant-loop-i : goal.invariant-loop-i
invariant-loop-i l = record {
  puts : EachLeft probability_for (replicate (length l.values) 255) l.fn.bits (take l.i l.values) (drop l.i (replicate (length l.values) 255)) l.bits;
  spells : HasPut l.fn.bits (flat_map spelled_probability (take l.i l.values)) l.bits;
}
