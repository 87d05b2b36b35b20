use Rattle.std.proofs.Common.{◌≡◌, ◌^◌, ◌<◌}
use Rattle.std.specs.List.{range_with_len}
use Rattle.prob_contexts.specs.ProbLists.{vector_lists}
use Rattle.counting_reader.specs.Code.{standing_of}
use Rattle.counting_reader.proofs.Throughs.{Reached}
use Rattle.mv_syntax.specs.Components.{next_bit}
use Rattle.mv_syntax.proofs.components.read_bits.Given as goal

abbrev pub invariant-loop-i : goal.invariant-loop-i
invariant-loop-i g l = record {
  read : Reached (next_bit (vector_lists l.probs) l.c) (range_with_len 0 l.n) 0 (standing_of l.initial.reader) l.i l.bits (standing_of l.reader);
  few : l.bits < 2 ^ l.i;
}
