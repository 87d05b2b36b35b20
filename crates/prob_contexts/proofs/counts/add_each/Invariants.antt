use Rattle.std.proofs.Common.{◌≡◌, take, drop, length}
use Rattle.prob_contexts.specs.Code.{joined_counts}
use Rattle.prob_contexts.proofs.counts.add_each.Given as goal

abbrev pub invariant-loop-i : goal.invariant-loop-i
invariant-loop-i l = record {
  size : length l.counters ≡ length l.initial.counters;
  done : take l.i l.counters ≡ joined_counts (take l.i l.initial.counters) (take l.i l.more);
  rest : drop l.i l.counters ≡ drop l.i l.initial.counters;
}
