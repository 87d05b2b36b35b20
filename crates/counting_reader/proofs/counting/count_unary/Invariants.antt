use Rattle.std.proofs.Common.{◌≡◌, map}
use Rattle.std.specs.List.{range_with_len}
use Rattle.prob_contexts.specs.Code.{counts_after}
use Rattle.counting_reader.specs.CountedSymbols.{one_at}
use Rattle.counting_reader.proofs.counting.count_unary.Given as goal

abbrev pub invariant-loop-k : goal.invariant-loop-k
invariant-loop-k l =
    l.counts ≡ counts_after l.initial.counts (map (one_at l.kind l.first) (range_with_len 0 l.k))
