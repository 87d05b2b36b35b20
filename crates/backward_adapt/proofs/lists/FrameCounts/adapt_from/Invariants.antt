use Rattle.std.proofs.Common.{◌≡◌, ◌≤◌, length, take}
use Rattle.std.specs.List.{All}
use Rattle.prob_contexts.specs.Code.{counter_of}
use Rattle.backward_adapt.proofs.Steps.{first_merged}
use Rattle.backward_adapt.proofs.lists.FrameCounts.adapt_from.Given as goal

abbrev pub invariant-loop-i : goal.invariant-loop-i
invariant-loop-i l = record {
  size : length l.probs ≡ length l.saved;
  done : take l.i l.probs ≡ first_merged l.rate (counter_of l.self.counts.now) l.kind l.from l.saved l.i;
  kept : All (λ p. 1 ≤ p) (take l.i l.probs);
}
