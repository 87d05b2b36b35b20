use Rattle.std.proofs.Common.{length, ◌-◌}
use Rattle.counting_reader.specs.Code.{standing_of, standing_with}
use Rattle.counting_reader.proofs.CountedWalks.{CountedWalk}
use Rattle.counting_reader.proofs.reader.CountingReader.counted_tree.Given as goal

abbrev pub invariant-loop-leaf : goal.invariant-loop-leaf
invariant-loop-leaf g l = CountedWalk l.kind l.first l.tree l.probs l.place (standing_with l.self l.decoder) (standing_of l.fn.self)

abbrev pub decreases-loop-leaf : goal.decreases-loop-leaf
decreases-loop-leaf g l = length l.tree - l.place
