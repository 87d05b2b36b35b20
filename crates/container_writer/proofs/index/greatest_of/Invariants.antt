use Rattle.std.proofs.Common.{◌≡◌, max, drop}
use Rattle.container_writer.specs.Indexes.{greatest}
use Rattle.container_writer.proofs.index.greatest_of.Given as goal

abbrev pub invariant-loop-i : goal.invariant-loop-i
invariant-loop-i l = max l.most (greatest (drop l.i l.sizes)) ≡ greatest l.sizes
