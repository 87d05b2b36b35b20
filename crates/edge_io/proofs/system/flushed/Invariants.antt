use Rattle.edge_io.specs.Filling.{IsKept}
use Rattle.edge_io.proofs.system.flushed.Given as goal

abbrev pub invariant-loop : goal.invariant-loop
invariant-loop g l = IsKept (g.W.Write.contents l.initial.writer) (g.W.Write.contents l.writer)
