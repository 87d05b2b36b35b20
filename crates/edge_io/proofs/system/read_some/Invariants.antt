use Rattle.edge_io.specs.Filling.{IsKept}
use Rattle.edge_io.proofs.system.read_some.Given as goal

abbrev pub invariant-loop : goal.invariant-loop
invariant-loop g l = IsKept (g.R.Read.remaining l.initial.reader) (g.R.Read.remaining l.reader)
