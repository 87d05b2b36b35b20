use Rattle.std.proofs.Common.{◌≤◌}
use Rattle.bool_encoder.proofs.Literals.{LiteralLeft}
use Rattle.bool_encoder.proofs.symbols.put_literal.Given as goal

abbrev pub invariant-loop-left : goal.invariant-loop-left
invariant-loop-left l = record {
  few : l.left ≤ l.n;
  put : LiteralLeft l.n l.value l.left l.fn.encoder l.encoder;
}

abbrev pub decreases-loop-left : goal.decreases-loop-left
decreases-loop-left l = l.left
