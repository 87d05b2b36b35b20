use Rattle.std.proofs.Common.{◌≡◌, drop}
use Rattle.std.specs.Cmp.Lexicographic.{pointwise}
use Rattle.header_checks.specs.Params.{is_delta}
use Rattle.header_checks.proofs.filter.are_coded.Given as goal

abbrev pub invariant-loop-i : goal.invariant-loop-i
invariant-loop-i l = pointwise is_delta (drop l.i l.olds) (drop l.i l.deltas) ≡ pointwise is_delta l.olds l.deltas
