use Rattle.std.proofs.Common.{◌≡◌, nat_lt}
use Rattle.std.specs.List.{list_any}
use Rattle.mode_syntax.specs.Partitions.{widths_above}
use Rattle.mode_syntax.proofs.partition.any_narrower.Given as goal

abbrev pub invariant-loop-i : goal.invariant-loop-i
invariant-loop-i g l = l.narrower ≡ list_any (λ width. nat_lt width l.bound) (widths_above (g.N.Neighbours.blocks l.earlier) l.row l.col l.i)
