use Rattle.std.proofs.Common.{◌≡◌, nat_lt}
use Rattle.std.specs.List.{list_any}
use Rattle.mode_syntax.specs.Partitions.{heights_left}
use Rattle.mode_syntax.proofs.partition.any_lower.Given as goal

abbrev pub invariant-loop-i : goal.invariant-loop-i
invariant-loop-i g l = l.lower ≡ list_any (λ height. nat_lt height l.bound) (heights_left (g.N.Neighbours.blocks l.earlier) l.at.tile_from l.at.row l.at.col l.i)
