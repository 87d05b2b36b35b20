use Rattle.std.proofs.Common.{◌≡◌, ◌-◌, ◌+◌, ◌/◌, ◌^◌}
use Rattle.std.specs.Prelude.{nat_lt}
use Rattle.frame_headers.specs.Tiles.{least, max_log2}
use Rattle.header_checks.proofs.tiles.greatest_log2.Given as goal

abbrev pub invariant-loop-n : goal.invariant-loop-n
invariant-loop-n l = least (λ k. nat_lt (l.columns / 2 ^ (k + 1)) 4) (8 - l.n) l.n ≡ max_log2 l.columns
