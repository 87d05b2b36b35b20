use Rattle.std.proofs.Common.{◌≡◌, ◌-◌, ◌*◌, ◌^◌}
use Rattle.std.specs.Prelude.{nat_le}
use Rattle.frame_headers.specs.Tiles.{least, min_log2}
use Rattle.header_checks.proofs.tiles.least_log2.Given as goal

abbrev pub invariant-loop-n : goal.invariant-loop-n
invariant-loop-n l = least (λ k. nat_le l.columns (64 * 2 ^ k)) (8 - l.n) l.n ≡ min_log2 l.columns
