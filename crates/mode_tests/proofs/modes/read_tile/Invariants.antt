use Rattle.std.proofs.Common.{◌≡◌}
use Rattle.mode_tests.proofs.modes.read_tile.Given as goal

abbrev pub invariant-loop-i : goal.invariant-loop-i
invariant-loop-i l = l.tile.from ≡ l.columns.0

abbrev pub invariant-loop-j : goal.invariant-loop-j
invariant-loop-j l = l.tile.from ≡ l.columns.0
