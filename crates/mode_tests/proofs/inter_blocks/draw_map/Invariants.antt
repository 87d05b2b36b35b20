use Rattle.std.proofs.Common.{◌≡◌}
use Rattle.mode_tests.proofs.inter_blocks.draw_map.Given as goal

abbrev pub invariant-loop-i : goal.invariant-loop-i
invariant-loop-i l = record { rows : l.map.rows ≡ 20; cols : l.map.cols ≡ 30 }
