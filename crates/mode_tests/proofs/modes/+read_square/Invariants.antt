use Rattle.mode_tests.proofs.modes.+read_square.Given as goal

abbrev pub decreases-read_square : goal.decreases-read_square
decreases-read_square l = l.level
