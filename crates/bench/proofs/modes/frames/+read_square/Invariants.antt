use Rattle.bench.proofs.modes.frames.+read_square.Given as goal

abbrev pub decreases-read_square : goal.decreases-read_square
decreases-read_square g l = l.level
