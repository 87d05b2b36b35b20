use Rattle.std.proofs.Common.{◌+◌, ◌*◌}
use Rattle.tile_reader.proofs.squares.+squares.Given as goal

abbrev pub decreases-read_parts : goal.decreases-read_parts
decreases-read_parts g l = 3 * l.at.level + 1

abbrev pub decreases-read_quarters : goal.decreases-read_quarters
decreases-read_quarters g l = 3 * l.at.level

abbrev pub decreases-read_square : goal.decreases-read_square
decreases-read_square g l = 3 * l.at.level + 2
