use Rattle.std.proofs.Common.{◌+◌, ◌*◌}
use Rattle.tile_writer.proofs.squares.+squares.Given as goal

abbrev pub decreases-put_parts : goal.decreases-put_parts
decreases-put_parts g l = 3 * l.at.level + 1

abbrev pub decreases-put_quarters : goal.decreases-put_quarters
decreases-put_quarters g l = 3 * l.at.level

abbrev pub decreases-put_square : goal.decreases-put_square
decreases-put_square g l = 3 * l.at.level + 2
