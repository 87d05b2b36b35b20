use Rattle.std.proofs.Common.{◌≡◌, ◌+◌, ◌*◌, refl, arith}
use Rattle.mode_syntax.proofs.Mapped.{tile_step}
use Rattle.mode_syntax.proofs.Kept.{tile_kept}
use Rattle.mode_syntax.proofs.ModeWalks.{own_columns, other_columns}
use Rattle.mode_syntax.proofs.laws.tiles_read_their_columns.Goals as goal
use Rattle.mode_syntax.specs.Laws.{in_columns, next_block, mode_walk}

pub returns-clause-own : goal.returns-clause-own
returns-clause-own c = λ header modes contexts frame from to columns r n blocks within.
    tile_step (mode_walk header modes contexts frame from to) (next_block header modes contexts) (λ bs. bs) (in_columns from to) from (from + 8 * columns)
    (own_columns header modes contexts frame from to (from + 8 * columns) within) columns r from n blocks (omega arith) (omega arith)

pub returns-clause-others : goal.returns-clause-others
returns-clause-others c = λ header modes contexts frame tile_from tile_to columns r n from to blocks apart.
    tile_kept (mode_walk header modes contexts frame tile_from tile_to) (λ s. in_columns from to s ≡ in_columns from to blocks) tile_from (tile_from + 8 * columns)
    (other_columns header modes contexts frame tile_from tile_to tile_from (tile_from + 8 * columns) from to (in_columns from to blocks) apart) columns r tile_from n blocks (omega arith) (omega arith) refl
