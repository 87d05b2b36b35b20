-- Where a transform block lies in its plane (8.5.1 of the standard).
use Rattle.std.specs.Prelude.{ℕ, ◌+◌, ◌*◌}
use Rattle.vp9_types.specs.Shapes.{halved}
use Rattle.intra_predict.specs.declared.coded.CodedBlock.{CodedBlock}
use Rattle.intra_predict.specs.declared.place.IntraPlace.{IntraPlace}

-- y and x are its row and column in the coded block, in 4s
abbrev pub place_in : CodedBlock → ℕ → ℕ → IntraPlace
place_in b y x = record {
  row = halved b.ss_y (8 * b.row) + 4 * y;
  column = halved b.ss_x (8 * b.column) + 4 * x;
  tile_from = halved b.ss_x (8 * b.tile_column);
  block_end = halved b.ss_x (8 * (b.column + b.columns));
}
