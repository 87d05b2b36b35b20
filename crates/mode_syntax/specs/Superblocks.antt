-- The squares of a tile (6.4.2 and 6.4.3 of the standard: decode_tile, decode_partition): its superblocks, row by row, and the
-- quarters into which a square is split.
use Rattle.std.specs.Prelude.{ℕ, ◌+◌, ◌-◌, ◌*◌, ◌/◌, ◌%◌, ◌^◌, List, map}
use Rattle.std.specs.List.{flat_map, range_with_len}
use Rattle.mode_syntax.specs.declared.square_at.SquareAt.{SquareAt}

-- so many rows and columns of superblocks of 8 places behind the first one of a tile
abbrev pub superblock_from : SquareAt → ℕ → ℕ → SquareAt
superblock_from first i j = record {
  row = first.row + 8 * i;
  col = first.col + 8 * j;
  level = 3;
  tile_from = first.tile_from;
  tile_to = first.tile_to;
}

-- so many rows of so many superblocks each, row by row from the first one on
abbrev pub superblocks_of : SquareAt → ℕ → ℕ → List SquareAt
superblocks_of first rows columns = flat_map (λ i. map (λ j. superblock_from first i j) (range_with_len 0 columns)) (range_with_len 0 rows)

-- the i-th quarter of a square, row by row
abbrev pub quarter_square : SquareAt → ℕ → SquareAt
quarter_square at i = record {
  row = at.row + 2 ^ (at.level - 1) * (i / 2);
  col = at.col + 2 ^ (at.level - 1) * (i % 2);
  level = at.level - 1;
  tile_from = at.tile_from;
  tile_to = at.tile_to;
}
