-- Tiles (6.2.13, 6.2.14 and 7.2.11 of the standard).
use Rattle.std.specs.Prelude.{ℕ, zero, suc, ◌+◌, ◌-◌, ◌*◌, ◌/◌, ◌^◌, ◌≤◌, Bool, nat_lt, nat_le, if◌then◌else◌}
use Rattle.vp9_types.specs.Sizes.{superblocks_along}
use Rattle.vp9_types.specs.Syntax.{done, ◌>>=◌}
use Rattle.frame_headers.specs.declared.field.FieldName.TheVariants as name
use Rattle.frame_headers.specs.declared.tiles.TileInfo.{TileInfo}
use Rattle.frame_headers.specs.Fields.{Table, flag_field}

-- MiCols: places of 8 samples. Sb64Cols: superblocks of 8 places
abbrev pub superblocks : ℕ → ℕ
superblocks size = superblocks_along ((size + 7) / 8)

-- the least of the numbers from n on that passes, the last of k more if none before it does
abbrev pub least : (ℕ → Bool) → ℕ → ℕ → ℕ
least test zero n = n
least test (suc k) n = if test n then n else least test k (n + 1)

-- No tile is wider than 64 superblocks. A frame has at most 1024 columns of them, so 8 is the greatest answer here and below.
unfoldable pub min_log2 : ℕ → ℕ
min_log2 columns = least (λ n. nat_le columns (64 * 2 ^ n)) 8 0

-- none is narrower than 4, unless the frame is
unfoldable pub max_log2 : ℕ → ℕ
max_log2 columns = least (λ n. nat_lt (columns / 2 ^ (n + 1)) 4) 8 0

-- twice as many columns, up to k times
unfoldable pub more_columns : ℕ → ℕ → Table ℕ
more_columns zero log2 = done log2
more_columns (suc k) log2 = do
  more ← flag_field name.IncrementTileColsLog2
  if more then more_columns k (log2 + 1) else done log2

unfoldable pub tile_columns_log2 : ℕ → Table ℕ
tile_columns_log2 columns = more_columns (max_log2 columns - min_log2 columns) (min_log2 columns)

unfoldable pub tile_rows_log2 : Table ℕ
tile_rows_log2 = do
  more ← flag_field name.TileRowsLog2
  if more then (flag_field name.IncrementTileRowsLog2 >>= λ twice. done (if twice then 2 else 1)) else done 0

unfoldable pub tile_info : ℕ → Table TileInfo
tile_info width = do
  columns ← tile_columns_log2 (superblocks width)
  rows ← tile_rows_log2
  done (record { columns_log2 = columns; rows_log2 = rows })

-- at most 256 columns and 4 rows
abbrev pub AreFewTiles : TileInfo → Type 0
AreFewTiles tiles = (tiles.columns_log2 ≤ 8) × (tiles.rows_log2 ≤ 2)
