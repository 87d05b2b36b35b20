-- The sizes of blocks in places of 4x4 and of 8x8 luma samples (section 10 of the standard: num_4x4_blocks_wide_lookup,
-- num_8x8_blocks_wide_lookup and so on). A block below 8x8 covers one place of 8x8.
use Rattle.std.specs.Prelude.{ℕ, ◌/◌, Bool, ◌&&◌, ◌||◌, max, min, nat_lt}
use Rattle.vp9_types.specs.Maps.{is_within}
use Rattle.vp9_types.specs.declared.block.BlockSize.{BlockSize}
use Rattle.vp9_types.specs.declared.block.TxMode.{TxMode}
use Rattle.vp9_tables.specs.Numbers.{tx_mode_number}
use Rattle.vp9_tables.specs.BlockTables.{width_of, height_of, greatest_of}

abbrev pub width_4 : BlockSize → ℕ
width_4 size = width_of size / 4

abbrev pub height_4 : BlockSize → ℕ
height_4 size = height_of size / 4

abbrev pub width_8 : BlockSize → ℕ
width_8 size = max 1 (width_of size / 8)

abbrev pub height_8 : BlockSize → ℕ
height_8 size = max 1 (height_of size / 8)

abbrev pub is_below_8x8 : BlockSize → Bool
is_below_8x8 size = nat_lt (width_of size) 8 || nat_lt (height_of size) 8

-- a place of 8x8 is one of a block's, which begins at a row and column of such places
abbrev pub is_covered : ℕ → ℕ → BlockSize → ℕ → ℕ → Bool
is_covered row col size r c = is_within row (height_8 size) r && is_within col (width_8 size) c

-- The number of the greatest transform that a block may have in a frame of a mode: the lesser of the mode's and the block's.
abbrev pub greatest_allowed : TxMode → BlockSize → ℕ
greatest_allowed mode size = min (min 3 (tx_mode_number mode)) (greatest_of size)
