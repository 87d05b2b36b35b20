-- The squares that are split, and what they are split into (6.4.3 and 9.3.1 of the standard). A square of 8x8 samples has
-- the level 0, one of 64x64 the level 3: a square of level n has 2 ^ n places of 8x8 a side.
use Rattle.std.specs.Prelude.{ℕ, ◌+◌, ◌*◌, List, nat_eq, nat_le, nat_lt, if◌then◌else◌}
use Rattle.std.specs.List.{list_any}
use Rattle.vp9_types.specs.declared.block.BlockSize.{BlockSize}
use Rattle.vp9_types.specs.declared.block.BlockSize.TheVariants.{B4x4, B4x8, B8x4, B8x8, B8x16, B16x8, B16x16, B16x32, B32x16, B32x32, B32x64, B64x32, B64x64}
use Rattle.vp9_types.specs.declared.block.Partition.{Partition}
use Rattle.vp9_types.specs.declared.block.Partition.TheVariants.{Whole, Horizontal, Vertical, Split}
use Rattle.vp9_tables.specs.Numbers.{flag_number}
use Rattle.vp9_tables.specs.BlockTables.{width_of}
use Rattle.block_geometry.specs.BlockSizes.{width_4, height_4}

abbrev pub by_level : BlockSize → BlockSize → BlockSize → BlockSize → ℕ → BlockSize
by_level zeroth first second third level =
    if nat_eq level 0 then zeroth else (if nat_eq level 1 then first else (if nat_eq level 2 then second else third))

abbrev pub square : ℕ → BlockSize
square level = by_level B8x8 B16x16 B32x32 B64x64 level

-- the size of a square's parts
abbrev pub part_size : Partition → ℕ → BlockSize
part_size Whole level = square level
part_size Horizontal level = by_level B8x4 B16x8 B32x16 B64x32 level
part_size Vertical level = by_level B4x8 B8x16 B16x32 B32x64 level
part_size Split level = by_level B4x4 B8x8 B16x16 B32x32 level

-- the level of the least square that is as wide as the block
abbrev pub level_of : BlockSize → ℕ
level_of size =
    if nat_le (width_of size) 8 then 0 else (if nat_le (width_of size) 16 then 1 else (if nat_le (width_of size) 32 then 2 else 3))

-- The context of a square's partition: a block above it along its span is narrower, one at its left is lower. Widths and
-- heights are in 4s; one of 16, the greatest there is, stands where there is no block.
abbrev pub partition_context : BlockSize → List ℕ → List ℕ → ℕ
partition_context size above left =
    4 * level_of size
    + 2 * flag_number (list_any (λ height. nat_lt height (height_4 size)) left)
    + flag_number (list_any (λ width. nat_lt width (width_4 size)) above)
