-- Transform sizes by block.
use Rattle.std.proofs.Common.{◌≡◌, ℕ, ◌*◌, ◌≤◌, false, arith}
use Rattle.vp9_types.specs.declared.block.BlockSize.{BlockSize}
use Rattle.vp9_types.specs.declared.block.BlockSize.TheVariants.{B4x4, B4x8, B8x4, B8x8, B8x16, B16x8, B16x16, B16x32, B32x16, B32x32, B32x64, B64x32, B64x64}
use Rattle.vp9_tables.specs.Numbers.{tx_number, tx_of}
use Rattle.vp9_tables.specs.BlockTables.{greatest_of}
use Rattle.block_geometry.specs.BlockSizes.{is_below_8x8}

-- from 8x8 on a block holds more than one transform size
pub some_transform : (size : BlockSize) → is_below_8x8 size ≡ false → 1 ≤ tx_number (tx_of (greatest_of size))
some_transform B4x4 h = absurd cc
some_transform B4x8 h = absurd cc
some_transform B8x4 h = absurd cc
some_transform B8x8 h = omega arith
some_transform B8x16 h = omega arith
some_transform B16x8 h = omega arith
some_transform B16x16 h = omega arith
some_transform B16x32 h = omega arith
some_transform B32x16 h = omega arith
some_transform B32x32 h = omega arith
some_transform B32x64 h = omega arith
some_transform B64x32 h = omega arith
some_transform B64x64 h = omega arith

pub one_of : (n : ℕ) → 1 * n ≡ n
one_of n = omega arith
