-- How many transform blocks a block can have in a plane.
use Rattle.std.proofs.Common.{◌≤◌, ◌*◌, ℕ, Bool, true, false, arith}
use Rattle.std.specs.Int.{div_ceil}
use Rattle.vp9_types.specs.declared.block.BlockSize.{BlockSize}
use Rattle.vp9_types.specs.declared.block.BlockSize.TheVariants.{B4x4, B4x8, B8x4, B8x8, B8x16, B16x8, B16x16, B16x32, B32x16, B32x32, B32x64, B64x32, B64x64}
use Rattle.vp9_types.specs.declared.block.TxSize.{TxSize}
use Rattle.vp9_types.specs.declared.block.TxSize.TheVariants.{T4x4, T8x8, T16x16, T32x32}
use Rattle.vp9_tables.specs.BlockTables.{width_of, height_of}
use Rattle.block_geometry.specs.TransformBlocks.{starts, tx_step, plane_side}

pub wide : (ss : Bool) (size : BlockSize) → plane_side ss (width_of size) ≤ 16
wide true B4x4 = omega arith
wide true B4x8 = omega arith
wide true B8x4 = omega arith
wide true B8x8 = omega arith
wide true B8x16 = omega arith
wide true B16x8 = omega arith
wide true B16x16 = omega arith
wide true B16x32 = omega arith
wide true B32x16 = omega arith
wide true B32x32 = omega arith
wide true B32x64 = omega arith
wide true B64x32 = omega arith
wide true B64x64 = omega arith
wide false B4x4 = omega arith
wide false B4x8 = omega arith
wide false B8x4 = omega arith
wide false B8x8 = omega arith
wide false B8x16 = omega arith
wide false B16x8 = omega arith
wide false B16x16 = omega arith
wide false B16x32 = omega arith
wide false B32x16 = omega arith
wide false B32x32 = omega arith
wide false B32x64 = omega arith
wide false B64x32 = omega arith
wide false B64x64 = omega arith

pub high : (ss : Bool) (size : BlockSize) → plane_side ss (height_of size) ≤ 16
high true B4x4 = omega arith
high true B4x8 = omega arith
high true B8x4 = omega arith
high true B8x8 = omega arith
high true B8x16 = omega arith
high true B16x8 = omega arith
high true B16x16 = omega arith
high true B16x32 = omega arith
high true B32x16 = omega arith
high true B32x32 = omega arith
high true B32x64 = omega arith
high true B64x32 = omega arith
high true B64x64 = omega arith
high false B4x4 = omega arith
high false B4x8 = omega arith
high false B8x4 = omega arith
high false B8x8 = omega arith
high false B8x16 = omega arith
high false B16x8 = omega arith
high false B16x16 = omega arith
high false B16x32 = omega arith
high false B32x16 = omega arith
high false B32x32 = omega arith
high false B32x64 = omega arith
high false B64x32 = omega arith
high false B64x64 = omega arith

-- so many starts of a side do not reach further than 16
pub small_side : (tx : TxSize) (side n : ℕ) → side ≤ 16 → n ≤ div_ceil side (tx_step tx) → tx_step tx * n ≤ 16
small_side T4x4 side n low few = omega arith
small_side T8x8 side n low few = omega arith
small_side T16x16 side n low few = omega arith
small_side T32x32 side n low few = omega arith
