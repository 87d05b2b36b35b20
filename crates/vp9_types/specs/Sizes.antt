-- Sizes and numbers that all layers speak of.
use Rattle.std.specs.Prelude.{ℕ, ℤ, pos, negsuc, ◌+◌, ◌-◌, ◌/◌, ◌^◌, min}
use Rattle.vp9_types.specs.declared.block.TxSize.{TxSize}
use Rattle.vp9_types.specs.declared.block.TxSize.TheVariants.{T4x4, T8x8, T16x16, T32x32}
use Rattle.vp9_types.specs.declared.shape.Depth.{Depth}
use Rattle.vp9_types.specs.Shapes.{depth_bits}

-- samples along a transform block
abbrev pub side : TxSize → ℕ
side T4x4 = 4
side T8x8 = 8
side T16x16 = 16
side T32x32 = 32

-- superblocks along so many places of 8x8 luma samples
abbrev pub superblocks_along : ℕ → ℕ
superblocks_along places = (places + 7) / 8

-- the greatest sample of a depth
abbrev pub greatest : Depth → ℕ
greatest depth = 2 ^ depth_bits depth - 1

-- Clip3(0, most, x)
abbrev pub clip : ℕ → ℤ → ℕ
clip most (pos n) = min most n
clip most (negsuc n) = 0
