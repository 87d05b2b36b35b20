-- The modes of a block's quarters are what the code reads for its size.
use Rattle.std.proofs.Common.{◌≡◌, refl}
use Rattle.vp9_types.specs.declared.block.BlockSize.{BlockSize}
use Rattle.vp9_types.specs.declared.block.BlockSize.TheVariants.{B4x4, B4x8, B8x4, B8x8, B8x16, B16x8, B16x16, B16x32, B32x16, B32x32, B32x64, B64x32, B64x64}
use Rattle.mode_syntax.specs.Code.{four_modes, modes_by_size, one_mode, two_columns, two_rows}
use Rattle.mode_syntax.specs.IntraModes.{each_mode, default_luma_modes}
use Rattle.mode_syntax.specs.declared.intra_modes.EdgeModes.{EdgeModes}

pub luma_by_size : (size : BlockSize) (edge : EdgeModes) → default_luma_modes size edge ≡ modes_by_size size edge
unfolding default_luma_modes each_mode modes_by_size one_mode two_rows two_columns four_modes
luma_by_size B4x4 edge = refl
luma_by_size B4x8 edge = refl
luma_by_size B8x4 edge = refl
luma_by_size B8x8 edge = refl
luma_by_size B8x16 edge = refl
luma_by_size B16x8 edge = refl
luma_by_size B16x16 edge = refl
luma_by_size B16x32 edge = refl
luma_by_size B32x16 edge = refl
luma_by_size B32x32 edge = refl
luma_by_size B32x64 edge = refl
luma_by_size B64x32 edge = refl
luma_by_size B64x64 edge = refl
