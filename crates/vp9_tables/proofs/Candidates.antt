-- Each block's candidates, computed.
use Rattle.std.proofs.Common.{◌≡◌, refl, true}
use Rattle.std.specs.List.{list_all}
use Rattle.vp9_types.specs.declared.block.BlockSize.{BlockSize}
use Rattle.vp9_types.specs.declared.block.BlockSize.TheVariants.{B4x4, B4x8, B8x4, B8x8, B8x16, B16x8, B16x16, B16x32, B32x16, B32x32, B32x64, B64x32, B64x64}
use Rattle.vp9_tables.specs.Motion.{is_beside, offsets_of}

pub beside : (size : BlockSize) → list_all (is_beside size) (offsets_of size) ≡ true
beside B4x4 = refl
beside B4x8 = refl
beside B8x4 = refl
beside B8x8 = refl
beside B8x16 = refl
beside B16x8 = refl
beside B16x16 = refl
beside B16x32 = refl
beside B32x16 = refl
beside B32x32 = refl
beside B32x64 = refl
beside B64x32 = refl
beside B64x64 = refl
