-- What is read for a block's quarters is what the code reads for its size.
use Rattle.std.proofs.Common.{◌≡◌, ℕ, List, Bool, true, false, refl}
use Rattle.vp9_types.specs.declared.block.BlockSize.{BlockSize}
use Rattle.vp9_types.specs.declared.block.BlockSize.TheVariants.{B4x4, B4x8, B8x4, B8x8, B8x16, B16x8, B16x16, B16x32, B32x16, B32x32, B32x64, B64x32, B64x64}
use Rattle.block_geometry.specs.BlockSizes.{is_below_8x8}
use Rattle.block_plan.specs.declared.block.ReferenceFrames.{ReferenceFrames}
use Rattle.mv_prediction.specs.SubBlocks.{sub_block_vectors}
use Rattle.inter_modes.specs.Code.{four_coded_modes, four_quarters, coded_by_size, one_coded_mode, quarters_by_size, quarter_columns, coded_mode_columns, coded_mode_rows, quarter_rows}
use Rattle.inter_modes.specs.IntraBlocks.{each_luma_mode, luma_modes}
use Rattle.inter_modes.specs.BlockVectors.{Sources, each_quarter, quarter, quarter_vector, quarter_vectors, quarters}

pub luma_of_size : (probs : List ℕ) (size : BlockSize) → luma_modes probs size ≡ coded_by_size probs size
unfolding luma_modes each_luma_mode coded_by_size one_coded_mode coded_mode_rows coded_mode_columns four_coded_modes
luma_of_size probs B4x4 = refl
luma_of_size probs B4x8 = refl
luma_of_size probs B8x4 = refl
luma_of_size probs B8x8 = refl
luma_of_size probs B8x16 = refl
luma_of_size probs B16x8 = refl
luma_of_size probs B16x16 = refl
luma_of_size probs B16x32 = refl
luma_of_size probs B32x16 = refl
luma_of_size probs B32x32 = refl
luma_of_size probs B32x64 = refl
luma_of_size probs B64x32 = refl
luma_of_size probs B64x64 = refl

no : false ≡ true → ⊥
no e = cc

-- that at the right has both at the left before it, of which it asks the upper one alone
pub quarters_of_size : (s : Sources) (probs : List ℕ) (context : ℕ) (refs : ReferenceFrames) (size : BlockSize) → is_below_8x8 size ≡ true
    → quarters s probs context refs size ≡ quarters_by_size s probs context refs size
unfolding quarters each_quarter quarters_by_size four_quarters quarter_columns quarter_rows quarter quarter_vectors quarter_vector sub_block_vectors
quarters_of_size s probs context refs B4x4 below = refl
quarters_of_size s probs context refs B4x8 below = refl
quarters_of_size s probs context refs B8x4 below = refl
quarters_of_size s probs context refs B8x8 below = absurd (no below)
quarters_of_size s probs context refs B8x16 below = absurd (no below)
quarters_of_size s probs context refs B16x8 below = absurd (no below)
quarters_of_size s probs context refs B16x16 below = absurd (no below)
quarters_of_size s probs context refs B16x32 below = absurd (no below)
quarters_of_size s probs context refs B32x16 below = absurd (no below)
quarters_of_size s probs context refs B32x32 below = absurd (no below)
quarters_of_size s probs context refs B32x64 below = absurd (no below)
quarters_of_size s probs context refs B64x32 below = absurd (no below)
quarters_of_size s probs context refs B64x64 below = absurd (no below)
