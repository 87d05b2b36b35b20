-- The walks over the parts of a block draw what the code draws for its size.
use Rattle.std.proofs.Common.{◌≡◌, ℕ, Bool, true, false, List, refl}
use Rattle.vp9_types.specs.declared.block.BlockSize.{BlockSize}
use Rattle.vp9_types.specs.declared.block.BlockSize.TheVariants.{B4x4, B4x8, B8x4, B8x8, B8x16, B16x8, B16x16, B16x32, B32x16, B32x32, B32x64, B64x32, B64x64}
use Rattle.block_geometry.specs.BlockSizes.{is_below_8x8}
use Rattle.block_plan.specs.declared.block.Mv.{Mv}
use Rattle.block_plan.specs.declared.block.ReferenceFrames.{ReferenceFrames}
use Rattle.drawn_symbols.specs.Code.{draw_columns, draw_four, draw_four_modes, draw_one_mode, draw_rows, draw_two_columns, draw_two_rows, luma_drawn_by_size, quarters_drawn_by_size}
use Rattle.drawn_symbols.specs.InterDraws.{draw_each_quarter, draw_quarters}
use Rattle.drawn_symbols.specs.IntraDraws.{draw_each_mode, draw_luma}

pub luma_is_by_size : (size : BlockSize) (x : ℕ) → draw_luma size x ≡ luma_drawn_by_size size x
unfolding draw_luma draw_each_mode luma_drawn_by_size draw_one_mode draw_two_rows draw_two_columns draw_four_modes
luma_is_by_size B4x4 x = refl
luma_is_by_size B4x8 x = refl
luma_is_by_size B8x4 x = refl
luma_is_by_size B8x8 x = refl
luma_is_by_size B8x16 x = refl
luma_is_by_size B16x8 x = refl
luma_is_by_size B16x16 x = refl
luma_is_by_size B16x32 x = refl
luma_is_by_size B32x16 x = refl
luma_is_by_size B32x32 x = refl
luma_is_by_size B32x64 x = refl
luma_is_by_size B64x32 x = refl
luma_is_by_size B64x64 x = refl

no : false ≡ true → ⊥
no e = cc

pub quarters_are_by_size : (allowed : Bool) (best : List Mv) (refs : ReferenceFrames) (size : BlockSize) (x : ℕ) → is_below_8x8 size ≡ true
    → draw_quarters allowed best refs size x ≡ quarters_drawn_by_size allowed best refs size x
unfolding draw_quarters draw_each_quarter quarters_drawn_by_size draw_four draw_columns draw_rows
quarters_are_by_size allowed best refs B4x4 x below = refl
quarters_are_by_size allowed best refs B4x8 x below = refl
quarters_are_by_size allowed best refs B8x4 x below = refl
quarters_are_by_size allowed best refs B8x8 x below = absurd (no below)
quarters_are_by_size allowed best refs B8x16 x below = absurd (no below)
quarters_are_by_size allowed best refs B16x8 x below = absurd (no below)
quarters_are_by_size allowed best refs B16x16 x below = absurd (no below)
quarters_are_by_size allowed best refs B16x32 x below = absurd (no below)
quarters_are_by_size allowed best refs B32x16 x below = absurd (no below)
quarters_are_by_size allowed best refs B32x32 x below = absurd (no below)
quarters_are_by_size allowed best refs B32x64 x below = absurd (no below)
quarters_are_by_size allowed best refs B64x32 x below = absurd (no below)
quarters_are_by_size allowed best refs B64x64 x below = absurd (no below)
