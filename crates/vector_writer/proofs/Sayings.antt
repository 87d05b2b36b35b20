-- What the quarters of a block say.
use Rattle.std.proofs.Common.{◌≡◌, ℕ, ◌<◌, Bool, true, false, List, refl, sym}
use Rattle.vp9_types.specs.declared.block.BlockSize.{BlockSize}
use Rattle.vp9_types.specs.declared.block.BlockSize.TheVariants.{B4x4, B4x8, B8x4, B8x8, B8x16, B16x8, B16x16, B16x32, B32x16, B32x32, B32x64, B64x32, B64x64}
use Rattle.block_geometry.specs.BlockSizes.{is_below_8x8}
use Rattle.block_plan.specs.declared.block.Mv.{Mv}
use Rattle.vector_writer.specs.VectorFits.{CanSayVectors, quarter_saying}
use Rattle.vector_writer.specs.SaidVectors.{symbols_at}
use Rattle.vector_writer.specs.declared.symbols.InterSymbols.{InterSymbols}

-- each quarter's vectors can be said
abbrev pub SayAll : Bool → List Mv → InterSymbols → BlockSize → Type 0
SayAll allowed best symbols size = (k : ℕ) → k < 4 → CanSayVectors allowed best symbols.references (symbols_at symbols (quarter_saying size k))

-- by the best vectors as the code has them, and by the quarter that says a quarter's
pub say : (allowed : Bool) (best found : List Mv) (symbols : InterSymbols) (size : BlockSize) (k q : ℕ) → SayAll allowed best symbols size
    → found ≡ best → k < 4 → quarter_saying size k ≡ q → CanSayVectors allowed found symbols.references (symbols_at symbols q)
say allowed best found symbols size k q all is low saying = rw (is, sym saying) (all k low)

no : false ≡ true → ⊥
no e = cc

-- what is left below 8x8 are blocks of 4x4
pub each_own : (size : BlockSize) (k : ℕ) → is_below_8x8 size ≡ true → (size ≡ B4x8 → ⊥) → (size ≡ B8x4 → ⊥) → quarter_saying size k ≡ k
each_own B4x4 k below a b = refl
each_own B4x8 k below a b = absurd (a refl)
each_own B8x4 k below a b = absurd (b refl)
each_own B8x8 k below a b = absurd (no below)
each_own B8x16 k below a b = absurd (no below)
each_own B16x8 k below a b = absurd (no below)
each_own B16x16 k below a b = absurd (no below)
each_own B16x32 k below a b = absurd (no below)
each_own B32x16 k below a b = absurd (no below)
each_own B32x32 k below a b = absurd (no below)
each_own B32x64 k below a b = absurd (no below)
each_own B64x32 k below a b = absurd (no below)
each_own B64x64 k below a b = absurd (no below)
