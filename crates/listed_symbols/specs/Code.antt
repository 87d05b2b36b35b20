-- What the calls of the code answer.
use Rattle.std.specs.Prelude.{◌≡◌, ℕ, ◌<◌, Bool, true, false, Option, Some, None}
use Rattle.vp9_types.specs.declared.block.BlockSize.{BlockSize}
use Rattle.vp9_types.specs.declared.block.TxMode.{TxMode}
use Rattle.frame_headers.specs.declared.segments.Segmentation.{Segmentation}
use Rattle.inter_modes.specs.declared.starts.BlockStart.{BlockStart}
use Rattle.mode_writer.specs.ModeFits.{CanSegment, CanSkip, CanTx}
use Rattle.vp9_types.specs.declared.block.InterMode.TheVariants.{Zero}
use Rattle.frame_headers.specs.declared.header.FrameFilter.{FrameFilter}
use Rattle.block_geometry.specs.BlockSizes.{is_below_8x8}
use Rattle.inter_writer.specs.InterFits.{CanStart, IsSegment}
use Rattle.vector_writer.specs.VectorFits.{CanFilter, CanSayVectors, quarter_saying}
use Rattle.vector_writer.specs.SaidVectors.{mode_of_part, symbols_at}
use Rattle.vector_writer.specs.declared.symbols.InterSymbols.{InterSymbols}
use Rattle.listed_symbols.specs.declared.vectors.Best.{Best}

-- a block of an intra frame can say this first
pub record CanStartIntra (segmentation : Segmentation) (mode : TxMode) (size : BlockSize) (start : BlockStart) : Type 0 where
  pub intra : start.is_inter ≡ false
  pub unpredicted : start.segment.predicted ≡ false
  pub segment : CanSegment segmentation.enabled segmentation.map start.segment.id
  pub skip : CanSkip segmentation start.segment.id start.skip
  pub tx : CanTx mode size start.tx

-- something is made, or can't be
abbrev pub IsMade : {A : Type 0} → Option A → Bool → A → Type 0
IsMade made true x = made ≡ Some x
IsMade made false x = made ≡ None

---- Inter frames ----

-- a block of an inter frame can say this first
pub record CanStartInter (segmentation : Segmentation) (mode : TxMode) (size : BlockSize) (least : ℕ) (start : BlockStart) : Type 0 where
  pub segment : IsSegment segmentation least start.segment
  pub first : CanStart segmentation mode size start

-- the k-th quarter can be said
pub record CanSayQuarter (b : Best) (q : InterSymbols) (k : ℕ) : Type 0 where
  pub same : mode_of_part q.modes k ≡ mode_of_part q.modes (quarter_saying b.size k)
  pub vectors : CanSayVectors b.allowed b.vectors q.references (symbols_at q (quarter_saying b.size k))

abbrev pub CanSayQuarters : Best → InterSymbols → Type 0
CanSayQuarters b q = (k : ℕ) → k < 4 → CanSayQuarter b q k

-- what stands behind the references can be said
pub record CanSayBehind (b : Best) (skips : Bool) (filter : FrameFilter) (q : InterSymbols) : Type 0 where
  pub named : CanFilter filter q.filter
  pub skipped : is_below_8x8 b.size ≡ false → skips ≡ true → mode_of_part q.modes 0 ≡ Zero
  pub quarters : CanSayQuarters b q
