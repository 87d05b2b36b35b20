-- What inter blocks can say (6.4.16 to 6.4.20 of the standard: inter_block_mode_info to read_mv_component).
use Rattle.std.specs.Prelude.{◌≡◌, ◌≢◌, ℕ, ◌*◌, ◌/◌, ◌%◌, ◌<◌, ◌≤◌, ℤ, unsigned_abs, Bool, true, false, ◌&&◌, List, IfSome}
use Rattle.vp9_types.specs.declared.block.BlockSize.{BlockSize}
use Rattle.vp9_types.specs.declared.block.BlockSize.TheVariants.{B4x4, B4x8, B8x4}
use Rattle.vp9_types.specs.declared.block.InterMode.{InterMode}
use Rattle.vp9_types.specs.declared.block.InterMode.TheVariants.{Zero, New}
use Rattle.vp9_types.specs.declared.block.InterpFilter.{InterpFilter}
use Rattle.vp9_types.specs.declared.block.InterpFilter.TheVariants.{Bilinear}
use Rattle.frame_headers.specs.declared.header.FrameFilter.{FrameFilter}
use Rattle.frame_headers.specs.declared.header.FrameFilter.TheVariants.{Fixed, Switchable}
use Rattle.block_geometry.specs.BlockSizes.{is_below_8x8}
use Rattle.block_plan.specs.BlockMvs.{vector_at}
use Rattle.block_plan.specs.declared.block.Mv.{Mv}
use Rattle.block_plan.specs.declared.block.ReferenceFrames.{ReferenceFrames}
use Rattle.mv_prediction.specs.Vectors.{is_short_vector}
use Rattle.inter_modes.specs.BlockVectors.{Sources, best_mv}
use Rattle.vector_writer.specs.SaidVectors.{mode_of_part, symbols_at}
use Rattle.vector_writer.specs.declared.symbols.InterSymbols.{InterSymbols}
use Rattle.vector_writer.specs.declared.symbols.QuarterSymbols.{QuarterSymbols}

-- A component is 0, or is said by a class from 0 to 10: at most 16384. The bit of high precision counts as 1 where it isn't
-- read, so that sizes are even then.
pub record IsDifference (precise : Bool) (component : ℤ) : Type 0 where
  pub most : unsigned_abs component ≤ 16384
  pub even : precise ≡ false → unsigned_abs component % 2 ≡ 0

pub record CanDiffer (precise : Bool) (difference : Mv) : Type 0 where
  pub row : IsDifference precise difference.row
  pub column : IsDifference precise difference.column

-- a new vector's difference from the best one can be said
abbrev pub CanBeNew : Bool → InterMode → Mv → Mv → Type 0
CanBeNew allowed mode best difference = mode ≡ New → CanDiffer (allowed && is_short_vector best) difference

-- of a quarter or a whole block: of each reference, by the best vectors
pub record CanSayVectors (allowed : Bool) (best : List Mv) (refs : ReferenceFrames) (said : QuarterSymbols) : Type 0 where
  pub first : CanBeNew allowed said.mode (vector_at best 0) (vector_at said.differences 0)
  pub second : IfSome refs.second (λ _. CanBeNew allowed said.mode (vector_at best 1) (vector_at said.differences 1))

-- the frame's filter, or one of the three that a block can name
abbrev pub CanFilter : FrameFilter → InterpFilter → Type 0
CanFilter (Fixed f) filter = f ≡ filter
CanFilter Switchable filter = filter ≢ Bilinear

-- By which quarter's symbols a quarter is said: its own in blocks of 4x4, the one above it in 4x8, the one at its left in 8x4,
-- and the first one's from 8x8 on.
abbrev pub quarter_saying : BlockSize → ℕ → ℕ
quarter_saying B4x4 k = k
quarter_saying B4x8 k = k % 2
quarter_saying B8x4 k = 2 * (k / 2)
quarter_saying size k = 0

-- The mode of a block of 8x8 or more isn't read in a segment that skips: it is zero.
pub record CanSayInter (s : Sources) (skips : Bool) (filter : FrameFilter) (symbols : InterSymbols) : Type 0 where
  pub named : CanFilter filter symbols.filter
  pub same : (k : ℕ) → k < 4 → mode_of_part symbols.modes k ≡ mode_of_part symbols.modes (quarter_saying s.search.at.size k)
  pub skipped : is_below_8x8 s.search.at.size ≡ false → skips ≡ true → mode_of_part symbols.modes 0 ≡ Zero
  pub vectors : (k : ℕ) → k < 4 → CanSayVectors s.allowed (best_mv s symbols.references) symbols.references (symbols_at symbols (quarter_saying s.search.at.size k))
