-- What the blocks of a frame can say.
use Rattle.std.specs.Prelude.{◌≡◌, ℕ, ◌+◌, ◌≤◌, ◌⊎◌, Bool, true, false, ◌&&◌, not, List, Option, Some, None, slice_index_or, nat_lt}
use Rattle.vp9_types.specs.declared.block.BlockSize.{BlockSize}
use Rattle.vp9_types.specs.declared.block.BlockSize.TheVariants.{B4x4, B4x8, B8x4}
use Rattle.vp9_types.specs.declared.block.IntraMode.{IntraMode}
use Rattle.vp9_types.specs.declared.block.IntraMode.TheVariants.{Dc}
use Rattle.vp9_types.specs.declared.block.Modes.{Modes}
use Rattle.vp9_types.specs.declared.block.Partition.{Partition}
use Rattle.vp9_types.specs.declared.block.Partition.TheVariants.{Horizontal, Vertical, Split}
use Rattle.vp9_types.specs.declared.block.TxMode.{TxMode}
use Rattle.vp9_types.specs.declared.block.TxSize.{TxSize}
use Rattle.vp9_tables.specs.BlockTables.{greatest_of}
use Rattle.vp9_tables.specs.Numbers.{tx_number, tx_of}
use Rattle.frame_headers.specs.declared.header.Header.{Header}
use Rattle.frame_headers.specs.declared.segments.MapUpdate.{MapUpdate}
use Rattle.frame_headers.specs.declared.segments.Segmentation.{Segmentation}
use Rattle.block_geometry.specs.BlockSizes.{is_below_8x8, greatest_allowed}
use Rattle.block_geometry.specs.declared.transform_blocks.FramePlaces.{FramePlaces}
use Rattle.block_plan.specs.declared.block.BlockAt.{BlockAt}
use Rattle.block_plan.specs.declared.block.BlockInfo.{BlockInfo}
use Rattle.block_plan.specs.declared.block.Prediction.{Prediction}
use Rattle.block_plan.specs.declared.block.Prediction.TheVariants.{Intra, Inter}
use Rattle.mode_syntax.specs.Elements.{skips_segment, is_selected}
use Rattle.mode_syntax.specs.Partitions.{half_of}
use Rattle.mode_syntax.specs.declared.square_at.SquareAt.{SquareAt}

-- one of eight segments where the frame has segments and codes their map; else 0 (6.4.7)
abbrev pub CanSegment : Bool → Option MapUpdate → ℕ → Type 0
CanSegment true (Some update) segment = segment ≤ 7
CanSegment true None segment = segment ≡ 0
CanSegment false map segment = segment ≡ 0

-- a segment that skips has all its blocks skipped (6.4.8)
abbrev pub CanSkip : Segmentation → ℕ → Bool → Type 0
CanSkip segmentation segment skip = skips_segment segmentation segment ≡ true → skip ≡ true

-- a block says its transform size where the frame leaves it to its blocks, and it is 8x8 or more (6.4.10)
abbrev pub says_tx : TxMode → BlockSize → Bool
says_tx mode size = is_selected mode && not (is_below_8x8 size)

-- one up to the greatest that fits the block where the block says it; else the greatest that is allowed
abbrev pub CanTx : TxMode → BlockSize → TxSize → Type 0
CanTx mode size tx =
    (says_tx mode size ≡ true → tx_number tx ≤ greatest_of size) × (says_tx mode size ≡ false → tx ≡ tx_of (greatest_allowed mode size))

-- the mode of a quarter, in raster order
abbrev pub mode_at : List IntraMode → ℕ → IntraMode
mode_at luma quarter = slice_index_or luma quarter Dc

abbrev pub AreRows : List IntraMode → Type 0
AreRows luma = (mode_at luma 1 ≡ mode_at luma 0) × (mode_at luma 3 ≡ mode_at luma 2)

abbrev pub AreColumns : List IntraMode → Type 0
AreColumns luma = (mode_at luma 2 ≡ mode_at luma 0) × (mode_at luma 3 ≡ mode_at luma 1)

-- a block of 4x4 says a mode for each quarter, one of 4x8 two columns, one of 8x4 two rows, any other a single mode (6.4.6)
abbrev pub CanLuma : BlockSize → List IntraMode → Type 0
CanLuma B4x4 luma = Unit
CanLuma B4x8 luma = AreColumns luma
CanLuma B8x4 luma = AreRows luma
CanLuma _ luma = AreRows luma × AreColumns luma

-- any mode in chroma
abbrev pub CanIntra : BlockSize → Prediction → Type 0
CanIntra size (Intra p) = CanLuma size p.luma
CanIntra size (Inter p) = ⊥

-- What a block of an intra frame can say (6.4.6): it stands at the place that is coded, its segment isn't predicted from
-- another map, and it is predicted from its own frame.
pub record CanPutIntraFrame (header : Header) (modes : Modes) (at : BlockAt) (block : BlockInfo) : Type 0 where
  pub row : block.row ≡ at.row
  pub col : block.col ≡ at.col
  pub size : block.size ≡ at.size
  pub segment : CanSegment header.params.segmentation.enabled header.params.segmentation.map block.segment
  pub unpredicted : block.segment_predicted ≡ false
  pub skip : CanSkip header.params.segmentation block.segment block.skip
  pub tx : CanTx modes.tx_mode at.size block.tx
  pub intra : CanIntra at.size block.prediction

-- how a square can be partitioned, by whether its lower half begins inside the frame, and its right half (6.4.3): a half that
-- begins outside is left out, or the square is split; it is split where both do
abbrev pub CanPartition : Bool → Bool → Partition → Type 0
CanPartition true true partition = Unit
CanPartition false true partition = (partition ≡ Horizontal) ⊎ (partition ≡ Split)
CanPartition true false partition = (partition ≡ Vertical) ⊎ (partition ≡ Split)
CanPartition false false partition = partition ≡ Split

abbrev pub CanPartitionAt : FramePlaces → SquareAt → Partition → Type 0
CanPartitionAt frame at partition =
    CanPartition (nat_lt (at.row + half_of at.level) frame.rows) (nat_lt (at.col + half_of at.level) frame.cols) partition
