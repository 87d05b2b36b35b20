-- Tests of partitions and intra modes (6.4.3 and 6.4.6 of the standard: decode_partition, intra_frame_mode_info).
use Rattle.std.specs.Prelude.{Bool, true, ◌&&◌, List, nat_eq}
use Rattle.vp9_types.specs.declared.block.BlockSize.{BlockSize}
use Rattle.vp9_types.specs.declared.block.BlockSize.TheVariants.{B4x4, B4x8, B8x4}
use Rattle.vp9_types.specs.declared.block.IntraMode.{IntraMode}
use Rattle.vp9_types.specs.declared.block.Partition.{Partition}
use Rattle.vp9_types.specs.declared.block.Partition.TheVariants.{Whole, Horizontal, Vertical, Split}
use Rattle.vp9_tables.specs.Numbers.{intra_number}
use Rattle.mode_writer.specs.ModeFits.{mode_at}

-- whether a square can be partitioned so, by whether its lower half begins inside the frame, and its right half
abbrev pub can_partition : Bool → Bool → Partition → Bool
can_partition has_rows has_cols Whole = has_rows && has_cols
can_partition has_rows has_cols Horizontal = has_cols
can_partition has_rows has_cols Vertical = has_rows
can_partition has_rows has_cols Split = true

abbrev pub same_intra : IntraMode → IntraMode → Bool
same_intra mode other = nat_eq (intra_number mode) (intra_number other)

abbrev pub are_rows : List IntraMode → Bool
are_rows luma = same_intra (mode_at luma 1) (mode_at luma 0) && same_intra (mode_at luma 3) (mode_at luma 2)

abbrev pub are_columns : List IntraMode → Bool
are_columns luma = same_intra (mode_at luma 2) (mode_at luma 0) && same_intra (mode_at luma 3) (mode_at luma 1)

-- whether a block of a size can say the modes of its quarters
abbrev pub can_luma : BlockSize → List IntraMode → Bool
can_luma B4x4 luma = true
can_luma B4x8 luma = are_columns luma
can_luma B8x4 luma = are_rows luma
can_luma size luma = are_rows luma && are_columns luma
