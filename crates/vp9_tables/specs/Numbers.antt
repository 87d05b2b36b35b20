-- The numbers of what tables are indexed by, in the order of the standard (section 3).
use Rattle.std.specs.Prelude.{ℕ, Bool, true, false, nat_eq, if◌then◌else◌}
use Rattle.vp9_types.specs.declared.shape.Depth.{Depth}
use Rattle.vp9_types.specs.declared.shape.Depth.TheVariants.{Eight, Ten, Twelve}
use Rattle.vp9_types.specs.declared.block.TxSize.{TxSize}
use Rattle.vp9_types.specs.declared.block.TxSize.TheVariants.{T4x4, T8x8, T16x16, T32x32}
use Rattle.vp9_types.specs.declared.block.TxMode.{TxMode}
use Rattle.vp9_types.specs.declared.block.TxMode.TheVariants.{Only4x4, UpTo8x8, UpTo16x16, UpTo32x32, Selected}
use Rattle.vp9_types.specs.declared.block.IntraMode.{IntraMode}
use Rattle.vp9_types.specs.declared.block.IntraMode.TheVariants.{Dc, V, H, D45, D135, D117, D153, D207, D63, Tm}
use Rattle.vp9_types.specs.declared.block.InterMode.{InterMode}
use Rattle.vp9_types.specs.declared.block.InterMode.TheVariants.{Nearest, Near, Zero, New}
use Rattle.vp9_types.specs.declared.block.InterpFilter.{InterpFilter}
use Rattle.vp9_types.specs.declared.block.InterpFilter.TheVariants.{Regular, Smooth, Sharp, Bilinear}
use Rattle.vp9_types.specs.declared.block.Partition.{Partition}
use Rattle.vp9_types.specs.declared.block.Partition.TheVariants.{Whole, Horizontal, Vertical, Split}
use Rattle.vp9_types.specs.declared.block.BlockSize.{BlockSize}
use Rattle.vp9_types.specs.declared.block.BlockSize.TheVariants.{B4x4, B4x8, B8x4, B8x8, B8x16, B16x8, B16x16, B16x32, B32x16, B32x32, B32x64, B64x32, B64x64}
use Rattle.vp9_types.specs.declared.block.ReferenceFrame.{ReferenceFrame}
use Rattle.vp9_types.specs.declared.block.ReferenceFrame.TheVariants.{Last, Golden, Altref}
use Rattle.vp9_tables.specs.declared.kinds.Component.{Component}
use Rattle.vp9_tables.specs.declared.kinds.Component.TheVariants.{Row, Column}
use Rattle.vp9_tables.specs.declared.kinds.NeighbourKind.{NeighbourKind}
use Rattle.vp9_tables.specs.declared.kinds.NeighbourKind.TheVariants.{Missing, Intra, SingleLast, SingleGolden, SingleAltref, CompoundLast, CompoundGolden, CompoundAltref}
use Rattle.vp9_tables.specs.declared.kinds.ReferenceBool.{ReferenceBool}
use Rattle.vp9_tables.specs.declared.kinds.ReferenceBool.TheVariants.{IsCompound, CompoundVariable, SingleFirst, SingleSecond}

abbrev pub depth_number : Depth → ℕ
depth_number Eight = 0
depth_number Ten = 1
depth_number Twelve = 2

abbrev pub tx_number : TxSize → ℕ
tx_number T4x4 = 0
tx_number T8x8 = 1
tx_number T16x16 = 2
tx_number T32x32 = 3

-- the transform size of a number
abbrev pub tx_of : ℕ → TxSize
tx_of n = if nat_eq n 0 then T4x4 else (if nat_eq n 1 then T8x8 else (if nat_eq n 2 then T16x16 else T32x32))

abbrev pub tx_mode_number : TxMode → ℕ
tx_mode_number Only4x4 = 0
tx_mode_number UpTo8x8 = 1
tx_mode_number UpTo16x16 = 2
tx_mode_number UpTo32x32 = 3
tx_mode_number Selected = 4

abbrev pub intra_number : IntraMode → ℕ
intra_number Dc = 0
intra_number V = 1
intra_number H = 2
intra_number D45 = 3
intra_number D135 = 4
intra_number D117 = 5
intra_number D153 = 6
intra_number D207 = 7
intra_number D63 = 8
intra_number Tm = 9

abbrev pub inter_number : InterMode → ℕ
inter_number Nearest = 0
inter_number Near = 1
inter_number Zero = 2
inter_number New = 3

abbrev pub filter_number : InterpFilter → ℕ
filter_number Regular = 0
filter_number Smooth = 1
filter_number Sharp = 2
filter_number Bilinear = 3

abbrev pub partition_number : Partition → ℕ
partition_number Whole = 0
partition_number Horizontal = 1
partition_number Vertical = 2
partition_number Split = 3

abbrev pub block_number : BlockSize → ℕ
block_number B4x4 = 0
block_number B4x8 = 1
block_number B8x4 = 2
block_number B8x8 = 3
block_number B8x16 = 4
block_number B16x8 = 5
block_number B16x16 = 6
block_number B16x32 = 7
block_number B32x16 = 8
block_number B32x32 = 9
block_number B32x64 = 10
block_number B64x32 = 11
block_number B64x64 = 12

abbrev pub reference_number : ReferenceFrame → ℕ
reference_number Last = 0
reference_number Golden = 1
reference_number Altref = 2

abbrev pub component_number : Component → ℕ
component_number Row = 0
component_number Column = 1

abbrev pub neighbour_number : NeighbourKind → ℕ
neighbour_number Missing = 0
neighbour_number Intra = 1
neighbour_number SingleLast = 2
neighbour_number SingleGolden = 3
neighbour_number SingleAltref = 4
neighbour_number CompoundLast = 5
neighbour_number CompoundGolden = 6
neighbour_number CompoundAltref = 7

abbrev pub reference_bool_number : ReferenceBool → ℕ
reference_bool_number IsCompound = 0
reference_bool_number CompoundVariable = 1
reference_bool_number SingleFirst = 2
reference_bool_number SingleSecond = 3

abbrev pub flag_number : Bool → ℕ
flag_number true = 1
flag_number false = 0
