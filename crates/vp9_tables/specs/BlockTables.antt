-- Sizes of blocks and of their transforms (section 10 of the standard).
use Rattle.std.specs.Prelude.{ℕ, ◌+◌, ◌*◌, ◌/◌, Bool, ◌&&◌, ◌||◌, not, Option, None, Some, [], min, slice_index, get_or, nat_eq, nat_le, if◌then◌else◌}
use Rattle.std.specs.List.{list_any}
use Rattle.vp9_types.specs.Shapes.{halved}
use Rattle.vp9_types.specs.declared.block.BlockSize.{BlockSize}
use Rattle.vp9_types.specs.declared.block.IntraMode.{IntraMode}
use Rattle.vp9_types.specs.declared.block.IntraMode.TheVariants.{V, H, D135, D117, D153, D207, D63, Tm}
use Rattle.vp9_types.specs.declared.block.TxType.{TxType}
use Rattle.vp9_types.specs.declared.block.TxType.TheVariants.{DctDct, AdstDct, DctAdst, AdstAdst}
use Rattle.vp9_types.specs.declared.block.Partition.{Partition}
use Rattle.vp9_types.specs.declared.block.Partition.TheVariants.{Whole, Horizontal, Vertical, Split}
use Rattle.vp9_types.specs.declared.block.TxSize.{TxSize}
use Rattle.vp9_tables.specs.Numbers.{block_number, tx_number, flag_number}
use Rattle.vp9_tables.specs.declared.data.blocks.TheConstants.{BLOCK_SIZES}

-- in luma samples
abbrev pub width_of : BlockSize → ℕ
width_of size = slice_index (get_or BLOCK_SIZES (block_number size) []) 0

abbrev pub height_of : BlockSize → ℕ
height_of size = slice_index (get_or BLOCK_SIZES (block_number size) []) 1

abbrev pub has_size : BlockSize → ℕ → ℕ → Bool
has_size size width height = nat_eq (width_of size) width && nat_eq (height_of size) height

abbrev pub part_width : Partition → ℕ → ℕ
part_width Whole width = width
part_width Horizontal width = width
part_width Vertical width = width / 2
part_width Split width = width / 2

abbrev pub part_height : Partition → ℕ → ℕ
part_height Whole height = height
part_height Horizontal height = height / 2
part_height Vertical height = height
part_height Split height = height / 2

-- only square blocks from 8x8 on have parts
abbrev pub is_part : Partition → BlockSize → Option BlockSize → Bool
is_part partition size (Some part) =
    has_size part (part_width partition (width_of size)) (part_height partition (height_of size))
is_part partition size None = not (nat_eq (width_of size) (height_of size) && nat_le 8 (width_of size))

-- the block of that size, if there is one
abbrev pub is_in_chroma : BlockSize → Bool → Bool → Option BlockSize → Bool
is_in_chroma size ss_x ss_y (Some part) = has_size part (halved ss_x (width_of size)) (halved ss_y (height_of size))
is_in_chroma size ss_x ss_y None =
    not (list_any (λ row. nat_eq (slice_index row 0) (halved ss_x (width_of size)) && nat_eq (slice_index row 1) (halved ss_y (height_of size))) BLOCK_SIZES)

-- the number of the greatest square transform within a width and a height
abbrev pub greatest_within : ℕ → ℕ → ℕ
greatest_within width height =
    let side = min width height in
    if nat_le 32 side then 3 else (if nat_le 16 side then 2 else (if nat_le 8 side then 1 else 0))

abbrev pub greatest_of : BlockSize → ℕ
greatest_of size = greatest_within (width_of size) (height_of size)

-- 4x4 below 8x8, else the luma's transform as far as the plane's block holds it; tx fits the block
abbrev pub uv_number : BlockSize → TxSize → Bool → Bool → ℕ
uv_number size tx ss_x ss_y =
    if nat_eq (greatest_of size) 0 then 0
    else min (tx_number tx) (greatest_within (halved ss_x (width_of size)) (halved ss_y (height_of size)))

abbrev pub is_uv : BlockSize → TxSize → Bool → Bool → TxSize → Bool
is_uv size tx ss_x ss_y uv = not (nat_le (tx_number tx) (greatest_of size)) || nat_eq (tx_number uv) (uv_number size tx ss_x ss_y)

abbrev pub subsampling_place : BlockSize → Bool → Bool → ℕ
subsampling_place size ss_x ss_y = 4 * block_number size + 2 * flag_number ss_x + flag_number ss_y

abbrev pub uv_place : BlockSize → TxSize → Bool → Bool → ℕ
uv_place size tx ss_x ss_y = 16 * block_number size + 4 * tx_number tx + 2 * flag_number ss_x + flag_number ss_y

-- after modes that predict downwards columns have the ADST, after those that predict to the right rows
abbrev pub tx_type_of : IntraMode → TxType
tx_type_of V = AdstDct
tx_type_of D117 = AdstDct
tx_type_of D63 = AdstDct
tx_type_of H = DctAdst
tx_type_of D153 = DctAdst
tx_type_of D207 = DctAdst
tx_type_of D135 = AdstAdst
tx_type_of Tm = AdstAdst
tx_type_of _ = DctDct
