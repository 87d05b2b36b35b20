-- Candidates of vectors and contexts of references (6.4, 9.3 and section 10 of the standard).
use Rattle.std.specs.Prelude.{ℕ, ◌+◌, ◌*◌, ◌/◌, ℤ, pos, Bool, ◌&&◌, ◌||◌, List, [], max, slice_index, slice_index_or, slice_range, get_or, int_lt, nat_eq}
use Rattle.vp9_types.specs.declared.block.BlockSize.{BlockSize}
use Rattle.vp9_types.specs.declared.block.ReferenceFrame.{ReferenceFrame}
use Rattle.vp9_tables.specs.declared.kinds.NeighbourKind.{NeighbourKind}
use Rattle.vp9_tables.specs.declared.kinds.ReferenceBool.{ReferenceBool}
use Rattle.vp9_tables.specs.Numbers.{block_number, reference_bool_number, reference_number, neighbour_number}
use Rattle.vp9_tables.specs.declared.data.blocks.TheConstants.{BLOCK_SIZES}
use Rattle.vp9_tables.specs.declared.data.motion.TheConstants.{MV_REF_OFFSETS}

-- the rows and columns of 8x8 blocks that a block lies in
abbrev pub rows_of_block : BlockSize → ℕ
rows_of_block size = max 1 (slice_index (get_or BLOCK_SIZES (block_number size) []) 1 / 8)

abbrev pub columns_of_block : BlockSize → ℕ
columns_of_block size = max 1 (slice_index (get_or BLOCK_SIZES (block_number size) []) 0 / 8)

-- above or on the left of the block, and within its span or before it
abbrev pub is_beside : BlockSize → List ℤ → Bool
is_beside size offset =
    let row = slice_index_or offset 0 (pos 0) in
    let column = slice_index_or offset 1 (pos 0) in
    (int_lt row (pos 0) || int_lt column (pos 0))
    && (int_lt row (pos (rows_of_block size)) && int_lt column (pos (columns_of_block size)))

abbrev pub offsets_of : BlockSize → List (List ℤ)
offsets_of size = slice_range MV_REF_OFFSETS (8 * block_number size) (8 * block_number size + 8)

abbrev pub context_place : ReferenceBool → ReferenceFrame → NeighbourKind → NeighbourKind → ℕ
context_place which fixed above left =
    64 * (3 * reference_bool_number which + reference_number fixed) + 8 * neighbour_number above + neighbour_number left

-- what the mode of a neighbour counts, and 0 where there is none
abbrev pub is_counter : ℕ → Bool
is_counter n = nat_eq n 0 || (nat_eq n 1 || (nat_eq n 3 || nat_eq n 9))
