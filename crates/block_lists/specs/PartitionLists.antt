-- What the partition of a square is put as (6.4.3 of the standard; 9.3).
use Rattle.std.specs.Prelude.{ℕ, ◌+◌, Bool, true, false, ◌&&◌, List, [], slice_index, nat_lt, if◌then◌else◌}
use Rattle.vp9_types.specs.declared.block.Partition.{Partition}
use Rattle.vp9_types.specs.declared.block.Partition.TheVariants.{Whole, Horizontal, Vertical, Split}
use Rattle.vp9_tables.specs.Numbers.{partition_number}
use Rattle.vp9_tables.specs.SymbolTrees.{partition_tree}
use Rattle.bool_lists.specs.BoolLists.{BoolList, one_bool, tree_bools}
use Rattle.block_geometry.specs.declared.transform_blocks.FramePlaces.{FramePlaces}
use Rattle.block_plan.specs.declared.block.BlockInfo.{BlockInfo}
use Rattle.mode_syntax.specs.Partitions.{half_of, partition_probs, square_context}
use Rattle.mode_syntax.specs.declared.square_at.SquareAt.{SquareAt}

abbrev pub is_split : Partition → Bool
is_split Whole = false
is_split Horizontal = false
is_split Vertical = false
is_split Split = true

-- a square whose lower or right half begins outside the frame says whether it is split, and nothing where both do
unfoldable pub spelled_partition : Bool → Bool → List ℕ → Partition → BoolList
spelled_partition has_rows has_cols probs partition =
    if has_rows && has_cols then tree_bools partition_tree probs (partition_number partition)
    else (if has_cols then one_bool (slice_index probs 1) (is_split partition)
    else (if has_rows then one_bool (slice_index probs 2) (is_split partition)
    else []))

-- by the blocks before it
unfoldable pub spelled_partition_at : Bool → List ℕ → List BlockInfo → FramePlaces → SquareAt → Partition → BoolList
spelled_partition_at intra probs earlier frame at partition =
    spelled_partition (nat_lt (at.row + half_of at.level) frame.rows) (nat_lt (at.col + half_of at.level) frame.cols)
    (partition_probs intra probs (square_context earlier frame at)) partition
