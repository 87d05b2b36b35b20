-- How a square is partitioned (6.4.3 of the standard: partition in decode_partition; 9.3 for its probabilities).
use Rattle.std.specs.Prelude.{ℕ, ◌+◌, ◌-◌, ◌*◌, ◌/◌, ◌^◌, Bool, ◌&&◌, List, [], Option, Some, None, map, min, take, drop, get_or, slice_index, nat_eq, nat_lt, if◌then◌else◌}
use Rattle.std.specs.List.{range_with_len}
use Rattle.vp9_types.specs.Syntax.{Syntax}
use Rattle.vp9_types.specs.Trees.{tree_symbol}
use Rattle.vp9_types.specs.declared.block.Partition.{Partition}
use Rattle.vp9_types.specs.declared.block.Partition.TheVariants.{Whole, Horizontal, Vertical, Split}
use Rattle.vp9_types.specs.declared.rule.Rule.{Rule}
use Rattle.vp9_tables.specs.Numbers.{partition_number}
use Rattle.vp9_tables.specs.SymbolTrees.{partition_tree}
use Rattle.vp9_tables.specs.declared.data.intra.TheConstants.{KF_PARTITION}
use Rattle.bool_decoder.specs.Bools.{flag}
use Rattle.prob_contexts.specs.declared.kind.ProbKind.TheVariants as kind
use Rattle.block_geometry.specs.BlockSizes.{width_4, height_4}
use Rattle.block_geometry.specs.SplitSquares.{square, partition_context}
use Rattle.block_geometry.specs.declared.transform_blocks.FramePlaces.{FramePlaces}
use Rattle.block_plan.specs.Blocks.{above_place, left_place}
use Rattle.block_plan.specs.declared.block.BlockInfo.{BlockInfo}
use Rattle.mode_syntax.specs.declared.square_at.SquareAt.{SquareAt}
use Rattle.counting_reader.specs.Counting.{Settled, settle, count, uncounted, ◌>>=◌, ◌>>◌}
use Rattle.counting_reader.specs.CountedSymbols.{counted_symbol}

abbrev pub partition_of : ℕ → Partition
partition_of n = if nat_eq n 0 then Whole else (if nat_eq n 1 then Horizontal else (if nat_eq n 2 then Vertical else Split))

abbrev pub split_or : Partition → Bool → Partition
split_or other split = if split then Split else other

unfoldable pub whole_symbol : List ℕ → Syntax ℕ Rule (Settled Partition)
whole_symbol probs = do
  number ← uncounted (tree_symbol partition_tree probs)
  settle (partition_of number)

unfoldable pub edge_symbol : ℕ → Partition → Syntax ℕ Rule (Settled Partition)
edge_symbol p other = do
  split ← uncounted (flag p)
  settle (split_or other split)

-- A square whose lower or right half begins outside the frame is split, or is halved so that the outer half is left out.
unfoldable pub partition_value : Bool → Bool → List ℕ → Syntax ℕ Rule (Settled Partition)
partition_value has_rows has_cols probs =
    if has_rows && has_cols then whole_symbol probs
    else (if has_cols then edge_symbol (slice_index probs 1) Horizontal
    else (if has_rows then edge_symbol (slice_index probs 2) Vertical
    else settle Split))

-- It is counted also where the frame's edge shortens or infers it.
unfoldable pub partition : Bool → Bool → List ℕ → ℕ → Syntax ℕ Rule (Settled Partition)
partition has_rows has_cols probs context = do
  partition ← partition_value has_rows has_cols probs
  count (counted_symbol kind.Partition (3 * context) partition_tree (partition_number partition))
  settle partition

-- half of a square's side, in places of 8x8; an 8x8 square has none
abbrev pub half_of : ℕ → ℕ
half_of level = 2 ^ level / 2

-- those of intra frames are fixed
abbrev pub partition_probs : Bool → List ℕ → ℕ → List ℕ
partition_probs intra probs context = if intra then get_or KF_PARTITION context [] else take 3 (drop (3 * context) probs)

abbrev pub width_beside : Option BlockInfo → ℕ
width_beside None = 16
width_beside (Some block) = width_4 block.size

abbrev pub height_beside : Option BlockInfo → ℕ
height_beside None = 16
height_beside (Some block) = height_4 block.size

-- the widths of the blocks above n places from a column on, and the heights of those at the left of n places
unfoldable pub widths_above : List BlockInfo → ℕ → ℕ → ℕ → List ℕ
widths_above earlier row col n = map (λ k. width_beside (above_place earlier row (col + k))) (range_with_len 0 n)

unfoldable pub heights_left : List BlockInfo → ℕ → ℕ → ℕ → ℕ → List ℕ
heights_left earlier tile_from row col n = map (λ k. height_beside (left_place earlier tile_from (row + k) col)) (range_with_len 0 n)

-- along the part of the square that lies inside the frame and its tile
unfoldable pub square_context : List BlockInfo → FramePlaces → SquareAt → ℕ
square_context earlier frame at =
    partition_context (square at.level)
    (widths_above earlier at.row at.col (min (2 ^ at.level) (at.tile_to - at.col)))
    (heights_left earlier at.tile_from at.row at.col (min (2 ^ at.level) (frame.rows - at.row)))

-- the partition of a square, from the blocks before it
unfoldable pub partition_at : Bool → List ℕ → List BlockInfo → FramePlaces → SquareAt → Syntax ℕ Rule (Settled Partition)
partition_at intra probs earlier frame at =
    let context = square_context earlier frame at in
    partition (nat_lt (at.row + half_of at.level) frame.rows) (nat_lt (at.col + half_of at.level) frame.cols)
    (partition_probs intra probs context) context
