-- Where the blocks of a tile lie (6.4.2 and 6.4.3 of the standard: decode_tile, decode_partition): they are the leaves of
-- its superblocks' partition trees, in order.
use Rattle.std.specs.Prelude.{ℕ, zero, suc, ◌+◌, ◌^◌, ◌&&◌, List, [], ◌∷◌, ◌++◌, nat_lt, count_by, if◌then◌else◌}
use Rattle.std.specs.List.{flat_map}
use Rattle.vp9_types.specs.declared.block.BlockSize.{BlockSize}
use Rattle.vp9_types.specs.declared.block.Partition.{Partition}
use Rattle.vp9_types.specs.declared.block.Partition.TheVariants.{Whole, Horizontal, Vertical, Split}
use Rattle.block_geometry.specs.BlockSizes.{is_covered}
use Rattle.block_geometry.specs.SplitSquares.{part_size}
use Rattle.block_geometry.specs.declared.transform_blocks.FramePlaces.{FramePlaces}
use Rattle.mode_syntax.specs.declared.square_at.SquareAt.{SquareAt}

-- a block's place and size
pub record Leaf : Type 0 where
  pub row : ℕ
  pub col : ℕ
  pub size : BlockSize

-- how a square is partitioned, and how its quarters are
pub data Cut : Type 0 where
  whole : Cut
  upper_and_lower : Cut
  left_and_right : Cut
  quarters : Cut → Cut → Cut → Cut → Cut

abbrev pub partition_of_cut : Cut → Partition
partition_of_cut whole = Whole
partition_of_cut upper_and_lower = Horizontal
partition_of_cut left_and_right = Vertical
partition_of_cut (quarters a b d e) = Split

-- what starts outside the frame is left out
abbrev pub inside : FramePlaces → ℕ → ℕ → List Leaf → List Leaf
inside frame r c leaves = if nat_lt r frame.rows && nat_lt c frame.cols then leaves else []

abbrev pub one_leaf : ℕ → ℕ → BlockSize → List Leaf
one_leaf r c size = record { row = r; col = c; size = size } ∷ []

-- The blocks of a square of a level. One of 8x8 is a single block, whose size says how it is partitioned.
abbrev pub leaves : FramePlaces → ℕ → ℕ → ℕ → Cut → List Leaf
leaves frame zero r c cut = inside frame r c (one_leaf r c (part_size (partition_of_cut cut) 0))
leaves frame (suc n) r c whole = inside frame r c (one_leaf r c (part_size Whole (suc n)))
leaves frame (suc n) r c upper_and_lower =
    inside frame r c (one_leaf r c (part_size Horizontal (suc n)) ++ inside frame (r + 2 ^ n) c (one_leaf (r + 2 ^ n) c (part_size Horizontal (suc n))))
leaves frame (suc n) r c left_and_right =
    inside frame r c (one_leaf r c (part_size Vertical (suc n)) ++ inside frame r (c + 2 ^ n) (one_leaf r (c + 2 ^ n) (part_size Vertical (suc n))))
leaves frame (suc n) r c (quarters a b d e) =
    inside frame r c (leaves frame n r c a ++ leaves frame n r (c + 2 ^ n) b ++ leaves frame n (r + 2 ^ n) c d ++ leaves frame n (r + 2 ^ n) (c + 2 ^ n) e)

-- the blocks of superblocks, each of which is cut so
abbrev pub tile_leaves : FramePlaces → (SquareAt → Cut) → List SquareAt → List Leaf
tile_leaves frame cuts squares = flat_map (λ at. leaves frame at.level at.row at.col (cuts at)) squares

-- how many of them cover a place
abbrev pub times_covered : List Leaf → ℕ → ℕ → ℕ
times_covered blocks y x = count_by (λ b. is_covered b.row b.col b.size y x) blocks
