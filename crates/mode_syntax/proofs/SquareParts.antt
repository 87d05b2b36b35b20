-- The parts of a square by their rows and columns.
use Rattle.std.proofs.Common.{◌≡◌, ◌∙◌, ℕ, suc, ◌+◌, ◌-◌, ◌*◌, ◌^◌, ap, arith}
use Rattle.vp9_types.specs.Syntax.{Syntax}
use Rattle.vp9_types.specs.declared.block.Partition.TheVariants.{Horizontal, Vertical, Split}
use Rattle.vp9_types.specs.declared.rule.Rule.{Rule}
use Rattle.block_geometry.specs.SplitSquares.{part_size}
use Rattle.counting_reader.specs.Counting.{Settled, in_order}
use Rattle.mode_syntax.specs.Laws.{square_at, decode_square, square_parts}
use Rattle.mode_syntax.specs.Superblocks.{quarter_square}
use Rattle.mode_syntax.specs.Walk.{TileWalk, block_at, block_inside, parts, decode_at_level}

down : (n : ℕ) → suc n - 1 ≡ n
down n = omega arith

near : (n r : ℕ) → r + 2 ^ (suc n - 1) * 0 ≡ r
near n r = omega arith

once : (k r : ℕ) → r + k * 1 ≡ r + k
once k r = omega arith

far : (n r : ℕ) → r + 2 ^ (suc n - 1) * 1 ≡ r + 2 ^ n
far n r = ap (λ k. r + 2 ^ k * 1) (down n) ∙ once (2 ^ n) r

module _ {S : Type 0} (walk : TileWalk S) (n r c : ℕ) where
  pub first_is : quarter_square (square_at walk (suc n) r c) 0 ≡ square_at walk n r c
  first_is = λ i. record { row = near n r i; col = near n c i; level = down n i; tile_from = walk.tile_from; tile_to = walk.tile_to }

  pub second_is : quarter_square (square_at walk (suc n) r c) 1 ≡ square_at walk n r (c + 2 ^ n)
  second_is = λ i. record { row = near n r i; col = far n c i; level = down n i; tile_from = walk.tile_from; tile_to = walk.tile_to }

  pub third_is : quarter_square (square_at walk (suc n) r c) 2 ≡ square_at walk n (r + 2 ^ n) c
  third_is = λ i. record { row = far n r i; col = near n c i; level = down n i; tile_from = walk.tile_from; tile_to = walk.tile_to }

  pub fourth_is : quarter_square (square_at walk (suc n) r c) 3 ≡ square_at walk n (r + 2 ^ n) (c + 2 ^ n)
  fourth_is = λ i. record { row = far n r i; col = far n c i; level = down n i; tile_from = walk.tile_from; tile_to = walk.tile_to }

  pub rows_are : (s : S) → square_parts walk n r c s Horizontal
      ≡ in_order (walk.block (block_at walk r c (part_size Horizontal (suc n))) s) (block_inside walk (r + 2 ^ n) c (part_size Horizontal (suc n)))
  unfolding parts
  rows_are s = λ i. in_order (walk.block (block_at walk r c (part_size Horizontal (suc n))) s) (block_inside walk (r + 2 ^ down n i) c (part_size Horizontal (suc n)))

  pub columns_are : (s : S) → square_parts walk n r c s Vertical
      ≡ in_order (walk.block (block_at walk r c (part_size Vertical (suc n))) s) (block_inside walk r (c + 2 ^ n) (part_size Vertical (suc n)))
  unfolding parts
  columns_are s = λ i. in_order (walk.block (block_at walk r c (part_size Vertical (suc n))) s) (block_inside walk r (c + 2 ^ down n i) (part_size Vertical (suc n)))

  abbrev pub four_squares : S → Syntax ℕ Rule (Settled S)
  four_squares s =
      in_order (decode_square walk n r c s)
      (λ t. in_order (decode_square walk n r (c + 2 ^ n) t)
      (λ u. in_order (decode_square walk n (r + 2 ^ n) c u)
      (λ v. decode_square walk n (r + 2 ^ n) (c + 2 ^ n) v)))

  pub quarters_are : (s : S) → square_parts walk n r c s Split ≡ four_squares s
  unfolding parts
  quarters_are s = λ i.
      in_order (decode_at_level walk n (first_is i) s)
      (λ t. in_order (decode_at_level walk n (second_is i) t)
      (λ u. in_order (decode_at_level walk n (third_is i) u)
      (λ v. decode_at_level walk n (fourth_is i) v)))
