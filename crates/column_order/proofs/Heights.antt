-- The heights of the parts of a square.
use Rattle.std.proofs.Common.{ℕ, zero, suc, ◌^◌, ◌≤◌, arith, lit≤}
use Rattle.vp9_types.specs.declared.block.Partition.{Partition}
use Rattle.vp9_types.specs.declared.block.Partition.TheVariants.{Whole, Horizontal, Vertical, Split}
use Rattle.block_geometry.specs.BlockSizes.{height_8}
use Rattle.block_geometry.specs.SplitSquares.{part_size}

pub low : (n : ℕ) (p : Partition) → suc n ≤ 3 → height_8 (part_size p (suc n)) ≤ 2 ^ suc n
low zero Whole few = lit≤ tt
low zero Horizontal few = lit≤ tt
low zero Vertical few = lit≤ tt
low zero Split few = lit≤ tt
low (suc zero) Whole few = lit≤ tt
low (suc zero) Horizontal few = lit≤ tt
low (suc zero) Vertical few = lit≤ tt
low (suc zero) Split few = lit≤ tt
low (suc (suc zero)) Whole few = lit≤ tt
low (suc (suc zero)) Horizontal few = lit≤ tt
low (suc (suc zero)) Vertical few = lit≤ tt
low (suc (suc zero)) Split few = lit≤ tt
low (suc (suc (suc n))) p few = absurd (omega arith)

pub half_low : (n : ℕ) → suc n ≤ 3 → height_8 (part_size Horizontal (suc n)) ≤ 2 ^ n
half_low zero few = lit≤ tt
half_low (suc zero) few = lit≤ tt
half_low (suc (suc zero)) few = lit≤ tt
half_low (suc (suc (suc n))) few = absurd (omega arith)

pub smallest_low : (p : Partition) → height_8 (part_size p 0) ≤ 1
smallest_low Whole = lit≤ tt
smallest_low Horizontal = lit≤ tt
smallest_low Vertical = lit≤ tt
smallest_low Split = lit≤ tt
