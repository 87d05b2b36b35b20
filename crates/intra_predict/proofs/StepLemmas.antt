-- Blocks put into a plane.
use Rattle.std.proofs.Common.{◌≡◌, ◌<◌, ◌≤◌, ◌-◌, ℕ, ◌∙◌, arith, List, min, lit<}
use Rattle.std.specs.Prelude.{Option, None, Some, ℤ, pos, negsuc}
use Rattle.vp9_types.specs.Maps.{Map, rows_of, Holds, IsAtMost}
use Rattle.vp9_types.specs.declared.shape.Depth.{Depth}
use Rattle.vp9_types.specs.declared.block.TxSize.{TxSize}
use Rattle.vp9_types.specs.declared.block.TxSize.TheVariants.{T4x4, T8x8, T16x16, T32x32}
use Rattle.intra_predict.specs.declared.block.IntraBlock.{IntraBlock}
use Rattle.vp9_types.specs.Sizes.{side, greatest}
use Rattle.vp9_types.specs.Sizes.{clip}
use Rattle.intra_predict.specs.Steps.{with_square, prediction, plus_residue, with_any_residue}
use Rattle.planes.proofs.RowLemmas.{with_block_same, place}
use Rattle.planes.proofs.PlaneLemmas.{with_block_small}
use Rattle.intra_predict.proofs.Bounds.{predicted_small, edges_small}

-- a block that holds what f says may stand for f
pub square_put : (width height : ℕ) (m : Map) (row column size : ℕ) (block : List ℕ) (f : Map) → Holds block size f
    → with_square width height m row column size (rows_of size block) ≡ with_square width height m row column size f
square_put width height m row column size block f holds =
    with_block_same m row column (min size (height - row)) (min size (width - column)) _ _
    (λ i j below low. place size block i j (omega arith) ∙ holds i j (omega arith) (omega arith))

pub square_small : (most width height : ℕ) (m : Map) (row column size : ℕ) (f : Map) → IsAtMost most m → IsAtMost most f
    → IsAtMost most (with_square width height m row column size f)
square_small most width height m row column size f small also = with_block_small most m row column _ _ f small also

side_some : (size : TxSize) → 0 < side size
side_some T4x4 = lit< tt
side_some T8x8 = lit< tt
side_some T16x16 = lit< tt
side_some T32x32 = lit< tt

pub prediction_small : (width height : ℕ) (depth : Depth) (b : IntraBlock) (m : Map) → IsAtMost (greatest depth) m
    → IsAtMost (greatest depth) (prediction width height depth b m)
unfolding prediction
prediction_small width height depth b m small =
    predicted_small b.mode (side b.size) depth _ (side_some b.size) (edges_small width height (side b.size) b.place depth m small)

clip_small : (most : ℕ) (z : ℤ) → clip most z ≤ most
clip_small most (pos n) = omega arith
clip_small most (negsuc n) = omega arith

pub residue_small : (depth : Depth) (size : ℕ) (f : Map) (residue : List ℤ)
    → IsAtMost (greatest depth) (plus_residue depth size f residue)
residue_small depth size f residue i j = clip_small (greatest depth) _

pub any_residue_small : (depth : Depth) (size : ℕ) (f : Map) (residue : Option (List ℤ)) → IsAtMost (greatest depth) f
    → IsAtMost (greatest depth) (with_any_residue depth size f residue)
any_residue_small depth size f None small = small
any_residue_small depth size f (Some residue) small = residue_small depth size f residue
