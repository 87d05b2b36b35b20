-- A block put into a plane: what an intra block does to the plane, transform block by transform block (8.5.1 and 8.6.2
-- of the standard).
use Rattle.std.specs.Prelude.{ℕ, ℤ, pos, ◌+◌, ◌-◌, ◌*◌, List, Option, None, Some, min, slice_index_or}
use Rattle.vp9_types.specs.Maps.{Map, with_block}
use Rattle.vp9_types.specs.declared.shape.Depth.{Depth}
use Rattle.intra_predict.specs.declared.block.IntraBlock.{IntraBlock}
use Rattle.vp9_types.specs.Sizes.{side, greatest}
use Rattle.intra_predict.specs.BlockEdges.{edges_in}
use Rattle.intra_predict.specs.PredictedModes.{predicted}
use Rattle.intra_predict.specs.Residue.{with_residue}

-- only the part inside the plane is
abbrev pub with_square : ℕ → ℕ → Map → ℕ → ℕ → ℕ → Map → Map
with_square width height m row column size block =
    with_block m row column (min size (height - row)) (min size (width - column)) block

-- predicted from the plane so far
unfoldable pub prediction : ℕ → ℕ → Depth → IntraBlock → Map → Map
prediction width height depth b m = predicted b.mode (side b.size) depth (edges_in width height depth (side b.size) b.place m)

-- residue is a list of rows
abbrev pub plus_residue : Depth → ℕ → Map → List ℤ → Map
plus_residue depth size block residue = λ i j. with_residue (greatest depth) (block i j) (slice_index_or residue (i * size + j) (pos 0))

-- a block that may have residue
abbrev pub with_any_residue : Depth → ℕ → Map → Option (List ℤ) → Map
with_any_residue depth size block None = block
with_any_residue depth size block (Some residue) = plus_residue depth size block residue

-- a block without residue, and one with it
abbrev pub with_predicted : ℕ → ℕ → Depth → IntraBlock → Map → Map
with_predicted width height depth b m =
    with_square width height m b.place.row b.place.column (side b.size) (prediction width height depth b m)

abbrev pub with_rebuilt : ℕ → ℕ → Depth → IntraBlock → List ℤ → Map → Map
with_rebuilt width height depth b residue m =
    with_square width height m b.place.row b.place.column (side b.size)
    (plus_residue depth (side b.size) (prediction width height depth b m) residue)
