-- An inter block, put into a plane of its frame: it is predicted from pictures, part by part, and then the residue of its
-- transform blocks is added (8.5.2 and 8.6.2 of the standard).
use Rattle.std.specs.Prelude.{ℕ, ◌+◌, ◌*◌, false, Option, Some, None}
use Rattle.std.specs.List.{fold, range_with_len}
use Rattle.vp9_types.specs.Maps.{Map, FrameMap, with_block}
use Rattle.vp9_types.specs.Shapes.{halved, coded_width, coded_height}
use Rattle.vp9_types.specs.Sizes.{side, greatest}
use Rattle.vp9_types.specs.declared.block.ReferenceFrame.{ReferenceFrame}
use Rattle.vp9_types.specs.declared.shape.Depth.{Depth}
use Rattle.vp9_types.specs.declared.shape.Depth.TheVariants.{Eight}
use Rattle.vp9_types.specs.declared.shape.Plane.{Plane}
use Rattle.vp9_types.specs.declared.shape.Shape.{Shape}
use Rattle.block_geometry.specs.declared.transform_blocks.PlaneBlock.{PlaneBlock}
use Rattle.block_geometry.specs.declared.transform_blocks.TransformPlace.{TransformPlace}
use Rattle.block_plan.specs.InPlanes.{plane_block}
use Rattle.block_plan.specs.Planned.{Residue, Residues}
use Rattle.block_plan.specs.declared.block.BlockInfo.{BlockInfo}
use Rattle.block_plan.specs.declared.block.InterPrediction.{InterPrediction}
use Rattle.inter_places.specs.Places.{parts_of, part_start, place_of, predicted_length}
use Rattle.inter_places.specs.declared.part.BlockPart.{BlockPart}
use Rattle.inter_places.specs.declared.part.Direction.TheVariants.{Down, Across}
use Rattle.inter_predict.specs.InterSamples.{both, predicted_at}
use Rattle.intra_predict.specs.Steps.{plus_residue, with_square}
use Rattle.planes.specs.Pictures.{blank}

---- What is predicted from ----

-- a picture that blocks refer to
pub record ReferencePicture : Type 0 where
  pub shape : Shape
  pub map : FrameMap

-- where there is none
abbrev pub no_picture : ReferencePicture
no_picture = record { shape = record { w = 0; h = 0; depth = Eight; ss_x = false; ss_y = false }; map = blank }

-- what the blocks of a frame are put in by, the same for all of them: its shape, and the pictures that they refer to
pub record Rebuilding : Type 0 where
  pub shape : Shape
  pub references : ReferenceFrame → ReferencePicture

---- Prediction ----

-- a part of a block, by its number in the plane, and by the first vector (0) or by the second (1)
abbrev pub part_of : Plane → ℕ → ℕ → BlockPart
part_of p n list = record { plane = p; number = n; list = list }

-- its samples, from a picture
abbrev pub predicted_from : Shape → BlockInfo → InterPrediction → BlockPart → ReferencePicture → Map
predicted_from shape b modes part r = predicted_at (greatest shape.depth) modes.filter (place_of shape b modes part r.shape) r.map

-- or the mean of those from two
abbrev pub averaged_with : Map → Option Map → Map
averaged_with first None = first
averaged_with first (Some second) = both first second

abbrev pub second_from : Rebuilding → BlockInfo → InterPrediction → Plane → ℕ → Option ReferenceFrame → Option Map
second_from by b modes p n None = None
second_from by b modes p n (Some reference) = Some (predicted_from by.shape b modes (part_of p n 1) (by.references reference))

unfoldable pub predicted_part : Rebuilding → BlockInfo → InterPrediction → Plane → ℕ → Map
predicted_part by b modes p n =
    averaged_with (predicted_from by.shape b modes (part_of p n 0) (by.references modes.references.first)) (second_from by b modes p n modes.references.second)

-- a part put in: what of it lies in the frame's places of 8x8
abbrev pub put_part : Rebuilding → BlockInfo → InterPrediction → Plane → Map → ℕ → Map
put_part by b modes p m n =
    with_block m (part_start by.shape b (part_of p n 0) Down) (part_start by.shape b (part_of p n 0) Across)
    (predicted_length by.shape b (part_of p n 0) Down) (predicted_length by.shape b (part_of p n 0) Across) (predicted_part by b modes p n)

-- all parts, in raster order
unfoldable pub put_prediction : Rebuilding → BlockInfo → InterPrediction → Plane → Map → Map
put_prediction by b modes p m = fold (put_part by b modes p) m (range_with_len 0 (parts_of by.shape b.size p))

---- Residue ----

-- the first row and column of the transform block at row y and column x, in 4s
abbrev pub tx_row : PlaneBlock → ℕ → ℕ
tx_row b y = halved b.ss_y (8 * b.row) + 4 * y

abbrev pub tx_column : PlaneBlock → ℕ → ℕ
tx_column b x = halved b.ss_x (8 * b.col) + 4 * x

-- the samples from a row and column on
abbrev pub samples_from : Map → ℕ → ℕ → Map
samples_from m row column = λ i j. m (row + i) (column + j)

-- the residue of a transform block added to what stands there, in a plane of a width and height
abbrev pub add_residue : ℕ → ℕ → Depth → PlaneBlock → TransformPlace → Residue → Map → Map
add_residue width height depth b at None m = m
add_residue width height depth b at (Some values) m =
    with_square width height m (tx_row b at.row) (tx_column b at.column) (side b.tx)
    (plus_residue depth (side b.tx) (samples_from m (tx_row b at.row) (tx_column b at.column)) values)

-- the next transform block's
abbrev pub add_next : Shape → BlockInfo → Plane → Map → TransformPlace × Residue → Map
add_next shape b p m r = add_residue (coded_width shape p) (coded_height shape p) shape.depth (plane_block shape b p) r.0 r.1 m

unfoldable pub put_inter : Rebuilding → BlockInfo → InterPrediction → Plane → Residues → Map → Map
put_inter by b modes p residues m = fold (add_next by.shape b p) (put_prediction by b modes p m) residues
