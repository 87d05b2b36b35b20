-- Where a block of a plane is predicted from (8.5.2 of the standard).
use Rattle.std.specs.Prelude.{ℕ, ◌+◌, ◌-◌, ◌*◌, ◌/◌, ◌%◌, ◌<◌, ◌≤◌, ◌&&◌, ℤ, Bool, min, if◌then◌else◌}
use Rattle.vp9_types.specs.Shapes.{halved, is_chroma, plane_width, plane_height, coded_width, coded_height, mi_rows, mi_cols}
use Rattle.vp9_types.specs.declared.block.BlockSize.{BlockSize}
use Rattle.vp9_types.specs.declared.shape.Plane.{Plane}
use Rattle.vp9_types.specs.declared.shape.Shape.{Shape}
use Rattle.block_geometry.specs.BlockSizes.{is_below_8x8, width_8, height_8}
use Rattle.block_plan.specs.BlockMvs.{vector_of}
use Rattle.block_plan.specs.declared.block.BlockInfo.{BlockInfo}
use Rattle.block_plan.specs.declared.block.InterPrediction.{InterPrediction}
use Rattle.inter_places.specs.declared.axis.Axis.{Axis}
use Rattle.inter_places.specs.declared.axis.Place.{Place}
use Rattle.inter_places.specs.declared.span.BlockSpan.{BlockSpan}
use Rattle.inter_places.specs.declared.part.BlockPart.{BlockPart}
use Rattle.inter_places.specs.declared.part.Direction.{Direction}
use Rattle.inter_places.specs.declared.part.Direction.TheVariants.{Down, Across}
use Rattle.inter_places.specs.PlaneVectors.{mean_vector, component}
use Rattle.inter_places.specs.Scaling.{x_scale, axis_of, span_start, IsInScale}

-- whether a plane is subsampled along a direction
abbrev pub is_subsampled : Shape → Plane → Direction → Bool
is_subsampled shape p Down = is_chroma p && shape.ss_y
is_subsampled shape p Across = is_chroma p && shape.ss_x

abbrev pub luma_length : Shape → Direction → ℕ
luma_length shape Down = shape.h
luma_length shape Across = shape.w

abbrev pub plane_length : Shape → Plane → Direction → ℕ
plane_length shape p Down = plane_height shape p
plane_length shape p Across = plane_width shape p

-- the samples of a plane in the frame's places of 8x8 luma samples
abbrev pub coded_length : Shape → Plane → Direction → ℕ
coded_length shape p Down = coded_height shape p
coded_length shape p Across = coded_width shape p

abbrev pub span_of : Shape → BlockInfo → Plane → Direction → BlockSpan
span_of shape b p Down = record { first = b.row; count = height_8 b.size; all = mi_rows shape; ss = is_subsampled shape p Down }
span_of shape b p Across = record { first = b.col; count = width_8 b.size; all = mi_cols shape; ss = is_subsampled shape p Across }

-- 4x4s of a plane's part of an 8x8 square, along a direction
abbrev pub fours : Bool → ℕ
fours ss = halved ss 2

-- a block below 8x8 is predicted by 4x4s, in raster order, any other as a whole
abbrev pub parts_of : Shape → BlockSize → Plane → ℕ
parts_of shape size p = if is_below_8x8 size then fours (is_subsampled shape p Down) * fours (is_subsampled shape p Across) else 1

-- how many samples after its block's first a part begins
abbrev pub offset_in_block : Shape → BlockPart → Direction → ℕ
offset_in_block shape part Down = 4 * (part.number / fours (is_subsampled shape part.plane Across))
offset_in_block shape part Across = 4 * (part.number % fours (is_subsampled shape part.plane Across))

-- and how long it is
abbrev pub part_length : BlockSize → BlockSpan → ℕ
part_length size s = if is_below_8x8 size then 4 else halved s.ss (8 * s.count)

-- only a block below 8x8 has several vectors
abbrev pub part_vector : Shape → BlockSize → InterPrediction → BlockPart → Direction → ℤ
part_vector shape size p part d =
    if is_below_8x8 size
    then mean_vector (is_subsampled shape part.plane Across) (is_subsampled shape part.plane Down) part.number (λ quarter. component d (vector_of p quarter part.list))
    else component d (vector_of p 0 part.list)

abbrev pub part_start : Shape → BlockInfo → BlockPart → Direction → ℕ
part_start shape b part d = span_start (span_of shape b part.plane d) + offset_in_block shape part d

-- of a part only what lies in the frame's places of 8x8 is predicted
abbrev pub predicted_length : Shape → BlockInfo → BlockPart → Direction → ℕ
predicted_length shape b part d = min (part_length b.size (span_of shape b part.plane d)) (coded_length shape part.plane d - part_start shape b part d)

abbrev pub part_axis : Shape → BlockInfo → InterPrediction → BlockPart → Shape → Direction → Axis
part_axis shape b p part reference d =
    axis_of (span_of shape b part.plane d) (offset_in_block shape part d) (part_vector shape b.size p part d)
    (x_scale (luma_length reference d) (luma_length shape d)) (plane_length reference part.plane d)

unfoldable pub place_of : Shape → BlockInfo → InterPrediction → BlockPart → Shape → Place
place_of shape b p part reference = record {
  plane = part.plane;
  row = part_start shape b part Down;
  column = part_start shape b part Across;
  rows = predicted_length shape b part Down;
  columns = predicted_length shape b part Across;
  down = part_axis shape b p part reference Down;
  across = part_axis shape b p part reference Across;
}

-- a part of a block that starts in its frame
pub record IsPart (shape : Shape) (b : BlockInfo) (part : BlockPart) : Type 0 where
  pub row : b.row < mi_rows shape
  pub column : b.col < mi_cols shape
  pub number : part.number < parts_of shape b.size part.plane
  pub list : part.list < 2

-- a reference whose size is in range for a frame
pub record IsReference (shape reference : Shape) : Type 0 where
  pub wide : shape.w ≤ 65536
  pub high : shape.h ≤ 65536
  pub across : IsInScale reference.w shape.w
  pub down : IsInScale reference.h shape.h
