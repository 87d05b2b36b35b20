-- A frame in places of 8x8 luma samples.
use Rattle.vp9_types.specs.Shapes.{mi_rows, mi_cols}
use Rattle.vp9_types.specs.declared.shape.Shape.{Shape}
use Rattle.block_geometry.specs.declared.transform_blocks.FramePlaces.{FramePlaces}

abbrev pub places_of : Shape → FramePlaces
places_of shape = record { rows = mi_rows shape; cols = mi_cols shape }
