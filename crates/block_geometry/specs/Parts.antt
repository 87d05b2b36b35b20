-- The part of a block that lies inside a frame, in places of 8x8.
use Rattle.std.specs.Prelude.{ℕ, ◌-◌, min}
use Rattle.vp9_types.specs.declared.block.BlockSize.{BlockSize}
use Rattle.block_geometry.specs.BlockSizes.{width_8, height_8}
use Rattle.block_geometry.specs.declared.parts.Part.{Part}
use Rattle.block_geometry.specs.declared.transform_blocks.FramePlaces.{FramePlaces}

abbrev pub part_inside : FramePlaces → ℕ → ℕ → BlockSize → Part
part_inside frame row col size =
    record { row = row; col = col; rows = min (height_8 size) (frame.rows - row); cols = min (width_8 size) (frame.cols - col) }
