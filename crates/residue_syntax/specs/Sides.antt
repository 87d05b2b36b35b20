-- Whether the blocks above and at the left have coefficients (AboveNonzeroContext and LeftNonzeroContext in 6.4.21 of the
-- standard).
use Rattle.std.specs.Prelude.{◌/◌, Bool, false, List, replicate, length}
use Rattle.vp9_types.specs.Shapes.{coded_width, coded_height}
use Rattle.vp9_types.specs.declared.shape.Plane.{Plane}
use Rattle.vp9_types.specs.declared.shape.Shape.{Shape}

-- of a plane, a flag for each 4 samples of its width and of its height
pub record Sides : Type 0 where
  pub above : List Bool
  pub left : List Bool

-- no block is read
abbrev pub no_sides : Shape → Plane → Sides
no_sides shape p = record { above = replicate (coded_width shape p / 4) false; left = replicate (coded_height shape p / 4) false }

-- A tile begins with nothing at its left. (The standard clears that at each row of superblocks: the rows before it are
-- none of the next row's, so clearing all of them at once says the same.)
abbrev pub nothing_left : Sides → Sides
nothing_left s = record { above = s.above; left = replicate (length s.left) false }
