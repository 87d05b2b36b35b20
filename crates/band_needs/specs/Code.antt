-- What the code asks of blocks and of pictures.
use Rattle.std.specs.Prelude.{◌≡◌, ◌<◌, false, Option, Some, None, IfSome}
use Rattle.vp9_types.specs.Shapes.{mi_rows, mi_cols}
use Rattle.vp9_types.specs.declared.block.ReferenceFrame.{ReferenceFrame}
use Rattle.vp9_types.specs.declared.block.ReferenceFrame.TheVariants.{Last, Golden, Altref}
use Rattle.vp9_types.specs.declared.shape.Depth.TheVariants.{Eight}
use Rattle.vp9_types.specs.declared.shape.Shape.{Shape}
use Rattle.block_plan.specs.declared.block.BlockInfo.{BlockInfo}
use Rattle.block_plan.specs.declared.block.Prediction.{Prediction}
use Rattle.block_plan.specs.declared.block.Prediction.TheVariants.{Intra, Inter}
use Rattle.inter_places.specs.Places.{IsReference}
use Rattle.band_needs.specs.declared.blocks.ReferenceShapes.{ReferenceShapes}

abbrev pub shape_at : ReferenceShapes → ReferenceFrame → Option Shape
shape_at s Last = s.last
shape_at s Golden = s.golden
shape_at s Altref = s.altref

-- where there is none
abbrev pub no_shape : Shape
no_shape = record { w = 0; h = 0; depth = Eight; ss_x = false; ss_y = false }

abbrev pub or_no_shape : Option Shape → Shape
or_no_shape None = no_shape
or_no_shape (Some s) = s

abbrev pub shapes_of : ReferenceShapes → ReferenceFrame → Shape
shapes_of s r = or_no_shape (shape_at s r)

-- a reference whose size is in range for a frame
abbrev pub HasShape : Shape → ReferenceShapes → ReferenceFrame → Type 0
HasShape shape s r = (reference : Shape) × (shape_at s r ≡ Some reference) × IsReference shape reference

abbrev pub HasShapes : Shape → ReferenceShapes → Prediction → Type 0
HasShapes shape s (Intra modes) = Unit {0}
HasShapes shape s (Inter modes) = HasShape shape s modes.references.first × IfSome modes.references.second (HasShape shape s)

-- a block that starts in its frame, and whose references are there
pub record CanBePlaced (shape : Shape) (s : ReferenceShapes) (b : BlockInfo) : Type 0 where
  pub row : b.row < mi_rows shape
  pub column : b.col < mi_cols shape
  pub shapes : HasShapes shape s b.prediction
