-- The sizes of a frame (6.2.3 and 6.2.4 of the standard).
use Rattle.std.specs.Prelude.{◌+◌, ◌≤◌, if◌then◌else◌}
use Rattle.vp9_types.specs.Syntax.{done, ◌>>=◌, ◌>>◌}
use Rattle.frame_headers.specs.declared.field.FieldName.TheVariants as name
use Rattle.frame_headers.specs.declared.header.FrameSize.{FrameSize}
use Rattle.vp9_types.specs.declared.shape.Shape.{Shape}
use Rattle.frame_headers.specs.Fields.{Table, f, flag_field}

unfoldable pub frame_size : Table FrameSize
frame_size = do
  width ← f name.FrameWidthMinus1 16
  height ← f name.FrameHeightMinus1 16
  done (record { width = width + 1; height = height + 1 })

-- a size that a frame can have: each side is coded less one, in 16 bits
abbrev pub IsFrameSize : FrameSize → Type 0
IsFrameSize size = (1 ≤ size.width) × (size.width ≤ 65536) × (1 ≤ size.height) × (size.height ≤ 65536)

-- the same of a frame's shape
abbrev pub HasFrameSize : Shape → Type 0
HasFrameSize shape = (1 ≤ shape.w) × (shape.w ≤ 65536) × (1 ≤ shape.h) × (shape.h ≤ 65536)

-- the size to show the frame at isn't used
unfoldable pub render_size : Table (Unit {0})
render_size = do
  differs ← flag_field name.RenderAndFrameSizeDifferent
  if differs then (f name.RenderWidthMinus1 16 >> f name.RenderHeightMinus1 16 >> done tt) else done tt
