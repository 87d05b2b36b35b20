-- The sizes of planes (7.2.2 and 8.4.2 of the standard: chroma has half the size, rounded up, where it is subsampled),
-- and the bands that a frame is handed on by.
use Rattle.std.specs.Prelude.{ℕ, ◌+◌, ◌*◌, ◌/◌, Bool, true, false, if◌then◌else◌}
use Rattle.vp9_types.specs.declared.shape.Depth.{Depth}
use Rattle.vp9_types.specs.declared.shape.Depth.TheVariants.{Eight, Ten, Twelve}
use Rattle.vp9_types.specs.declared.shape.Plane.{Plane}
use Rattle.vp9_types.specs.declared.shape.Plane.TheVariants.{Y, U, V}
use Rattle.vp9_types.specs.declared.shape.Shape.{Shape}

abbrev pub depth_bits : Depth → ℕ
depth_bits Eight = 8
depth_bits Ten = 10
depth_bits Twelve = 12

abbrev pub is_chroma : Plane → Bool
is_chroma Y = false
is_chroma U = true
is_chroma V = true

-- n >> ss
abbrev pub halved : Bool → ℕ → ℕ
halved ss n = if ss then n / 2 else n

-- (size + ss) >> ss
abbrev pub subsampled_size : ℕ → Bool → ℕ
subsampled_size size true = (size + 1) / 2
subsampled_size size false = size

abbrev pub plane_width : Shape → Plane → ℕ
plane_width shape Y = shape.w
plane_width shape U = subsampled_size shape.w shape.ss_x
plane_width shape V = subsampled_size shape.w shape.ss_x

abbrev pub plane_height : Shape → Plane → ℕ
plane_height shape Y = shape.h
plane_height shape U = subsampled_size shape.h shape.ss_y
plane_height shape V = subsampled_size shape.h shape.ss_y

-- the places of 8x8 luma samples that a frame covers, rounded up (MiRows and MiCols in 7.2.6)
abbrev pub mi_rows : Shape → ℕ
mi_rows shape = (shape.h + 7) / 8

abbrev pub mi_cols : Shape → ℕ
mi_cols shape = (shape.w + 7) / 8

-- the samples of a plane in these places: what is decoded of it
abbrev pub coded_width : Shape → Plane → ℕ
coded_width shape Y = 8 * mi_cols shape
coded_width shape U = halved shape.ss_x (8 * mi_cols shape)
coded_width shape V = halved shape.ss_x (8 * mi_cols shape)

abbrev pub coded_height : Shape → Plane → ℕ
coded_height shape Y = 8 * mi_rows shape
coded_height shape U = halved shape.ss_y (8 * mi_rows shape)
coded_height shape V = halved shape.ss_y (8 * mi_rows shape)

-- rows of superblocks, each of 64 luma rows, rounded up
abbrev pub bands_of : Shape → ℕ
bands_of shape = (shape.h + 63) / 64
