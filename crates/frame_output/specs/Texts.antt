-- The raw text of a shown frame (8.9 of the standard, the output process): the planes Y, U, V of the frame's real size,
-- row by row, one byte per sample at depth 8, else two bytes, the low one first.
use Rattle.std.specs.Prelude.{ℕ, ◌/◌, ◌%◌, List, [], ◌∷◌, ◌++◌}
use Rattle.std.specs.List.{flat_map, range_with_len}
use Rattle.vp9_types.specs.declared.shape.Depth.{Depth}
use Rattle.vp9_types.specs.declared.shape.Depth.TheVariants.{Eight, Ten, Twelve}
use Rattle.vp9_types.specs.declared.shape.Plane.{Plane}
use Rattle.vp9_types.specs.declared.shape.Plane.TheVariants.{Y, U, V}
use Rattle.vp9_types.specs.declared.shape.Shape.{Shape}
use Rattle.vp9_types.specs.Maps.{Map, FrameMap, row_of}
use Rattle.vp9_types.specs.Shapes.{plane_width, plane_height}

abbrev pub two_bytes : ℕ → List ℕ
two_bytes sample = (sample % 256) ∷ (sample / 256) ∷ []

abbrev pub sample_text : Depth → ℕ → List ℕ
sample_text Eight sample = sample ∷ []
sample_text Ten sample = two_bytes sample
sample_text Twelve sample = two_bytes sample

-- how many bytes a sample has
abbrev pub sample_size : Depth → ℕ
sample_size Eight = 1
sample_size Ten = 2
sample_size Twelve = 2

unfoldable pub row_text : Depth → List ℕ → List ℕ
row_text depth row = flat_map (sample_text depth) row

-- `count` rows of a map, each of `width` samples, from row `from` on
unfoldable pub rows_text : Depth → ℕ → Map → ℕ → ℕ → List ℕ
rows_text depth width m from count = flat_map (λ y. row_text depth (row_of m y 0 width)) (range_with_len from count)

unfoldable pub plane_text : Shape → FrameMap → Plane → List ℕ
plane_text shape frame plane = rows_text shape.depth (plane_width shape plane) (frame plane) 0 (plane_height shape plane)

unfoldable pub frame_text : Shape → FrameMap → List ℕ
frame_text shape frame = plane_text shape frame Y ++ plane_text shape frame U ++ plane_text shape frame V
