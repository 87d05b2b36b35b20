-- The samples of a frame: three planes with all places of 8x8 luma samples of the frame.
use Rattle.std.specs.Prelude.{◌≡◌, ◌≤◌}
use Rattle.vp9_types.specs.declared.shape.Depth.{Depth}
use Rattle.vp9_types.specs.declared.shape.Plane.{Plane}
use Rattle.vp9_types.specs.declared.shape.Plane.TheVariants.{Y, U, V}
use Rattle.vp9_types.specs.declared.shape.Shape.{Shape}
use Rattle.vp9_types.specs.Maps.{FrameMap, frame_map, IsAtMost}
use Rattle.vp9_types.specs.Shapes.{coded_width, coded_height}
use Rattle.vp9_types.specs.Sizes.{greatest}
use Rattle.planes.specs.declared.area.Area.{Area}
use Rattle.planes.specs.declared.frame_planes.FramePlanes.{FramePlanes}
use Rattle.planes.specs.declared.picture.Picture.{Picture}
use Rattle.planes.specs.Planes.{PlaneSamples, plane_map, whole_area}

-- a frame's sizes are at most these (frame_width_minus_1 has 16 bits, 7.2.2 of the standard)
pub record FitsPlanes (shape : Shape) : Type 0 where
  pub wide : shape.w ≤ 65536
  pub high : shape.h ≤ 65536

-- what is decoded of a plane
abbrev pub coded_area : Shape → Plane → Area
coded_area shape p = whole_area (coded_height shape p) (coded_width shape p)

abbrev pub plane_of : {X : Type 0} → FramePlanes X → Plane → PlaneSamples
plane_of f Y = f.y
plane_of f U = f.u
plane_of f V = f.v

-- plane, row, column, sample
abbrev pub samples_of : {X : Type 0} → FramePlanes X → FrameMap
samples_of f = frame_map (plane_map f.y) (plane_map f.u) (plane_map f.v)

abbrev pub map_of : {X : Type 0} → Picture X → FrameMap
map_of p = samples_of p.planes

-- each plane has all that is decoded of it
pub record HasSizes {X : Type 0} (shape : Shape) (f : FramePlanes X) : Type 0 where
  pub y : f.y.area ≡ coded_area shape Y
  pub u : f.u.area ≡ coded_area shape U
  pub v : f.v.area ≡ coded_area shape V

-- each sample is in the range of the depth
pub record IsInRange {X : Type 0} (depth : Depth) (f : FramePlanes X) : Type 0 where
  pub y : IsAtMost (greatest depth) (plane_map f.y)
  pub u : IsAtMost (greatest depth) (plane_map f.u)
  pub v : IsAtMost (greatest depth) (plane_map f.v)

-- zeros at each place
abbrev pub blank : FrameMap
blank = λ _ _ _. 0

pub record IsBlank {X : Type 0} (shape : Shape) (p : Picture X) : Type 0 where
  pub same : p.shape ≡ shape
  pub sizes : HasSizes shape p.planes
  pub range : IsInRange shape.depth p.planes
  pub map : map_of p ≡ blank
