-- Strips side by side, the k-th of the k-th tile column, which are a row of superblocks of a frame before the loop filter.
use Rattle.std.specs.Prelude.{ℕ, ◌≡◌, ◌<◌, ◌≤◌, ◌-◌, List, get_or, length}
use Rattle.std.specs.List.{All}
use Rattle.vp9_types.specs.Maps.{FrameMap}
use Rattle.vp9_types.specs.Shapes.{coded_width, mi_rows}
use Rattle.vp9_types.specs.Sizes.{superblocks_along}
use Rattle.vp9_types.specs.declared.shape.Plane.{Plane}
use Rattle.vp9_types.specs.declared.shape.Shape.{Shape}
use Rattle.planes.specs.Planes.{lower_end, right_end}
use Rattle.planes.specs.Pictures.{IsInRange, plane_of, samples_of}
use Rattle.planes.specs.declared.area.Area.{Area}
use Rattle.planes.specs.declared.frame_planes.FramePlanes.{FramePlanes}
use Rattle.plane_parts.specs.PlaneParts.{IsInArea}
use Rattle.loop_filter.specs.Laws.{first_own, lower_end_of}

-- the rows of an area from one of them on
abbrev pub rows_from : ℕ → Area → Area
rows_from row a = record a { first_row = row; rows = lower_end a - row }

-- an area of a plane has all rows of a row of superblocks and none below them, in some of the plane's columns
pub record HasOwnRows (shape : Shape) (p : Plane) (r : ℕ) (a : Area) : Type 0 where
  pub top : a.first_row ≤ first_own shape p r
  pub bottom : lower_end a ≡ lower_end_of shape p r
  pub right : right_end a ≤ coded_width shape p

-- A strip, which may have the row above it too, has the frame's samples in its part of the row.
pub record IsPartOfRow {X : Type 0} (shape : Shape) (raw : FrameMap) (r : ℕ) (f : FramePlanes X) : Type 0 where
  pub areas : (p : Plane) → HasOwnRows shape p r (plane_of f p).area
  pub range : IsInRange shape.depth f
  pub samples : (p : Plane) (y x : ℕ) → IsInArea (rows_from (first_own shape p r) (plane_of f p).area) y x → samples_of f p y x ≡ raw p y x

-- one of them has a column of a plane
pub record HasColumn {X : Type 0} (strips : List (FramePlanes X)) (p : Plane) (x : ℕ) : Type 0 where
  pub number : ℕ
  pub low : number < length strips
  pub column : (d : FramePlanes X) → ((plane_of (get_or strips number d) p).area.first_column ≤ x) × (x < right_end (plane_of (get_or strips number d) p).area)

-- Each is a part of row r of superblocks, and together they have all columns. Right of its coded width a frame is 0.
pub record AreRow {X : Type 0} (shape : Shape) (raw : FrameMap) (r : ℕ) (strips : List (FramePlanes X)) : Type 0 where
  pub row : r < superblocks_along (mi_rows shape)
  pub parts : All (IsPartOfRow shape raw r) strips
  pub columns : (p : Plane) (x : ℕ) → x < coded_width shape p → HasColumn strips p x
  pub edge : (p : Plane) (y x : ℕ) → coded_width shape p ≤ x → raw p y x ≡ 0
