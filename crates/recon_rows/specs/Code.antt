-- How a strip begins.
use Rattle.std.specs.Prelude.{ℕ, ◌≡◌, ◌<◌, Option, Some, None}
use Rattle.planes.specs.Planes.{plane_map}
use Rattle.planes.specs.Pictures.{blank, samples_of}
use Rattle.planes.specs.declared.area.Area.{Area}
use Rattle.planes.specs.declared.frame_planes.FramePlanes.{FramePlanes}
use Rattle.plane_parts.specs.PlaneParts.{HasPart, LiesIn}

-- an area's first row
abbrev pub first_row_of : Area → Area
first_row_of a = record a { rows = 1 }

-- an area has a first row, and another one has it too
pub record SharesFirstRow (a above : Area) : Type 0 where
  pub some : 0 < a.rows
  pub lies : LiesIn (first_row_of a) above

pub record ShareFirstRows {X : Type 0} (f above : FramePlanes X) : Type 0 where
  pub y : SharesFirstRow f.y.area above.y.area
  pub u : SharesFirstRow f.u.area above.u.area
  pub v : SharesFirstRow f.v.area above.v.area

-- zeros, but for the first row, which is that of the planes above
pub record BeginsBelow {X : Type 0} (above f : FramePlanes X) : Type 0 where
  pub y : HasPart (first_row_of f.y.area) (plane_map above.y) (λ _ _. 0) (plane_map f.y)
  pub u : HasPart (first_row_of f.u.area) (plane_map above.u) (λ _ _. 0) (plane_map f.u)
  pub v : HasPart (first_row_of f.v.area) (plane_map above.v) (λ _ _. 0) (plane_map f.v)

abbrev pub Begins : {X : Type 0} → Option (FramePlanes X) → FramePlanes X → Type 0
Begins None f = samples_of f ≡ blank
Begins (Some above) f = BeginsBelow above f
