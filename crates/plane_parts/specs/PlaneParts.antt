-- Parts of a plane that are copied from another one. Rows and columns are those of the whole plane.
use Rattle.std.specs.Prelude.{ℕ, ◌<◌, ◌≤◌, ◌≡◌}
use Rattle.vp9_types.specs.Maps.{Map}
use Rattle.planes.specs.Planes.{lower_end, right_end}
use Rattle.planes.specs.declared.area.Area.{Area}

-- a row and column of an area
pub record IsInArea (a : Area) (y x : ℕ) : Type 0 where
  pub below : a.first_row ≤ y
  pub above : y < lower_end a
  pub behind : a.first_column ≤ x
  pub before : x < right_end a

-- an area that lies in another one
pub record LiesIn (part a : Area) : Type 0 where
  pub top : a.first_row ≤ part.first_row
  pub bottom : lower_end part ≤ lower_end a
  pub left : a.first_column ≤ part.first_column
  pub right : right_end part ≤ right_end a

-- In a part a plane has the samples of another one, and elsewhere its own.
pub record HasPart (part : Area) (from old new : Map) : Type 0 where
  pub inside : (y x : ℕ) → IsInArea part y x → new y x ≡ from y x
  pub outside : (y x : ℕ) → (IsInArea part y x → ⊥) → new y x ≡ old y x
