-- A part of a frame's plane, as a map in the frame's coordinates.
use Rattle.std.specs.Prelude.{ℕ, ◌+◌, ◌-◌, ◌≤◌, ◌<◌, ◌&&◌, List, min, nat_le, if◌then◌else◌}
use Rattle.vp9_types.specs.Maps.{Map, rows_of, with_block}
use Rattle.planes.specs.declared.area.Area.{Area}

-- the samples of an area, row after row
pub record PlaneSamples : Type 0 where
  pub area : Area
  pub samples : List ℕ

-- the whole of a plane
abbrev pub whole_area : ℕ → ℕ → Area
whole_area rows columns = record { first_row = 0; first_column = 0; rows = rows; columns = columns }

-- the first row below an area, and the first column right of it
abbrev pub lower_end : Area → ℕ
lower_end a = a.first_row + a.rows

abbrev pub right_end : Area → ℕ
right_end a = a.first_column + a.columns

-- a map whose first row and column are these: above and left of it all is 0
unfoldable pub moved_to : ℕ → ℕ → Map → Map
moved_to row column m = λ y x. if nat_le row y && nat_le column x then m (y - row) (x - column) else 0

-- row and column of the frame's plane, sample; 0 outside of the area
abbrev pub plane_map : PlaneSamples → Map
plane_map p = moved_to p.area.first_row p.area.first_column (rows_of p.area.columns p.samples)

-- an area of a frame of at most 65536 rows and columns
pub record IsArea (a : Area) : Type 0 where
  pub high : lower_end a ≤ 65536
  pub wide : right_end a ≤ 65536

-- a place of the area, or one just below or right of it
pub record StartsIn (a : Area) (row column : ℕ) : Type 0 where
  pub above : a.first_row ≤ row
  pub below : row ≤ lower_end a
  pub left : a.first_column ≤ column
  pub right : column ≤ right_end a

-- n samples of a row, from a column on, are in the area
pub record HasRow (a : Area) (row column n : ℕ) : Type 0 where
  pub above : a.first_row ≤ row
  pub below : row < lower_end a
  pub left : a.first_column ≤ column
  pub right : column + n ≤ right_end a

-- n samples of a column, from a row on, are in the area
pub record HasColumn (a : Area) (row column n : ℕ) : Type 0 where
  pub above : a.first_row ≤ row
  pub below : row + n ≤ lower_end a
  pub left : a.first_column ≤ column
  pub right : column < right_end a

-- a block put in at a row and column: what lies below or right of the area is left out
abbrev pub with_part : Area → Map → ℕ → ℕ → ℕ → ℕ → Map → Map
with_part a m row column rows columns block =
    with_block m row column (min rows (lower_end a - row)) (min columns (right_end a - column)) block
