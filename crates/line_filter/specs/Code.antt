-- What the code keeps of lines: eight of them at a time, as lanes.
use Rattle.std.specs.Prelude.{ℕ, ◌+◌, ◌-◌, ◌*◌, ◌<◌, ◌≤◌, ◌≡◌, Bool, false, not, ◌&&◌, if◌then◌else◌, List, [], ◌∷◌, get_or, min, nat_eq, slice_index}
use Rattle.vp9_types.specs.Maps.{Map}
use Rattle.planes.specs.declared.area.Area.{Area}
use Rattle.planes.specs.Planes.{lower_end, right_end, with_part}
use Rattle.line_filter.specs.declared.edge.Edge.{Edge}
use Rattle.line_filter.specs.declared.edge.Limits.{Limits}
use Rattle.line_filter.specs.declared.edge.Pass.{Pass}
use Rattle.line_filter.specs.declared.edge.Pass.TheVariants.{Vertical, Horizontal}
use Rattle.line_filter.specs.declared.far.Far.{Far}
use Rattle.line_filter.specs.declared.lanes.Lanes.{Lanes}
use Rattle.line_filter.specs.declared.lanes.Rows.{Rows}
use Rattle.line_filter.specs.declared.near.Near.{Near}
use Rattle.line_filter.specs.FilteredEdges.{reach, line_down, line_along, nth_of_line}
use Rattle.line_filter.specs.Lines.{Line, filter_mask, flat_mask, flat_mask2, narrow_filter, wide_filter}

-- four samples on each side
abbrev pub line_of : Near → Line
line_of x = record { p = x.p0 ∷ x.p1 ∷ x.p2 ∷ x.p3 ∷ []; q = x.q0 ∷ x.q1 ∷ x.q2 ∷ x.q3 ∷ [] }

-- eight samples on each side
abbrev pub wide_line_of : Near → Far → Line
wide_line_of x y = record {
  p = x.p0 ∷ x.p1 ∷ x.p2 ∷ x.p3 ∷ y.p4 ∷ y.p5 ∷ y.p6 ∷ y.p7 ∷ [];
  q = x.q0 ∷ x.q1 ∷ x.q2 ∷ x.q3 ∷ y.q4 ∷ y.q5 ∷ y.q6 ∷ y.q7 ∷ [];
}

-- samples of 12 bits at most
pub record IsNear (x : Near) : Type 0 where
  pub p3 : x.p3 ≤ 4095
  pub p2 : x.p2 ≤ 4095
  pub p1 : x.p1 ≤ 4095
  pub p0 : x.p0 ≤ 4095
  pub q0 : x.q0 ≤ 4095
  pub q1 : x.q1 ≤ 4095
  pub q2 : x.q2 ≤ 4095
  pub q3 : x.q3 ≤ 4095

pub record IsFar (x : Far) : Type 0 where
  pub p7 : x.p7 ≤ 4095
  pub p6 : x.p6 ≤ 4095
  pub p5 : x.p5 ≤ 4095
  pub p4 : x.p4 ≤ 4095
  pub q4 : x.q4 ≤ 4095
  pub q5 : x.q5 ≤ 4095
  pub q6 : x.q6 ≤ 4095
  pub q7 : x.q7 ≤ 4095

-- rows, sample by sample
abbrev pub lanes_of : Rows → Lanes
lanes_of x = record { r0 = x.r0; r1 = x.r1; r2 = x.r2; r3 = x.r3; r4 = x.r4; r5 = x.r5; r6 = x.r6; r7 = x.r7 }

-- rows, one behind another
abbrev pub lanes_from : List (List ℕ) → Lanes
lanes_from rows = record {
  r0 = get_or rows 0 [];
  r1 = get_or rows 1 [];
  r2 = get_or rows 2 [];
  r3 = get_or rows 3 [];
  r4 = get_or rows 4 [];
  r5 = get_or rows 5 [];
  r6 = get_or rows 6 [];
  r7 = get_or rows 7 [];
}

-- column j of four rows above an edge and four below it
unfoldable pub near_at : Lanes → ℕ → Near
near_at x j = record {
  p3 = slice_index x.r0 j;
  p2 = slice_index x.r1 j;
  p1 = slice_index x.r2 j;
  p0 = slice_index x.r3 j;
  q0 = slice_index x.r4 j;
  q1 = slice_index x.r5 j;
  q2 = slice_index x.r6 j;
  q3 = slice_index x.r7 j;
}

-- column j of eight rows above an edge and eight below it: the samples next to the edge, and the others
unfoldable pub near_between : Lanes → Lanes → ℕ → Near
near_between a b j = record {
  p3 = slice_index a.r4 j;
  p2 = slice_index a.r5 j;
  p1 = slice_index a.r6 j;
  p0 = slice_index a.r7 j;
  q0 = slice_index b.r0 j;
  q1 = slice_index b.r1 j;
  q2 = slice_index b.r2 j;
  q3 = slice_index b.r3 j;
}

unfoldable pub far_between : Lanes → Lanes → ℕ → Far
far_between a b j = record {
  p7 = slice_index a.r0 j;
  p6 = slice_index a.r1 j;
  p5 = slice_index a.r2 j;
  p4 = slice_index a.r3 j;
  q4 = slice_index b.r4 j;
  q5 = slice_index b.r5 j;
  q6 = slice_index b.r6 j;
  q7 = slice_index b.r7 j;
}

-- the four rows on each side
abbrev pub between : Lanes → Lanes → Lanes
between a b = record { r0 = a.r4; r1 = a.r5; r2 = a.r6; r3 = a.r7; r4 = b.r0; r5 = b.r1; r6 = b.r2; r7 = b.r3 }

-- column j of both, as a line
abbrev pub line_between : Lanes → Lanes → ℕ → Line
line_between a b j = wide_line_of (near_between a b j) (far_between a b j)

-- the filters change none of the first n columns, and the widest one none
abbrev pub AreNotCalm : Limits → Lanes → Lanes → ℕ → Type 0
AreNotCalm l a b n = (j : ℕ) → j < n → filter_mask l (line_between a b j) ≡ false

abbrev pub is_flat_far : Limits → Line → Bool
is_flat_far l x = filter_mask l x && (flat_mask l x && flat_mask2 l x)

abbrev pub AreNotFlat : Limits → Lanes → Lanes → ℕ → Type 0
AreNotFlat l a b n = (j : ℕ) → j < n → is_flat_far l (line_between a b j) ≡ false

-- the widest filter changes each of the first n columns that any filter changes
abbrev pub is_near_alone : Limits → Line → Bool
is_near_alone l x = filter_mask l x && not (flat_mask l x && flat_mask2 l x)

abbrev pub AreFlat : Limits → Lanes → Lanes → ℕ → Type 0
AreFlat l a b n = (j : ℕ) → j < n → is_near_alone l (line_between a b j) ≡ false

-- a line by one of the filters, where that changes it
abbrev pub narrowed : Limits → Line → Line
narrowed l x = if filter_mask l x then narrow_filter l x else x

abbrev pub smoothed : Limits → Line → Line
smoothed l x = if filter_mask l x then wide_filter 3 x else x

abbrev pub smoothed_far : Limits → Line → Line
smoothed_far l x = if filter_mask l x then wide_filter 7 x else x

-- a line is one for the wider filter, or for the narrow one
abbrev pub is_smoothed : Limits → Line → Bool
is_smoothed l x = filter_mask l x && flat_mask l x

abbrev pub is_narrowed : Limits → Line → Bool
is_narrowed l x = filter_mask l x && not (flat_mask l x)

-- none of the first n columns is such a line
abbrev pub NoneIs : (Line → Bool) → Lanes → ℕ → Type 0
NoneIs test x n = (j : ℕ) → j < n → test (line_of (near_at x j)) ≡ false

-- eight rows of eight samples are a part of a map
pub record AreLanes (x : Lanes) (f : ℕ → ℕ → ℕ) : Type 0 where
  pub r0 : (j : ℕ) → j < 8 → slice_index x.r0 j ≡ f 0 j
  pub r1 : (j : ℕ) → j < 8 → slice_index x.r1 j ≡ f 1 j
  pub r2 : (j : ℕ) → j < 8 → slice_index x.r2 j ≡ f 2 j
  pub r3 : (j : ℕ) → j < 8 → slice_index x.r3 j ≡ f 3 j
  pub r4 : (j : ℕ) → j < 8 → slice_index x.r4 j ≡ f 4 j
  pub r5 : (j : ℕ) → j < 8 → slice_index x.r5 j ≡ f 5 j
  pub r6 : (j : ℕ) → j < 8 → slice_index x.r6 j ≡ f 6 j
  pub r7 : (j : ℕ) → j < 8 → slice_index x.r7 j ≡ f 7 j

-- the i-th of eight rows
unfoldable pub lane_at : Lanes → ℕ → List ℕ
lane_at x i =
    if nat_eq i 0 then x.r0 else (if nat_eq i 1 then x.r1 else (if nat_eq i 2 then x.r2 else (if nat_eq i 3 then x.r3
    else (if nat_eq i 4 then x.r4 else (if nat_eq i 5 then x.r5 else (if nat_eq i 6 then x.r6 else x.r7))))))

abbrev pub IsRowAtMost : ℕ → List ℕ → Type 0
IsRowAtMost most row = (j : ℕ) → j < 8 → slice_index row j ≤ most

-- none of them is greater
pub record AreLanesAtMost (most : ℕ) (x : Lanes) : Type 0 where
  pub r0 : (j : ℕ) → j < 8 → slice_index x.r0 j ≤ most
  pub r1 : (j : ℕ) → j < 8 → slice_index x.r1 j ≤ most
  pub r2 : (j : ℕ) → j < 8 → slice_index x.r2 j ≤ most
  pub r3 : (j : ℕ) → j < 8 → slice_index x.r3 j ≤ most
  pub r4 : (j : ℕ) → j < 8 → slice_index x.r4 j ≤ most
  pub r5 : (j : ℕ) → j < 8 → slice_index x.r5 j ≤ most
  pub r6 : (j : ℕ) → j < 8 → slice_index x.r6 j ≤ most
  pub r7 : (j : ℕ) → j < 8 → slice_index x.r7 j ≤ most

-- an area has the samples that the filter looks at; all lines of the edge go on to the area's end, or there are eight
pub record IsAcross (a : Area) (e : Edge) : Type 0 where
  pub above : a.first_row + reach e.width ≤ e.row
  pub below : e.row + reach e.width ≤ lower_end a
  pub left : a.first_column ≤ e.column
  pub right : e.column ≤ right_end a
  pub lines : e.lines ≡ min 8 (right_end a - e.column)

pub record IsAlong (a : Area) (e : Edge) : Type 0 where
  pub above : a.first_row ≤ e.row
  pub below : e.row ≤ lower_end a
  pub left : a.first_column + reach e.width ≤ e.column
  pub right : e.column + reach e.width ≤ right_end a
  pub lines : e.lines ≡ min 8 (lower_end a - e.row)

abbrev pub IsEdgeBy : Area → Edge → Pass → Type 0
IsEdgeBy a e Vertical = IsAlong a e
IsEdgeBy a e Horizontal = IsAcross a e

abbrev pub IsEdgeIn : Area → Edge → Type 0
IsEdgeIn a e = IsEdgeBy a e e.pass

-- the samples of column k, from above
abbrev pub down : Lanes → ℕ → List ℕ
down x k = slice_index x.r0 k ∷ slice_index x.r1 k ∷ slice_index x.r2 k ∷ slice_index x.r3 k
    ∷ slice_index x.r4 k ∷ slice_index x.r5 k ∷ slice_index x.r6 k ∷ slice_index x.r7 k ∷ []

-- columns as rows
unfoldable pub turned : Lanes → Lanes
turned x = record {
  r0 = down x 0;
  r1 = down x 1;
  r2 = down x 2;
  r3 = down x 3;
  r4 = down x 4;
  r5 = down x 5;
  r6 = down x 6;
  r7 = down x 7;
}

-- the first four samples of two rows by turns, and the last four
abbrev pub upper_woven : List ℕ → List ℕ → List ℕ
upper_woven a b = slice_index a 0 ∷ slice_index b 0 ∷ slice_index a 1 ∷ slice_index b 1 ∷ slice_index a 2 ∷ slice_index b 2 ∷ slice_index a 3 ∷ slice_index b 3 ∷ []

abbrev pub lower_woven : List ℕ → List ℕ → List ℕ
lower_woven a b = slice_index a 4 ∷ slice_index b 4 ∷ slice_index a 5 ∷ slice_index b 5 ∷ slice_index a 6 ∷ slice_index b 6 ∷ slice_index a 7 ∷ slice_index b 7 ∷ []

-- eight rows of eight samples, from a row and column on, are in an area
pub record HasSquare (a : Area) (row column : ℕ) : Type 0 where
  pub above : a.first_row ≤ row
  pub below : row + 8 ≤ lower_end a
  pub left : a.first_column ≤ column
  pub right : column + 8 ≤ right_end a

-- an area has n rows above a place and n from it on, and the place's column; or columns left of it and from it on
pub record IsAcrossBy (n : ℕ) (a : Area) (row column : ℕ) : Type 0 where
  pub above : a.first_row + n ≤ row
  pub below : row + n ≤ lower_end a
  pub left : a.first_column ≤ column
  pub right : column ≤ right_end a

pub record IsAlongBy (n : ℕ) (a : Area) (row column : ℕ) : Type 0 where
  pub above : a.first_row ≤ row
  pub below : row ≤ lower_end a
  pub left : a.first_column + n ≤ column
  pub right : column + n ≤ right_end a

-- eight columns, or rows, from a place on, changed across the edge there, as far as they are in the area
unfoldable pub down_filtered : ℕ → (Line → Line) → Area → Map → ℕ → ℕ → Map
down_filtered n f a m row column = with_part a m (row - n) column (2 * n) 8 (λ i j. nth_of_line n (f (line_down n m row (column + j))) i)

unfoldable pub along_filtered : ℕ → (Line → Line) → Area → Map → ℕ → ℕ → Map
along_filtered n f a m row column = with_part a m row (column - n) 8 (2 * n) (λ i j. nth_of_line n (f (line_along n m (row + i) column)) j)
