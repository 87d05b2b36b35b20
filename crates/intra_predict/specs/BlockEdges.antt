-- The samples that a block is predicted from (8.5.1.1 of the standard): aboveRow with the sample in the corner, and leftCol.
use Rattle.std.specs.Prelude.{ℕ, ◌+◌, ◌-◌, ◌*◌, ◌&&◌, ◌||◌, Bool, List, map, min, nat_lt, nat_eq, if◌then◌else◌}
use Rattle.std.specs.List.{range_with_len}
use Rattle.vp9_types.specs.Maps.{Map}
use Rattle.vp9_types.specs.declared.shape.Depth.{Depth}
use Rattle.intra_predict.specs.SampleSizes.{middle}
use Rattle.intra_predict.specs.declared.place.IntraPlace.{IntraPlace}

pub record EdgeSamples : Type 0 where
  pub above : List ℕ  -- A[0], A[1], .. A[2 * size - 1]
  pub left : List ℕ  -- L[0], L[1], .. L[size - 1]
  pub corner : ℕ  -- A[-1]
  pub has_above : Bool
  pub has_left : Bool

-- haveAbove: the transform block doesn't begin in the plane's first row; haveLeft: nor in its tile's first column
abbrev pub has_above : IntraPlace → Bool
has_above p = nat_lt 0 p.row

abbrev pub has_left : IntraPlace → Bool
has_left p = nat_lt p.tile_from p.column

-- A[size] and on are read from the plane only for a 4x4 transform block behind which its coded block goes on to the right; else they repeat
-- A[size - 1]
abbrev pub reads_right : ℕ → IntraPlace → Bool
reads_right size p = nat_eq size 4 && nat_lt (p.column + 4) p.block_end

-- the column that A[j] is read in, at most the last one of the plane; width and height are those of the coded plane
abbrev pub above_column : ℕ → ℕ → IntraPlace → ℕ → ℕ
above_column width size p j = min (width - 1) (p.column + (if nat_lt j size || reads_right size p then j else size - 1))

abbrev pub above_sample : ℕ → Depth → ℕ → IntraPlace → Map → ℕ → ℕ
above_sample width depth size p m j =
    if has_above p then m (p.row - 1) (above_column width size p j) else middle depth - 1

-- the last row inside stands for those below it
abbrev pub left_sample : ℕ → Depth → IntraPlace → Map → ℕ → ℕ
left_sample height depth p m i =
    if has_left p then m (min (height - 1) (p.row + i)) (p.column - 1) else middle depth + 1

abbrev pub corner_sample : Depth → IntraPlace → Map → ℕ
corner_sample depth p m =
    if has_above p then (if has_left p then m (p.row - 1) (p.column - 1) else middle depth + 1) else middle depth - 1

-- the edges of the block at a place, in a plane of a width and height
unfoldable pub edges_in : ℕ → ℕ → Depth → ℕ → IntraPlace → Map → EdgeSamples
edges_in width height depth size p m = record {
  above = map (above_sample width depth size p m) (range_with_len 0 (2 * size));
  left = map (left_sample height depth p m) (range_with_len 0 size);
  corner = corner_sample depth p m;
  has_above = has_above p;
  has_left = has_left p;
}
