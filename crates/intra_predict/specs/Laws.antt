-- What the laws of intra prediction say of places and of the samples around them.
use Rattle.std.specs.Prelude.{ℕ, ◌+◌, ◌-◌, ◌*◌, ◌≡◌, ◌≤◌, ◌<◌, slice_index, if◌then◌else◌, Bool, ◌||◌, nat_lt}
use Rattle.vp9_types.specs.Maps.{Map}
use Rattle.intra_predict.specs.declared.place.IntraPlace.{IntraPlace}
use Rattle.intra_predict.specs.BlockEdges.{EdgeSamples, reads_right}
use Rattle.vp9_types.specs.Shapes.{halved}
use Rattle.intra_predict.specs.declared.coded.CodedBlock.{CodedBlock}

-- a place whose first sample is in a plane of a width and height
pub record IsInside (width height : ℕ) (p : IntraPlace) : Type 0 where
  pub high : p.row < height
  pub wide : p.column < width

-- no sample is greater
pub record IsUpTo (most : ℕ) (e : EdgeSamples) : Type 0 where
  pub above : (k : ℕ) → slice_index e.above k ≤ most
  pub left : (k : ℕ) → slice_index e.left k ≤ most
  pub corner : e.corner ≤ most

-- two maps that agree around the block: above it inside the tile, as far as the row above is read, and left of it
pub record AgreeAround (width height size : ℕ) (p : IntraPlace) (m n : Map) : Type 0 where
  pub above : 0 < p.row → (x : ℕ) → p.tile_from ≤ x → p.column ≤ x + 1
      → x < p.column + (if reads_right size p then 2 * size else size) → x < width → m (p.row - 1) x ≡ n (p.row - 1) x
  pub left : p.tile_from < p.column → (y : ℕ) → p.row ≤ y → y < p.row + size → y < height
      → m y (p.column - 1) ≡ n y (p.column - 1)

-- above is there below the frame's first row, and inside of the block
abbrev pub is_above_there : CodedBlock → ℕ → Bool
is_above_there b y = nat_lt 0 b.row || nat_lt 0 y

-- left is there past the tile's first column, and inside of the block
abbrev pub is_left_there : CodedBlock → ℕ → Bool
is_left_there b x = nat_lt b.tile_column b.column || nat_lt 0 x

-- another 4x4 block of the coded block lies right of it
abbrev pub is_right_inside : CodedBlock → ℕ → Bool
is_right_inside b x = nat_lt (x + 1) (halved b.ss_x (2 * b.columns))
