-- What the code holds of the samples around a block, and which part of a plane has them.
use Rattle.std.specs.Prelude.{ℕ, ◌-◌, ◌*◌, ◌≤◌, ◌<◌, take}
use Rattle.planes.specs.declared.area.Area.{Area}
use Rattle.planes.specs.Planes.{lower_end, right_end}
use Rattle.intra_predict.specs.declared.place.IntraPlace.{IntraPlace}
use Rattle.intra_predict.specs.declared.edges.Edges.{Edges}
use Rattle.intra_predict.specs.BlockEdges.{EdgeSamples, has_above, has_left}

-- a place in a part of a plane that has the samples around it too, where they are there
pub record LiesIn (a : Area) (p : IntraPlace) : Type 0 where
  pub top : a.first_row ≤ p.row
  pub bottom : p.row < lower_end a
  pub begin : a.first_column ≤ p.column
  pub end : p.column < right_end a
  pub above : 0 < p.row → a.first_row < p.row
  pub left : p.tile_from < p.column → a.first_column < p.column

-- those that the code's edges hold for a block of this size
abbrev pub samples_of : ℕ → Edges → EdgeSamples
samples_of size e = record {
  above = take (2 * size) e.above;
  left = take size e.left;
  corner = e.corner;
  has_above = e.has_above;
  has_left = e.has_left;
}
