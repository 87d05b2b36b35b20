-- The rows that a block is predicted from are in the plane.
use Rattle.std.proofs.Common.{◌≡◌, ℕ, ◌≤◌, ◌<◌, ◌-◌, arith}
use Rattle.inter_places.specs.declared.axis.Axis.{Axis}
use Rattle.inter_places.specs.Axes.{last_place}
use Rattle.inter_predict.proofs.Agree.{place_below}

pub row_inside : (a : Axis) (rows r size : ℕ) → a.size ≡ size → 0 < size → r ≤ last_place a rows → r < size
row_inside a rows r size is some low = omega (arith, is, place_below a (rows - 1) 7 (omega (arith, is, some)))
