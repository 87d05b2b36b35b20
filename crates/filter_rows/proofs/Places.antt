-- Where the buffer stands.
use Rattle.std.proofs.Common.{◌≡◌, ◌<◌, ◌≤◌, ◌+◌, ◌*◌, ◌-◌, ℕ, Bool, true, false, refl, sym, arith, min, subst}
use Rattle.vp9_types.specs.Shapes.{halved, coded_height}
use Rattle.vp9_types.specs.declared.shape.Plane.{Plane}
use Rattle.vp9_types.specs.declared.shape.Plane.TheVariants.{Y, U, V}
use Rattle.vp9_types.specs.declared.shape.Shape.{Shape}
use Rattle.planes.specs.Planes.{lower_end}
use Rattle.planes.specs.Pictures.{coded_area}
use Rattle.planes.specs.declared.area.Area.{Area}
use Rattle.planes.specs.declared.frame_planes.FramePlanes.{FramePlanes}
use Rattle.loop_edges.specs.Cells.{sub_y}
use Rattle.loop_filter.specs.Code.{HasFilterRows, HoldsFilterRows}
use Rattle.loop_filter.specs.Laws.{first_changed, first_own}
use Rattle.filter_rows.specs.Buffer.{buffer_rows, buffer_start, buffer_area, StandsAt}

reaches : (sub : Bool) (end sr : ℕ) → min end (halved sub (64 * (sr + 1))) ≤ min (halved sub (64 * sr) - 8) (end - min end (halved sub 64 + 8)) + min end (halved sub 64 + 8)
reaches true end sr = omega arith
reaches false end sr = omega arith

-- it has the rows that the filter looks at
pub fits : (shape : Shape) (plane : Plane) (sr : ℕ) → HasFilterRows shape plane sr (buffer_area shape plane sr)
fits shape plane sr = record {
  above = omega arith;
  below = reaches (sub_y shape plane) (coded_height shape plane) sr;
  end = omega arith;
  left = refl;
  right = omega arith;
}

pub room_for : (shape : Shape) (plane : Plane) (sr : ℕ) (a : Area) → a ≡ buffer_area shape plane sr → HasFilterRows shape plane sr a
room_for shape plane sr a is = subst (HasFilterRows shape plane sr) (sym is) (fits shape plane sr)

pub holds_rows : {X : Type 0} (shape : Shape) (sr : ℕ) (planes : FramePlanes X) → StandsAt shape sr planes → HoldsFilterRows shape sr planes
holds_rows shape sr planes at = record { y = room_for shape Y sr planes.y.area at.y; u = room_for shape U sr planes.u.area at.u; v = room_for shape V sr planes.v.area at.v }

-- the pending rows of the next row of superblocks are in it before it moves, and behind
pub pending_from : (shape : Shape) (plane : Plane) (sr y : ℕ) → first_changed shape plane sr ≤ y → buffer_start shape plane sr ≤ y
pending_from shape plane sr y low = omega (arith, low)

pub pending_to : (shape : Shape) (plane : Plane) (sr y : ℕ) → y < first_own shape plane (sr + 1) → y < lower_end (buffer_area shape plane sr)
pending_to shape plane sr y high = let all = (fits shape plane sr).below in omega (arith, all, high)

abbrev area_by : ℕ → ℕ → ℕ → Area
area_by first rows columns = record { first_row = first; first_column = 0; rows = rows; columns = columns }

pub area_is : (shape : Shape) (plane : Plane) (sr : ℕ) (whole : Area) (ss : Bool) (rows changed first : ℕ) → whole ≡ coded_area shape plane → ss ≡ sub_y shape plane
    → rows ≡ min whole.rows (halved ss 64 + 8) → changed ≡ halved ss (64 * sr) - 8 → first ≡ min changed (whole.rows - rows)
    → area_by first rows whole.columns ≡ buffer_area shape plane sr
area_is shape plane sr whole ss rows changed first whole_is ss_is rows_is changed_is first_is = rw (first_is, rows_is, changed_is, ss_is, whole_is) refl
