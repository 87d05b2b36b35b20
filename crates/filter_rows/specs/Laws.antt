-- Bands, and rows that are final.
use Rattle.std.specs.Prelude.{ℕ, ◌+◌, ◌<◌, ◌≤◌, ◌⊎◌}
use Rattle.vp9_types.specs.declared.shape.Plane.{Plane}
use Rattle.vp9_types.specs.declared.shape.Shape.{Shape}
use Rattle.vp9_types.specs.Shapes.{mi_rows, coded_width}
use Rattle.vp9_types.specs.Sizes.{superblocks_along}
use Rattle.planes.specs.Planes.{HasRow}
use Rattle.band_cells.specs.Bands.{IsRowOf}
use Rattle.loop_filter.specs.Laws.{first_changed, first_own, lower_end_of, final_end}
use Rattle.filter_rows.specs.Buffer.{buffer_area}

-- a row of samples is one of a row of superblocks
pub record IsOwnRow (shape : Shape) (plane : Plane) (sr y : ℕ) : Type 0 where
  pub from : first_own shape plane sr ≤ y
  pub to : y < lower_end_of shape plane sr

-- it is final once that row of superblocks is filtered, and was not before
pub record BecomesFinal (shape : Shape) (plane : Plane) (sr y : ℕ) : Type 0 where
  pub from : first_changed shape plane sr ≤ y
  pub to : y < final_end shape plane sr

-- A band has the rows of the row of superblocks with its number.
pub record BandsAreRows (shape : Shape) (plane : Plane) (band y : ℕ) : Type 0 where
  pub own : IsRowOf shape plane band y → IsOwnRow shape plane band y
  pub back : IsOwnRow shape plane band y → IsRowOf shape plane band y

-- Each becomes final when that row of superblocks is filtered, or when the next one is: the last band is whole with its own.
abbrev pub BandIsWhole : Shape → Plane → ℕ → ℕ → Type 0
BandIsWhole shape plane band y = IsRowOf shape plane band y →
    BecomesFinal shape plane band y ⊎ ((band + 1 < superblocks_along (mi_rows shape)) × BecomesFinal shape plane (band + 1) y)

-- The buffer has what becomes final, so it can be taken out.
abbrev pub FinalRowIsHeld : Shape → Plane → ℕ → ℕ → Type 0
FinalRowIsHeld shape plane sr y = BecomesFinal shape plane sr y → HasRow (buffer_area shape plane sr) y 0 (coded_width shape plane)
