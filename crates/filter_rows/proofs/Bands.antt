-- The rows of a band.
use Rattle.std.proofs.Common.{◌≡◌, ◌<◌, ◌≤◌, ◌+◌, ◌*◌, ◌-◌, inl, inr, ℕ, Bool, true, false, refl, arith, min}
use Rattle.std.proofs.lemmas.Bool.{cases_lt, lt-ltb, le-ltb}
use Rattle.vp9_types.specs.Shapes.{halved, mi_rows, coded_height}
use Rattle.vp9_types.specs.Sizes.{superblocks_along}
use Rattle.vp9_types.specs.declared.shape.Plane.{Plane}
use Rattle.vp9_types.specs.declared.shape.Plane.TheVariants.{Y, U, V}
use Rattle.vp9_types.specs.declared.shape.Shape.{Shape}
use Rattle.band_cells.specs.Bands.{band_height}
use Rattle.loop_edges.specs.Cells.{sub_y}
use Rattle.loop_filter.proofs.Following.{whole_rows}
use Rattle.loop_filter.proofs.Sides as sides
use Rattle.filter_rows.proofs.Places.{pending_from, pending_to}
use Rattle.loop_filter.specs.Laws.{first_changed, first_own, lower_end_of, final_end}
use Rattle.filter_rows.specs.Laws.{IsOwnRow, BandsAreRows, BandIsWhole, FinalRowIsHeld}

pub same_height : (shape : Shape) (plane : Plane) → band_height shape plane ≡ halved (sub_y shape plane) 64
same_height shape Y = refl
same_height shape U = refl
same_height shape V = refl

-- the rows of a band, and those of a row of superblocks, by the height of a band
record Rows (end height band : ℕ) (first below : ℕ) : Type 0 where
  first_is : first ≡ min end (band * height)
  below_is : below ≡ min end (band * height + height)

rows_by : (sub : Bool) (end band : ℕ) → Rows end (halved sub 64) band (min end (halved sub (64 * band))) (min end (halved sub (64 * (band + 1))))
rows_by true end band = record { first_is = omega arith; below_is = omega arith }
rows_by false end band = record { first_is = omega arith; below_is = omega arith }

rows_of_band : (shape : Shape) (plane : Plane) (band : ℕ) → Rows (coded_height shape plane) (band_height shape plane) band (first_own shape plane band) (lower_end_of shape plane band)
rows_of_band shape plane band = rw (same_height shape plane) (rows_by (sub_y shape plane) (coded_height shape plane) band)

pub bands_are_rows : (shape : Shape) (plane : Plane) (band y : ℕ) → BandsAreRows shape plane band y
bands_are_rows shape plane band y =
    let is = rows_of_band shape plane band in
    record {
      own = λ row. record { from = omega (arith, row.from, row.to, is.first_is); to = omega (arith, row.from, row.to, is.below_is) };
      back = λ own. record { from = omega (arith, own.from, own.to, is.first_is, is.below_is); to = omega (arith, own.from, own.to, is.first_is, is.below_is) };
    }

-- the eight last rows of a band come with the next row of superblocks
comes_next : (sub : Bool) (band y : ℕ) → halved sub (64 * (band + 1)) - 8 ≤ y → y < halved sub (64 * (band + 1)) → y < halved sub (64 * (band + 1 + 1)) - 8
comes_next true band y low high = omega (arith, low, high)
comes_next false band y low high = omega (arith, low, high)

changed_low : (sub : Bool) (end band y : ℕ) → min end (halved sub (64 * band)) ≤ y → y < end → halved sub (64 * band) - 8 ≤ y
changed_low true end band y low inside = omega (arith, low, inside)
changed_low false end band y low inside = omega (arith, low, inside)

last_comes : (shape : Shape) (plane : Plane) (band y : ℕ) → first_changed shape plane (band + 1) ≤ y → IsOwnRow shape plane band y → y < final_end shape plane (band + 1)
last_comes shape plane band y low own = elim (cases_lt (band + 1 + 1) (superblocks_along (mi_rows shape))) [
  | inl more ↦ rw (lt-ltb (band + 1 + 1) (superblocks_along (mi_rows shape)) more) (comes_next (sub_y shape plane) band y low (omega (arith, own.to)))
  | inr last ↦ rw (le-ltb (band + 1 + 1) (superblocks_along (mi_rows shape)) last) (further (sub_y shape plane) (coded_height shape plane) band y own.to)
]
  where
    further : (sub : Bool) (end band y : ℕ) → y < min end (halved sub (64 * (band + 1))) → y < min end (halved sub (64 * (band + 1 + 1)))
    further true end band y high = omega (arith, high)
    further false end band y high = omega (arith, high)

pub band_is_whole : (shape : Shape) (plane : Plane) (band y : ℕ) → BandIsWhole shape plane band y
band_is_whole shape plane band y row =
    let own = (bands_are_rows shape plane band y).own row in
    let low = changed_low (sub_y shape plane) (coded_height shape plane) band y own.from (omega (arith, own.to)) in
    elim (cases_lt (band + 1) (superblocks_along (mi_rows shape))) [
      | inr last ↦ inl (record { from = low; to = rw (le-ltb (band + 1) (superblocks_along (mi_rows shape)) last) own.to })
      | inl more ↦ elim (cases_lt y (first_changed shape plane (band + 1))) [
        | inl now ↦ inl (record { from = low; to = rw (lt-ltb (band + 1) (superblocks_along (mi_rows shape)) more) now })
        | inr later ↦ inr (more, record { from = later; to = last_comes shape plane band y later own })
      ]
    ]

pub ends_low : (shape : Shape) (plane : Plane) (sr y : ℕ) → y < final_end shape plane sr → y < lower_end_of shape plane sr
ends_low shape plane sr y high = elim (cases_lt (sr + 1) (superblocks_along (mi_rows shape))) [
  | inl more ↦ whole_rows (sub_y shape plane) sr (mi_rows shape) (coded_height shape plane) y more (sides.high shape plane) (rw (lt-ltb (sr + 1) (superblocks_along (mi_rows shape)) more) at high)
  | inr last ↦ rw (le-ltb (sr + 1) (superblocks_along (mi_rows shape)) last) at high
]

-- what becomes final is in the buffer
pub final_rows_held : (shape : Shape) (plane : Plane) (sr y : ℕ) → FinalRowIsHeld shape plane sr y
final_rows_held shape plane sr y is = record {
  above = pending_from shape plane sr y is.from;
  below = pending_to shape plane sr y (ends_low shape plane sr y is.to);
  left = omega arith;
  right = omega arith;
}
