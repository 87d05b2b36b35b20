-- Rows of a plane, and the bands that they lie in.
use Rattle.std.proofs.Common.{◌≡◌, ◌<◌, ◌≤◌, ◌+◌, ◌*◌, ◌/◌, ℕ, Bool, true, false, refl, arith}
use Rattle.vp9_types.specs.Shapes.{halved, subsampled_size, plane_height, coded_height, bands_of}
use Rattle.vp9_types.specs.declared.shape.Plane.{Plane}
use Rattle.vp9_types.specs.declared.shape.Plane.TheVariants.{Y, U, V}
use Rattle.vp9_types.specs.declared.shape.Shape.{Shape}
use Rattle.inter_places.specs.Places.{IsReference}
use Rattle.band_cells.specs.Bands.{band_height}
use Rattle.band_needs.specs.BandReads.{band_height as needed_height}

pub same_height : (shape : Shape) (p : Plane) → needed_height shape p ≡ band_height shape p
same_height shape Y = refl
same_height shape U = refl
same_height shape V = refl

within : (sub : Bool) (h : ℕ) → subsampled_size h sub ≤ halved sub (8 * ((h + 7) / 8))
within true h = omega arith
within false h = omega arith

-- what is shown of a plane is among what is decoded of it
pub shown_rows : (shape : Shape) (p : Plane) → plane_height shape p ≤ coded_height shape p
shown_rows shape Y = within false shape.h
shown_rows shape U = within shape.ss_y shape.h
shown_rows shape V = within shape.ss_y shape.h

band_of : (sub : Bool) (h y : ℕ) → y < subsampled_size h sub → y / halved sub 64 < (h + 63) / 64
band_of true h y low = omega (arith, low)
band_of false h y low = omega (arith, low)

-- so a row that is shown lies in a band of the frame
pub band_inside : (shape : Shape) (p : Plane) (y : ℕ) → y < plane_height shape p → y / band_height shape p < bands_of shape
band_inside shape Y y low = band_of false shape.h y low
band_inside shape U y low = band_of shape.ss_y shape.h y low
band_inside shape V y low = band_of shape.ss_y shape.h y low

halved_some : (n : ℕ) (ss : Bool) → 0 < n → 0 < subsampled_size n ss
halved_some n true some = omega (arith, some)
halved_some n false some = some

-- a reference in range has a row
pub some_length : (shape reference : Shape) (p : Plane) → IsReference shape reference → 0 < plane_height reference p
some_length shape reference Y is = omega (arith, is.down.some, is.down.small)
some_length shape reference U is = let some : 0 < reference.h = omega (arith, is.down.some, is.down.small) in halved_some reference.h reference.ss_y some
some_length shape reference V is = let some : 0 < reference.h = omega (arith, is.down.some, is.down.small) in halved_some reference.h reference.ss_y some
