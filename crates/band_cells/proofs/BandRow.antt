-- A row of a band, and its samples.
use Rattle.std.proofs.Common.{◌≡◌, ℕ, zero, suc, ◌+◌, ◌-◌, ◌*◌, ◌/◌, ◌<◌, ◌≤◌, ◌∷◌, min, Bool, true, false, List, length, get_or, Option, Some, IfSome, map, refl, sym, ◌∙◌, ap, arith, subst}
use Rattle.std.specs.List.{range_with_len}
use Rattle.vp9_types.specs.Maps.{IsPiece, row_of}
use Rattle.vp9_types.specs.Shapes.{halved, coded_width, coded_height}
use Rattle.vp9_types.specs.declared.job.BandSpan.{BandSpan}
use Rattle.vp9_types.specs.declared.shape.Plane.{Plane}
use Rattle.vp9_types.specs.declared.shape.Plane.TheVariants.{Y, U, V}
use Rattle.vp9_types.specs.declared.shape.Shape.{Shape}
use Rattle.planes.specs.Planes.{PlaneSamples, plane_map, HasRow}
use Rattle.planes.specs.Pictures.{plane_of}
use Rattle.band_cells.specs.declared.samples.BandName.{BandName}
use Rattle.band_cells.specs.declared.samples.BandSamples.{BandSamples}
use Rattle.band_cells.specs.Bands.{Picture, band_height, IsRowOf}
use Rattle.band_cells.proofs.Names.{same_length, found_name}
use Rattle.band_cells.specs.Code.{AreBandsOf, span_length, AreSamplesOf, IsPlaneOf, IsPieceOf, IsRowWithin, HasRow as HasBandRow, name_of, picture_row}

pub plane_is : {X : Type 0} (picture : Picture) (index : ℕ) (samples : BandSamples X) (plane : Plane) → AreSamplesOf picture index samples
    → IsPlaneOf picture plane index (plane_of samples.planes plane)
plane_is picture index samples Y are = are.1
plane_is picture index samples U are = are.2
plane_is picture index samples V are = are.3

-- a row of a band lies in its plane
pub row_held : (picture : Picture) (plane : Plane) (index y n : ℕ) (s : PlaneSamples) → IsPlaneOf picture plane index s → IsRowOf picture.shape plane index y
    → n ≡ s.area.columns → HasRow s.area y 0 n
row_held picture plane index y n s is row wide =
    rw (wide, is.0) (record { above = row.from; below = row.to; left = omega arith; right = omega arith })

mapped_range : {X : Type 0} (f g : ℕ → X) (a n : ℕ) → ((k : ℕ) → a ≤ k → k < a + n → f k ≡ g k) → map f (range_with_len a n) ≡ map g (range_with_len a n)
mapped_range f g a zero same = refl
mapped_range f g a (suc n) same =
    ap (λ x. x ∷ map f (range_with_len (a + 1) n)) (same a (omega arith) (omega arith))
    ∙ ap (λ l. g a ∷ l) (mapped_range f g (a + 1) n (λ k low high. same k (omega arith) (omega arith)))

-- and is there the picture's
pub row_is : (picture : Picture) (plane : Plane) (index y n : ℕ) (s : PlaneSamples) → IsPlaneOf picture plane index s → IsRowOf picture.shape plane index y
    → n ≡ s.area.columns → row_of (plane_map s) y 0 n ≡ picture_row picture plane y
row_is picture plane index y n s is row wide =
    let w = coded_width picture.shape plane in
    let all : n ≡ w = wide ∙ ap (λ a. a.columns) is.0 in
    rw all (mapped_range (plane_map s y) (picture.map plane y) 0 w (λ x low high. is.1 y x row (omega (arith, high))))

-- the same by the plane that the code takes out
pub plane_held : {X : Type 0} (picture : Picture) (index : ℕ) (samples : BandSamples X) (s : PlaneSamples) (plane : Plane) (y n : ℕ) → AreSamplesOf picture index samples
    → IsRowOf picture.shape plane index y → s ≡ plane_of samples.planes plane → n ≡ s.area.columns → HasRow s.area y 0 n
plane_held picture index samples s plane y n are row is wide =
    row_held picture plane index y n s (subst (λ z. IsPlaneOf picture plane index z) (sym is) (plane_is picture index samples plane are)) row wide

pub plane_row : {X : Type 0} (picture : Picture) (index : ℕ) (samples : BandSamples X) (s : PlaneSamples) (plane : Plane) (y n : ℕ) → AreSamplesOf picture index samples
    → IsRowOf picture.shape plane index y → s ≡ plane_of samples.planes plane → n ≡ s.area.columns → row_of (plane_map s) y 0 n ≡ picture_row picture plane y
plane_row picture index samples s plane y n are row is wide =
    row_is picture plane index y n s (subst (λ z. IsPlaneOf picture plane index z) (sym is) (plane_is picture index samples plane are)) row wide

---- Rows of a band in one piece ----

abbrev AreRowsOf : Picture → Plane → ℕ → ℕ → ℕ → Type 0
AreRowsOf picture plane index y n = (r : ℕ) → r < n → IsRowOf picture.shape plane index (y + r)

piece_is : (picture : Picture) (plane : Plane) (index y n stride : ℕ) (s : PlaneSamples) (ys : List ℕ) → IsPlaneOf picture plane index s → AreRowsOf picture plane index y n
    → IsPiece (plane_map s) s.area.columns y n ys stride → IsPieceOf picture plane y n ys stride
piece_is picture plane index y n stride s ys is rows piece =
    let wide : s.area.columns ≡ coded_width picture.shape plane = ap (λ a. a.columns) is.0 in
    record {
      value = λ r c high low. piece.value r c high (rw wide low) ∙ is.1 (y + r) c (rows r high) low;
      room = λ r high. omega (arith, piece.room r high, wide);
      near = piece.near;
    }

pub plane_held_at : {X : Type 0} (picture : Picture) (index : ℕ) (samples : BandSamples X) (s : PlaneSamples) (plane : Plane) (y n : ℕ) → AreSamplesOf picture index samples
    → AreRowsOf picture plane index y n → s ≡ plane_of samples.planes plane → (r : ℕ) → r < n → HasRow s.area (y + r) 0 s.area.columns
plane_held_at picture index samples s plane y n are rows is r low = plane_held picture index samples s plane (y + r) s.area.columns are (rows r low) is refl

pub plane_piece : {X : Type 0} (picture : Picture) (index : ℕ) (samples : BandSamples X) (s : PlaneSamples) (plane : Plane) (y n stride : ℕ) (ys : List ℕ) → AreSamplesOf picture index samples
    → AreRowsOf picture plane index y n → s ≡ plane_of samples.planes plane → IsPiece (plane_map s) s.area.columns y n ys stride → IsPieceOf picture plane y n ys stride
plane_piece picture index samples s plane y n stride ys are rows is piece =
    piece_is picture plane index y n stride s ys (subst (λ z. IsPlaneOf picture plane index z) (sym is) (plane_is picture index samples plane are)) rows piece

---- Of a span ----

some_height : (sub : Bool) (end y : ℕ) → y < end → (y / halved sub 64 * halved sub 64 ≤ y) × (y < y / halved sub 64 * halved sub 64 + min (halved sub 64) (end - y / halved sub 64 * halved sub 64))
some_height true end y inside = (omega arith, omega (arith, inside))
some_height false end y inside = (omega arith, omega (arith, inside))

-- a row of a frame is one of the band that its number falls into
pub row_of_band : (shape : Shape) (plane : Plane) (y : ℕ) → y < coded_height shape plane → IsRowOf shape plane (y / band_height shape plane) y
row_of_band shape Y y inside = let is = some_height false (coded_height shape Y) y inside in record { from = is.0; to = is.1 }
row_of_band shape U y inside = let is = some_height shape.ss_y (coded_height shape U) y inside in record { from = is.0; to = is.1 }
row_of_band shape V y inside = let is = some_height shape.ss_y (coded_height shape V) y inside in record { from = is.0; to = is.1 }

module _ (pictures : ℕ → Picture) (shape : Shape) (span : BandSpan) (plane : Plane) (y height : ℕ) where
  low_enough : shape ≡ (pictures span.frame).shape → IsRowWithin (pictures span.frame).shape span plane y → height ≡ band_height shape plane
      → (span.first ≤ y / height) × (y / height ≤ span.last)
  low_enough same row is = rw (is ∙ ap (λ (s : Shape). band_height s plane) same) (row.from, row.to)

  pub band_there : {B : Type 0} (of : B → Option BandName) (bands : List B) → shape ≡ (pictures span.frame).shape → AreBandsOf span (map of bands)
      → IsRowWithin (pictures span.frame).shape span plane y → height ≡ band_height shape plane → y / height - span.first < length bands
  band_there of bands same are row is =
      let at = low_enough same row is in
      omega (arith, same_length of (λ index. Some (name_of span.frame index)) bands span.first (span_length span) are, at.0, at.1)

  pub band_named : {B : Type 0} (of : B → Option BandName) (bands : List B) (d : B) → shape ≡ (pictures span.frame).shape → AreBandsOf span (map of bands)
      → IsRowWithin (pictures span.frame).shape span plane y → height ≡ band_height shape plane → of (get_or bands (y / height - span.first) d) ≡ Some (name_of span.frame (y / height))
  band_named of bands d same are row is =
      let at = low_enough same row is in
      found_name of (λ index. Some (name_of span.frame index)) bands span.first (span_length span) (y / height - span.first) (y / height) d are (omega (arith, at.0, at.1)) (omega (arith, at.0))

  pub band_has : (band : Option BandName) → shape ≡ (pictures span.frame).shape → IsRowWithin (pictures span.frame).shape span plane y → height ≡ band_height shape plane
      → band ≡ Some (name_of span.frame (y / height)) → HasBandRow pictures band plane y
  band_has band same row is named =
      let high : height ≡ band_height (pictures span.frame).shape plane = is ∙ ap (λ (s : Shape). band_height s plane) same in
      rw (named, high) (row_of_band (pictures span.frame).shape plane y row.inside)

---- Rows of a span in one piece ----

no_band_between : (sub : Bool) (y n r : ℕ) → r < n → (y + n - 1) / halved sub 64 ≡ y / halved sub 64 → (y + r) / halved sub 64 ≡ y / halved sub 64
no_band_between true y n r low same = omega (arith, low, same)
no_band_between false y n r low same = omega (arith, low, same)

in_band : (shape : Shape) (plane : Plane) (y n r : ℕ) → r < n → (y + n - 1) / band_height shape plane ≡ y / band_height shape plane
    → (y + r) / band_height shape plane ≡ y / band_height shape plane
in_band shape Y y n r low same = no_band_between false y n r low same
in_band shape U y n r low same = no_band_between shape.ss_y y n r low same
in_band shape V y n r low same = no_band_between shape.ss_y y n r low same

abbrev AreRowsWithin : (ℕ → Picture) → BandSpan → Plane → ℕ → ℕ → Type 0
AreRowsWithin pictures span plane y n = (r : ℕ) → r < n → IsRowWithin (pictures span.frame).shape span plane (y + r)

from_none : (y : ℕ) → y + 0 ≡ y
from_none y = omega arith

pub first_within : (pictures : ℕ → Picture) (given span : BandSpan) (plane : Plane) (y n : ℕ) → AreRowsWithin pictures given plane y n → 0 < n → span ≡ given
    → IsRowWithin (pictures span.frame).shape span plane y
first_within pictures given span plane y n rows some same =
    subst (λ (s : BandSpan). IsRowWithin (pictures s.frame).shape s plane y) (sym same)
    (subst (λ (k : ℕ). IsRowWithin (pictures given.frame).shape given plane k) (from_none y) (rows 0 some))

pub band_has_rows : (pictures : ℕ → Picture) (given span : BandSpan) (plane : Plane) (y n height : ℕ) (shape : Shape) (band : Option BandName) → AreRowsWithin pictures given plane y n
    → span ≡ given → shape ≡ (pictures span.frame).shape → height ≡ band_height shape plane → (y + n - 1) / height ≡ y / height
    → band ≡ Some (name_of span.frame (y / height)) → (r : ℕ) → r < n → HasBandRow pictures band plane (y + r)
band_has_rows pictures given span plane y n height shape band rows held same is one named r low =
    let high : height ≡ band_height (pictures span.frame).shape plane = is ∙ ap (λ (s : Shape). band_height s plane) same in
    let row : IsRowWithin (pictures span.frame).shape span plane (y + r) = subst (λ (s : BandSpan). IsRowWithin (pictures s.frame).shape s plane (y + r)) (sym held) (rows r low) in
    let here = in_band (pictures span.frame).shape plane y n r low (rw high at one) in
    rw (named, high) (subst (λ (k : ℕ). IsRowOf (pictures span.frame).shape plane k (y + r)) here (row_of_band (pictures span.frame).shape plane (y + r) row.inside))

pub band_piece : (pictures : ℕ → Picture) (span given : BandSpan) (plane : Plane) (y n index stride : ℕ) (band : Option BandName) (ys : List ℕ)
    → IfSome band (λ name. IsPieceOf (pictures name.frame) plane y n ys stride) → band ≡ Some (name_of span.frame index) → span ≡ given → IsPieceOf (pictures given.frame) plane y n ys stride
band_piece pictures span given plane y n index stride band ys some named same =
    let found : IsPieceOf (pictures span.frame) plane y n ys stride = subst (λ b. IfSome b (λ name. IsPieceOf (pictures name.frame) plane y n ys stride)) named some in
    subst (λ (s : BandSpan). IsPieceOf (pictures s.frame) plane y n ys stride) same found

-- and its row is the picture's
pub band_row : (pictures : ℕ → Picture) (span given : BandSpan) (plane : Plane) (y index : ℕ) (band : Option BandName) (row : List ℕ)
    → IfSome band (λ name. row ≡ picture_row (pictures name.frame) plane y) → band ≡ Some (name_of span.frame index) → span ≡ given → row ≡ picture_row (pictures given.frame) plane y
band_row pictures span given plane y index band row some named same =
    let found : row ≡ picture_row (pictures span.frame) plane y = subst (λ b. IfSome b (λ name. row ≡ picture_row (pictures name.frame) plane y)) named some in
    found ∙ ap (λ (s : BandSpan). picture_row (pictures s.frame) plane y) same
