-- Pictures of zeros.
use Rattle.std.proofs.Common.{◌≡◌, ℕ, refl, arith, ap}
use Rattle.vp9_types.specs.declared.shape.Depth.{Depth}
use Rattle.vp9_types.specs.declared.shape.Shape.{Shape}
use Rattle.vp9_types.specs.declared.shape.Plane.{Plane}
use Rattle.vp9_types.specs.declared.shape.Plane.TheVariants.{Y, U, V}
use Rattle.vp9_types.specs.Maps.{IsAtMost}
use Rattle.planes.specs.declared.frame_planes.FramePlanes.{FramePlanes}
use Rattle.planes.specs.declared.picture.Picture.{Picture}
use Rattle.planes.specs.Pictures.{HasSizes, IsInRange, IsBlank, samples_of, blank}

none_greater : {X : Type 0} (most : ℕ) (f : FramePlanes X) (p : Plane) → samples_of f ≡ blank → IsAtMost most (samples_of f p)
none_greater most f p none y x = rw (ap (λ (m : Plane → ℕ → ℕ → ℕ). m p y x) none) (omega arith)

pub blank_in_range : {X : Type 0} (depth : Depth) (f : FramePlanes X) → samples_of f ≡ blank → IsInRange depth f
blank_in_range depth f none = record { y = none_greater _ f Y none; u = none_greater _ f U none; v = none_greater _ f V none }

abbrev picture_by : {X : Type 0} → Shape → FramePlanes X → Picture X
picture_by shape f = record { shape = shape; planes = f }

pub blank_picture : {X : Type 0} (shape : Shape) (f : FramePlanes X) → HasSizes shape f → samples_of f ≡ blank → IsBlank shape (picture_by shape f)
blank_picture shape f sizes none = record { same = refl; sizes = sizes; range = blank_in_range shape.depth f none; map = none }
