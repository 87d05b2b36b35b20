-- Three planes of bytes.
use Rattle.std.proofs.Common.{◌<◌, ◌+◌, ◌*◌, ℕ, List, get_or}
use Rattle.vp9_types.specs.Maps.{frame_map}
use Rattle.vp9_types.specs.declared.shape.Plane.{Plane}
use Rattle.vp9_types.specs.declared.shape.Plane.TheVariants.{Y, U, V}

pub small : (a b d : List ℕ) → ((k : ℕ) → get_or a k 0 < 256) → ((k : ℕ) → get_or b k 0 < 256) → ((k : ℕ) → get_or d k 0 < 256) → (p : Plane) (y x : ℕ)
    → frame_map (λ y x. get_or a (4 * y + x) 0) (λ y x. get_or b (4 * y + x) 0) (λ y x. get_or d (4 * y + x) 0) p y x < 256
small a b d one two three Y y x = one (4 * y + x)
small a b d one two three U y x = two (4 * y + x)
small a b d one two three V y x = three (4 * y + x)
