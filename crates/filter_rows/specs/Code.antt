-- What is put into the buffer, and what it goes on having.
use Rattle.std.specs.Prelude.{ℕ, ◌<◌, ◌≤◌, ◌≡◌}
use Rattle.vp9_types.specs.declared.shape.Plane.{Plane}
use Rattle.vp9_types.specs.declared.shape.Shape.{Shape}
use Rattle.vp9_types.specs.Maps.{Map}
use Rattle.loop_filter.specs.Laws.{first_changed, first_own, lower_end_of}

-- A plane has the own rows of a row of superblocks from another one, and goes on having those above them.
pub record HasPut (shape : Shape) (plane : Plane) (sr : ℕ) (from old new : Map) : Type 0 where
  pub put : (y x : ℕ) → first_own shape plane sr ≤ y → y < lower_end_of shape plane sr → new y x ≡ from y x
  pub above : (y x : ℕ) → y < first_own shape plane sr → new y x ≡ old y x

-- It goes on having the rows that are pending for a row of superblocks.
abbrev pub KeepsPending : Shape → Plane → ℕ → Map → Map → Type 0
KeepsPending shape plane sr old new = (y x : ℕ) → first_changed shape plane sr ≤ y → y < first_own shape plane sr → new y x ≡ old y x
