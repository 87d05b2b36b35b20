-- What the code makes of a component.
use Rattle.std.specs.Prelude.{◌≡◌, ℕ, ◌<◌, ◌≤◌, ◌*◌, ◌^◌, Bool, true, false}

-- a size from 1 on is one of a class
pub record IsOfClass (n size : ℕ) : Type 0 where
  pub most : n ≤ 10
  pub least : 1 ≤ size
  pub above : 1 ≤ n → 8 * 2 ^ n < size
  pub below : size ≤ 16 * 2 ^ n

-- the bit of high precision is 1, or is put
abbrev pub CanBeHigh : Bool → Bool → Type 0
CanBeHigh precise high = precise ≡ false → high ≡ true
