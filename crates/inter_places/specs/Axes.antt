-- Where a predicted sample is read in the reference, along one direction (8.5.2.4 of the standard, block inter prediction: the names
-- are those of x, and y has the same formulas).
use Rattle.std.specs.Prelude.{ℕ, ◌+◌, ◌-◌, ◌*◌, ◌/◌, ◌%◌, ◌≤◌, ◌<◌, ◌≡◌, ℤ, pos, negsuc, ◌+ℤ◌, ◌-ℤ◌, ◌^◌, unsigned_abs, min}
use Rattle.std.specs.Int.{int_shr}
use Rattle.inter_places.specs.declared.axis.Axis.{Axis}
use Rattle.inter_places.specs.declared.axis.Place.{Place}

-- startX >> 4: the first sample of a block is predicted from 16 * whole + fraction, in sixteenths of a sample
abbrev pub whole : Axis → ℤ
whole a = int_shr a.start 4

abbrev pub sixteenth : ℤ → ℕ
sixteenth (pos n) = n % 16
sixteenth (negsuc n) = 15 - n % 16

-- startX & 15
abbrev pub fraction : Axis → ℕ
fraction a = sixteenth a.start

-- (startX & 15) + xStep * j: how far sample j of the block lies after the whole sample. The part below a sample is the phase of
-- its filter
abbrev pub offset : Axis → ℕ → ℕ
offset a j = fraction a + a.step * j

abbrev pub phase : Axis → ℕ → ℕ
phase a j = offset a j % 16

-- lastX = ((RefFrameWidth + subX) >> subX) - 1, where size is ((RefFrameWidth + subX) >> subX)
abbrev pub last_x : Axis → ℕ
last_x a = a.size - 1

-- Clip3(0, lastX, z): a place past an end of the reference stands for the last one before it
abbrev pub clamped : ℕ → ℤ → ℕ
clamped last (pos n) = min last n
clamped last (negsuc n) = 0

-- Clip3(0, lastX, (startX >> 4) + n - 3): n samples after the third one before the first
abbrev pub straight : Axis → ℕ → ℕ
straight a n = clamped (last_x a) ((whole a +ℤ pos n) -ℤ pos 3)

-- Clip3(0, lastX, (startX >> 4) + (((startX & 15) + xStep * j) >> 4) + k - 3): the place of tap k for sample j, whose tap 3 stands at
-- the sample itself
unfoldable pub place : Axis → ℕ → ℕ → ℕ
place a j k = straight a (offset a j / 16 + k)

-- the least and the greatest place that n samples are predicted from
abbrev pub first_place : Axis → ℕ
first_place a = place a 0 0

abbrev pub last_place : Axis → ℕ → ℕ
last_place a n = place a (n - 1) 7

-- a plane of the reference has a sample at least, and starts lie near it
pub record IsAxis (a : Axis) : Type 0 where
  pub some : 0 < a.size
  pub low : a.size ≤ 65536
  pub near : unsigned_abs a.start ≤ 2 ^ 24
  pub forward : 1 ≤ a.step
  pub slow : a.step ≤ 32

-- blocks have multiples of 4 rows and columns
pub record IsPlace (p : Place) : Type 0 where
  pub down : IsAxis p.down
  pub across : IsAxis p.across
  pub some_rows : 0 < p.rows
  pub low : p.rows ≤ 64
  pub rows : p.rows ≡ 4 * (p.rows / 4)
  pub some_columns : 0 < p.columns
  pub narrow : p.columns ≤ 64
  pub columns : p.columns ≡ 4 * (p.columns / 4)
