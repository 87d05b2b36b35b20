-- What the code keeps while it predicts.
use Rattle.std.specs.Prelude.{ℕ, ℤ, List, length, slice_index, ◌+◌, ◌*◌, ◌/◌, ◌-◌, ◌≤◌, ◌<◌, ◌≡◌}
use Rattle.vp9_types.specs.Maps.{Map}
use Rattle.vp9_tables.specs.Filters.{taps_of}
use Rattle.tap_filter.specs.Filter.{filtered}
use Rattle.inter_places.specs.declared.axis.Axis.{Axis}
use Rattle.inter_places.specs.declared.axis.Place.{Place}
use Rattle.inter_places.specs.Axes.{IsAxis, fraction, offset, straight}
use Rattle.planes.specs.declared.area.Area.{Area}
use Rattle.planes.specs.Planes.{StartsIn, lower_end, right_end, with_part}
use Rattle.inter_predict.specs.declared.filter.LineFilter.{LineFilter}
use Rattle.inter_predict.specs.declared.places.Span.{Span}

-- an axis with the taps of its first phase, in the form T that lines are filtered by: which taps that stands for, whether it
-- holds eight of a filter, and which greatest samples there may be
pub record IsFilter {T : Type 0} (stand_for : T → List ℤ) (hold : T → Type 0) (takes : ℕ → Type 0) (f : LineFilter T) : Type 0 where
  pub axis : IsAxis f.axis
  pub taps : stand_for f.taps ≡ taps_of f.kind (fraction f.axis)
  pub held : hold f.taps
  pub most : takes f.most

-- how many lines of the reference so many rows are filtered from
abbrev pub lines_for : Axis → ℕ → ℕ
lines_for a rows = offset a (rows - 1) / 16 + 8

-- n places follow one another in the plane
pub record AreInside (a : Axis) (n : ℕ) : Type 0 where
  pub places : (t : ℕ) → t < n → straight a t ≡ straight a 0 + t
  pub room : straight a 0 + n ≤ a.size

-- n places follow one another in the plane, from the one on that lies `first` after the third before the first
pub record AreAmong (a : Axis) (first n : ℕ) : Type 0 where
  pub places : (t : ℕ) → t < n → straight a (first + t) ≡ straight a first + t
  pub room : straight a first + n ≤ a.size

-- a line of n values is samples as they are, one after another
pub record IsCopied (a : Axis) (n : ℕ) : Type 0 where
  pub step : a.step ≡ 16
  pub phase : fraction a ≡ 0
  pub inside : AreInside a (n + 7)

-- a line of n values is filtered from samples one after another, read by sixteens
pub record IsRun (a : Axis) (n : ℕ) : Type 0 where
  pub step : a.step ≡ 16
  pub inside : AreInside a (16 * ((n + 15) / 16) + 7)

-- how n places lie in the plane: left of it, one after another in it, and right of it
pub record IsSpan (a : Axis) (first n : ℕ) (s : Span) : Type 0 where
  pub left : (t : ℕ) → t < s.left → straight a (first + t) ≡ 0
  pub inside : (k : ℕ) → s.left + k < s.end → straight a (first + (s.left + k)) ≡ s.from + k
  pub right : (t : ℕ) → s.end ≤ t → t < n → straight a (first + t) ≡ a.size - 1
  pub order : s.left ≤ s.end
  pub few : s.end ≤ n
  pub room : s.from + (s.end - s.left) ≤ a.size

-- rows of samples, each of which begins `stride` samples behind the one above
abbrev pub strided : ℕ → List ℕ → Map
strided stride samples = λ r c. slice_index samples (r * stride + c)

-- so many of them have w samples, and none above the greatest
pub record AreRows (most w rows stride : ℕ) (samples : List ℕ) : Type 0 where
  pub room : (r : ℕ) → r < rows → r * stride + w ≤ length samples
  pub small : (r c : ℕ) → r < rows → c < w → strided stride samples r c ≤ most
  pub near : stride ≤ 65536

---- Blocks put in a plane ----

-- all of a block lies in an area
pub record LiesIn (a : Area) (p : Place) : Type 0 where
  pub start : StartsIn a p.row p.column
  pub below : p.row + p.rows ≤ lower_end a
  pub right : p.column + p.columns ≤ right_end a

-- a block put in at its place
abbrev pub with_place : Area → Map → Place → Map → Map
with_place a m p block = with_part a m p.row p.column p.rows p.columns block

-- row i of n samples is among so many, of which each row begins `stride` behind the one above, the first at `from`
pub record HasCopy (long stride from n i : ℕ) : Type 0 where
  pub room : i * stride + (from + n) ≤ long
  pub low : i ≤ 256
  pub apart : stride ≤ 65536
  pub near : from ≤ 65536
  pub few : n ≤ 64

abbrev pub copied_from : List ℕ → ℕ → ℕ → Map
copied_from samples stride from = λ i j. strided stride samples i (from + j)

-- row i of n values has its eight lines of n
pub record HasColumns {T : Type 0} (stand_for : T → List ℤ) (hold : T → Type 0) (takes : ℕ → Type 0) (f : LineFilter T) (lines : List ℕ) (n i : ℕ) : Type 0 where
  pub filter : IsFilter stand_for hold takes f
  pub room : (i + 8) * n ≤ length lines
  pub small : (k : ℕ) → slice_index lines k ≤ f.most
  pub low : i < 64
  pub few : n ≤ 64
  pub sixteens : n ≡ 16 * (n / 16)

-- values filtered down columns of lines of n, tap k in the line that lies k below the value's own
abbrev pub filtered_below : ℕ → List ℤ → List ℕ → ℕ → Map
filtered_below most taps lines n = λ i j. filtered most taps (λ k. slice_index lines ((i + k) * n + j))
