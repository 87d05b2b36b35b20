-- Blocks put in their plane: rows that are copied, and rows that are filtered down columns.
use Rattle.std.proofs.Common.{◌≡◌, ℕ, ℤ, List, ◌+◌, ◌-◌, ◌*◌, ◌/◌, ◌<◌, ◌≤◌, ◌∙◌, refl, ap, sym, arith, map, take, get_or, length, min}
use Rattle.std.proofs.Math.Nat.{mul-le-mul_right}
use Rattle.std.proofs.lemmas.List.{length-map, length-take}
use Rattle.vp9_types.specs.Maps.{Map, HoldsRows}
use Rattle.vp9_types.specs.declared.block.InterpFilter.{InterpFilter}
use Rattle.vp9_tables.specs.Filters.{taps_of}
use Rattle.tap_filter.specs.Filter.{filtered}
use Rattle.inter_places.specs.declared.axis.Axis.{Axis}
use Rattle.inter_places.specs.Axes.{fraction, offset, straight}
use Rattle.planes.specs.declared.area.Area.{Area}
use Rattle.planes.specs.Planes.{lower_end, right_end, with_part}
use Rattle.planes.proofs.RowLemmas.{with_block_same}
use Rattle.inter_predict.specs.InterSamples.{along, filtered_both_ways}
use Rattle.inter_predict.specs.Code.{IsCopied, copied_from, filtered_below, strided}
use Rattle.inter_predict.proofs.Agree.{along_copied, whole_predicted, both_passes, phase_straight, offset_straight}
use Rattle.inter_predict.proofs.Blocks.{place_below}
use Rattle.inter_predict.proofs.Values.{taken_is}

low_of : (i n m : ℕ) → i < min n m → i < n
low_of i n m low = omega (arith, low)

-- a part that is the same inside of it
pub with_part_same : (a : Area) (m : Map) (row column rows columns : ℕ) (f g : Map) → ((i j : ℕ) → i < rows → j < columns → f i j ≡ g i j)
    → with_part a m row column rows columns f ≡ with_part a m row column rows columns g
with_part_same a m row column rows columns f g same =
    with_block_same m row column (min rows (lower_end a - row)) (min columns (right_end a - column)) f g
    (λ i j high low. same i j (low_of i rows (lower_end a - row) high) (low_of j columns (right_end a - column) low))

-- samples of rows that are copied
pub copied_row : (most : ℕ) (kind : InterpFilter) (down across : Axis) (m : Map) (samples : List ℕ) (stride from n i j : ℕ)
    → IsCopied across n → down.step ≡ 16 → fraction down ≡ 0 → from ≡ straight across 3 → j < n
    → ((c : ℕ) → c < across.size → strided stride samples i c ≡ m (straight down (3 + i)) c) → m (straight down (3 + i)) (straight across (j + 3)) ≤ most
    → copied_from samples stride from i j ≡ filtered_both_ways most kind down across m i j
copied_row most kind down across m samples stride from n i j copied step phase is low same small =
    let inside = copied.inside in
    let at = inside.places (3 + j) (omega (arith, low)) in
    let here : from + j ≡ straight across (3 + j) = omega (arith, at, inside.places 3 (omega arith), is) in
    let within : from + j < across.size = omega (arith, inside.places 3 (omega arith), is, inside.room, low) in
    same (from + j) within ∙ ap (m (straight down (3 + i))) here
    ∙ along_copied most kind across (m (straight down (3 + i))) j copied.step copied.phase small
    ∙ whole_predicted most kind down across m i j step phase

pub copy_room : {X : Type 0} (value : X → ℕ) (xs : List X) (across : Axis) (stride from n i : ℕ) → IsCopied across n → from ≡ straight across 3
    → i * stride + across.size ≤ length (map value xs) → i * stride + (from + n) ≤ length xs
copy_room value xs across stride from n i copied is room =
    omega (arith, is, room, copied.inside.places 3 (omega arith), copied.inside.room, length-map xs value)

-- values filtered down columns of lines
pub filtered_row : {X : Type 0} (value : X → ℕ) (most : ℕ) (kind : InterpFilter) (down across : Axis) (m : Map) (taps : List ℤ) (xs : List X) (rows n i j : ℕ)
    → down.step ≡ 16 → taps ≡ taps_of kind (fraction down) → i < rows → j < n
    → HoldsRows (map value xs) n (rows + 7) (λ r j. along most kind across (m (straight down (0 + r))) j)
    → filtered_below most taps (map value (take ((rows + 7) * n) xs)) n i j ≡ filtered_both_ways most kind down across m i j
filtered_row value most kind down across m taps xs rows n i j step is high low holds =
    ap (λ (ts : List ℤ). filtered most ts (λ (k : ℕ). get_or (map value (take ((rows + 7) * n) xs)) ((i + k) * n + j) 0)) (is ∙ ap (taps_of kind) (sym (phase_straight down i step)))
    ∙ both_passes most kind down across m i j (λ (k : ℕ). get_or (map value (take ((rows + 7) * n) xs)) ((i + k) * n + j) 0) (λ k few.
    let among : i + k < rows + 7 = omega (arith, high, few) in
    taken_is value xs ((rows + 7) * n) ((i + k) * n + j) ((i + k) * n + j) refl (place_below n (rows + 7) (i + k) j among low)
    ∙ holds (i + k) j among low
    ∙ ap (λ (r : ℕ). along most kind across (m (straight down r)) j) (line_is (i + k) (offset down i / 16 + k) (ap (λ (o : ℕ). o + k) (sym (offset_straight down i step)))))
  where
    line_is : (a b : ℕ) → a ≡ b → 0 + a ≡ b
    line_is a b is = omega (arith, is)

pub below_moved : (i k n j : ℕ) → i * n + k * n + j ≡ (i + k) * n + j
below_moved i k n j = omega arith

pub columns_room : {X : Type 0} (value : X → ℕ) (xs : List X) (i rows n : ℕ) → i < rows → rows ≤ 64 → n ≤ 64 → 8576 ≤ length xs
    → (i + 8) * n ≤ length (map value (take ((rows + 7) * n) xs))
columns_room value xs i rows n low few narrow room =
    omega (arith, low, room, narrow, mul-le-mul_right n (up i rows low), mul-le-mul_right n (most rows few), length-map (take ((rows + 7) * n) xs) value, length-take ((rows + 7) * n) xs)
  where
    up : (i rows : ℕ) → i < rows → i + 8 ≤ rows + 7
    up i rows low = omega arith

    most : (rows : ℕ) → rows ≤ 64 → rows + 7 ≤ 71
    most rows few = omega arith

pub straight_lines : (a : Axis) (rows r : ℕ) → a.step ≡ 16 → 0 < rows → r < rows + 7 → 0 + r < offset a (rows - 1) / 16 + 8
straight_lines a rows r step some low = omega (arith, some, low, offset_straight a (rows - 1) step)
