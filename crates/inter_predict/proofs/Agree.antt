-- Values that are filtered from the same samples, and rows that lie between the first and the last.
use Rattle.std.proofs.Common.{◌≡◌, ℕ, ◌+◌, ◌-◌, ◌*◌, ◌/◌, ◌%◌, ◌<◌, ◌≤◌, ℤ, pos, negsuc, ◌+ℤ◌, ◌-ℤ◌, List, refl, arith, ap, subst, sym, ◌∙◌}
use Rattle.std.proofs.Math.Nat.{mul-zero}
use Rattle.vp9_types.specs.Maps.{Map}
use Rattle.vp9_types.specs.declared.block.InterpFilter.{InterpFilter}
use Rattle.vp9_tables.specs.Filters.{taps_of}
use Rattle.inter_places.specs.declared.axis.Axis.{Axis}
use Rattle.tap_filter.specs.Filter.{weighted, rounded, filtered}
use Rattle.inter_places.proofs.Orders.{clamped_order, offset_order, place_order}
use Rattle.inter_places.specs.Axes.{clamped, last_x, place, phase, offset, fraction, sixteenth, whole, straight}
use Rattle.inter_places.specs.Axes.{first_place, last_place}
use Rattle.inter_predict.specs.InterSamples.{along, filtered_both_ways}
use Rattle.inter_predict.proofs.Whole.{whole_copies}
use Rattle.inter_predict.proofs.Blocks.{rounded_small}

pub weighted_same : (taps : List ℤ) (f g : ℕ → ℕ) → ((k : ℕ) → k < 8 → f k ≡ g k) → weighted taps f ≡ weighted taps g
unfolding weighted
weighted_same taps f g same = rw (same 0 (omega arith), same 1 (omega arith), same 2 (omega arith), same 3 (omega arith), same 4 (omega arith), same 5 (omega arith), same 6 (omega arith), same 7 (omega arith)) refl

pub filtered_same : (most : ℕ) (taps : List ℤ) (f g : ℕ → ℕ) → ((k : ℕ) → k < 8 → f k ≡ g k) →
    rounded most (weighted taps f) ≡ rounded most (weighted taps g)
filtered_same most taps f g same = ap (rounded most) (weighted_same taps f g same)

clamped_below : (size : ℕ) (z : ℤ) → 0 < size → clamped (size - 1) z < size
clamped_below size (pos a) some = omega arith
clamped_below size (negsuc a) some = omega arith

pub straight_below : (a : Axis) (n : ℕ) → 0 < a.size → straight a n < a.size
straight_below a n some = clamped_below a.size ((whole a +ℤ pos n) -ℤ pos 3) some

-- at step 16 the places are straight, and the phase is the same everywhere
offset_is : (f j : ℕ) → f < 16 → (f + 16 * j) / 16 ≡ j
offset_is f j low = omega arith

phase_is : (f j : ℕ) → f < 16 → (f + 16 * j) % 16 ≡ f
phase_is f j low = omega arith

low_part : (z : ℤ) → sixteenth z < 16
low_part (pos n) = omega arith
low_part (negsuc n) = omega arith

pub place_straight : (a : Axis) (j k : ℕ) → a.step ≡ 16 → place a j k ≡ straight a (j + k)
unfolding place
place_straight a j k step = rw step (ap (λ (n : ℕ). straight a (n + k)) (offset_is (fraction a) j (low_part a.start)))

pub phase_straight : (a : Axis) (j : ℕ) → a.step ≡ 16 → phase a j ≡ fraction a
phase_straight a j step = rw step (phase_is (fraction a) j (low_part a.start))

straight_order : (a : Axis) (s t : ℕ) → s ≤ t → straight a s ≤ straight a t
straight_order a s t le = clamped_order (last_x a) (whole a) s t le

pub along_same : (most : ℕ) (kind : InterpFilter) (a : Axis) (f g : ℕ → ℕ) (j : ℕ) → ((k : ℕ) → k < 8 → f (place a j k) ≡ g (place a j k)) →
    along most kind a f j ≡ along most kind a g j
unfolding along
along_same most kind a f g j same = filtered_same most (taps_of kind (phase a j)) (λ k. f (place a j k)) (λ k. g (place a j k)) same

pub place_below : (a : Axis) (j k : ℕ) → 0 < a.size → place a j k < a.size
unfolding place
place_below a j k some = straight_below a (offset a j / 16 + k) some

-- only the samples of the plane count
pub along_inside : (most : ℕ) (kind : InterpFilter) (a : Axis) (f g : ℕ → ℕ) (j : ℕ) → 0 < a.size → ((c : ℕ) → c < a.size → f c ≡ g c) →
    along most kind a f j ≡ along most kind a g j
along_inside most kind a f g j some same = along_same most kind a f g j (λ k few. same (place a j k) (place_below a j k some))

-- at step 16
pub along_straight : (most : ℕ) (kind : InterpFilter) (a : Axis) (f : ℕ → ℕ) (j : ℕ) → a.step ≡ 16 →
    filtered most (taps_of kind (fraction a)) (λ k. f (straight a (j + k))) ≡ along most kind a f j
unfolding along
along_straight most kind a f j step =
    rw (phase_straight a j step) (filtered_same most (taps_of kind (fraction a)) _ _ (λ k few. rw (place_straight a j k step) refl))

-- and phase 0
pub along_copied : (most : ℕ) (kind : InterpFilter) (a : Axis) (f : ℕ → ℕ) (j : ℕ) → a.step ≡ 16 → fraction a ≡ 0 → f (straight a (j + 3)) ≤ most →
    f (straight a (3 + j)) ≡ along most kind a f j
along_copied most kind a f j step zero small =
    ap (λ (n : ℕ). f (straight a n)) (order j) ∙ sym (whole_copies most kind (λ k. f (straight a (j + k))) small)
    ∙ ap (λ (p : ℕ). filtered most (taps_of kind p) (λ k. f (straight a (j + k)))) (sym zero) ∙ along_straight most kind a f j step
  where
    order : (j : ℕ) → 3 + j ≡ j + 3
    order j = omega arith

pub along_whole : (most : ℕ) (kind : InterpFilter) (a : Axis) (f : ℕ → ℕ) (j : ℕ) → a.step ≡ 16 → fraction a ≡ 0 → ((n : ℕ) → f n ≤ most) →
    f (straight a (3 + j)) ≡ along most kind a f j
along_whole most kind a f j step zero small = along_copied most kind a f j step zero (small (straight a (j + 3)))

pub along_small : (most : ℕ) (kind : InterpFilter) (a : Axis) (f : ℕ → ℕ) (j : ℕ) → along most kind a f j ≤ most
unfolding along
along_small most kind a f j = rounded_small most (weighted (taps_of kind (phase a j)) (λ k. f (place a j k)))

pub predicted_small : (most : ℕ) (kind : InterpFilter) (down across : Axis) (m : Map) (i j : ℕ) → filtered_both_ways most kind down across m i j ≤ most
unfolding filtered_both_ways
predicted_small most kind down across m i j = along_small most kind down (λ row. along most kind across (m row) j) i

pub rows_agree : (most rows i j : ℕ) (kind : InterpFilter) (down across : Axis) (m n : Map) → i < rows →
    ((r c : ℕ) → first_place down ≤ r → r ≤ last_place down rows → m r c ≡ n r c) → filtered_both_ways most kind down across m i j ≡ filtered_both_ways most kind down across n i j
unfolding filtered_both_ways
rows_agree most rows i j kind down across m n low same =
    along_same most kind down (λ row. along most kind across (m row) j) (λ row. along most kind across (n row) j) i (λ k few.
    along_same most kind across (m (place down i k)) (n (place down i k)) j (λ l less.
    same (place down i k) (place across j l) (place_order down 0 i 0 k (omega arith) (omega arith)) (place_order down i (rows - 1) k 7 (omega arith) (omega arith))))

-- the rows that lines are made of lie between the first place and the last
sixteenth_zero : (f s : ℕ) → f < 16 → (f + s * 0) / 16 + 0 ≡ 0
sixteenth_zero f s low = omega (arith, mul-zero s)

pub lines_between : (a : Axis) (rows r : ℕ) → r < offset a (rows - 1) / 16 + 8 → (first_place a ≤ straight a r) × (straight a r ≤ last_place a rows)
unfolding place
lines_between a rows r low = (
  subst (λ (n : ℕ). straight a n ≤ straight a r) (sym (sixteenth_zero (fraction a) a.step (low_part a.start))) (straight_order a 0 r (omega arith)),
  straight_order a r (offset a (rows - 1) / 16 + 7) (omega arith),
)

-- down the columns of lines that are filtered along rows
pub both_passes : (most : ℕ) (kind : InterpFilter) (down across : Axis) (m : Map) (i j : ℕ) (lines : ℕ → ℕ) →
    ((k : ℕ) → k < 8 → lines k ≡ along most kind across (m (straight down (offset down i / 16 + k))) j) →
    filtered most (taps_of kind (phase down i)) lines ≡ filtered_both_ways most kind down across m i j
unfolding filtered_both_ways along place
both_passes most kind down across m i j lines is = filtered_same most (taps_of kind (phase down i)) lines _ is

pub along_is : (most : ℕ) (kind : InterpFilter) (a : Axis) (f : ℕ → ℕ) (j : ℕ) →
    filtered most (taps_of kind (offset a j % 16)) (λ k. f (straight a (offset a j / 16 + k))) ≡ along most kind a f j
unfolding along place
along_is most kind a f j = refl

pub offset_straight : (a : Axis) (j : ℕ) → a.step ≡ 16 → offset a j / 16 ≡ j
offset_straight a j step = rw step (offset_is (fraction a) j (low_part a.start))

pub whole_predicted : (most : ℕ) (kind : InterpFilter) (down across : Axis) (m : Map) (i j : ℕ) → down.step ≡ 16 → fraction down ≡ 0 →
    along most kind across (m (straight down (3 + i))) j ≡ filtered_both_ways most kind down across m i j
unfolding filtered_both_ways
whole_predicted most kind down across m i j step zero =
    along_whole most kind down (λ row. along most kind across (m row) j) i step zero (λ row. along_small most kind across (m row) j)

-- the lines of whole rows are among those
pub whole_line : (a : Axis) (rows r : ℕ) → a.step ≡ 16 → r < rows → 3 + r < offset a (rows - 1) / 16 + 8
whole_line a rows r step low = omega (arith, offset_straight a (rows - 1) step)

pub line_among : (a : Axis) (rows i k : ℕ) → i < rows → k < 8 → offset a i / 16 + k < offset a (rows - 1) / 16 + 8
line_among a rows i k low few = omega (arith, offset_order a i (rows - 1) (omega arith))

pub lines_enough : (a : Axis) (rows n long : ℕ) → a.step ≡ 16 → 0 < rows → (offset a (rows - 1) / 16 + 8) * n ≤ long → 0 + rows * n + 7 * n ≤ long
lines_enough a rows n long step some enough =
    let count : offset a (rows - 1) / 16 + 8 ≡ rows + 7 = omega (arith, offset_straight a (rows - 1) step) in
    let is = rw count at enough in omega (arith, is)
