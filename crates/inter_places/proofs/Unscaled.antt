-- Places in references of the frame's size: nothing is scaled, and a block from 8x8 on is a single part.
use Rattle.std.proofs.Common.{◌≡◌, ℕ, ◌+◌, ◌*◌, ◌/◌, ◌%◌, ◌^◌, ◌<◌, ℤ, pos, negsuc, neg_ℤ, ◌+ℤ◌, ◌-ℤ◌, ◌*ℤ◌, int_lt, if◌then◌else◌, Bool, true, false, refl, sym, ap, ◌∙◌, arith}
use Rattle.std.proofs.Math.Nat.{mul-div_cancel_left}
use Rattle.vp9_types.specs.Shapes.{halved}
use Rattle.vp9_types.specs.declared.shape.Shape.{Shape}
use Rattle.block_geometry.specs.BlockSizes.{is_below_8x8}
use Rattle.block_plan.specs.BlockMvs.{clip3, vector_of}
use Rattle.block_plan.specs.declared.block.BlockInfo.{BlockInfo}
use Rattle.block_plan.specs.declared.block.InterPrediction.{InterPrediction}
use Rattle.inter_places.specs.Places.{IsPart, IsReference, fours, is_subsampled, luma_length, offset_in_block, part_axis, part_vector, parts_of, plane_length, span_of}
use Rattle.inter_places.specs.PlaneVectors.{clamped_vector, component, greatest_vector, in_sixteenths, least_vector, spel}
use Rattle.inter_places.specs.Scaling.{x_scale, start_x, span_start, axis_of}
use Rattle.inter_places.specs.declared.axis.Axis.{Axis}
use Rattle.inter_places.specs.declared.part.BlockPart.{BlockPart}
use Rattle.inter_places.specs.declared.part.Direction.{Direction}
use Rattle.inter_places.specs.declared.part.Direction.TheVariants.{Down, Across}
use Rattle.inter_places.specs.declared.span.BlockSpan.{BlockSpan}

first_down : (ss : Bool) → 4 * (0 / fours ss) ≡ 0
first_down true = refl
first_down false = refl

first_across : (ss : Bool) → 4 * (0 % fours ss) ≡ 0
first_across true = refl
first_across false = refl

first_number : (shape : Shape) (b : BlockInfo) (part : BlockPart) → part.number < parts_of shape b.size part.plane → is_below_8x8 b.size ≡ false → part.number ≡ 0
first_number shape b part number whole = omega (arith, rw whole at number)

-- the first part begins where its block does
first_part : (shape : Shape) (part : BlockPart) (d : Direction) → part.number ≡ 0 → offset_in_block shape part d ≡ 0
first_part shape part Down first = rw first (first_down (is_subsampled shape part.plane Across))
first_part shape part Across first = rw first (first_across (is_subsampled shape part.plane Across))

some_long : (shape reference : Shape) (d : Direction) → IsReference shape reference → 0 < luma_length shape d
some_long shape reference Down fits = fits.down.some
some_long shape reference Across fits = fits.across.some

abbrev pub plain_by : ℤ → ℕ → Axis
plain_by start size = record { start = start; step = 16; size = size }

abbrev pub unscaled_axis : BlockSpan → ℤ → ℕ → Axis
unscaled_axis s mv size = plain_by (start_x (2 ^ 14) s.ss (span_start s) (clamped_vector s mv)) size

pub plain_parts : (start again : ℤ) (span s : BlockSpan) (vector mv : ℤ) (samples size : ℕ) → again ≡ start
    → start ≡ start_x (2 ^ 14) span.ss (span_start span) (clamped_vector span vector) → span ≡ s → vector ≡ mv → samples ≡ size → plain_by again samples ≡ unscaled_axis s mv size
plain_parts start again span s vector mv samples size kept is at by long = rw (kept, is, at, by, long) refl

unscaled : (s : BlockSpan) (offset : ℕ) (mv : ℤ) (own size : ℕ) → 0 < own → offset ≡ 0 → unscaled_axis s mv size ≡ axis_of s offset mv (x_scale own own) size
unscaled s offset mv own size some first =
    let start : span_start s + 0 ≡ span_start s = omega arith in
    rw (first, start, mul-div_cancel_left (2 ^ 14) {n = own} some) refl

-- a block from 8x8 on has one part and one vector
pub plain_is : (shape : Shape) (b : BlockInfo) (p : InterPrediction) (part : BlockPart) (reference : Shape) (d : Direction) → IsPart shape b part → IsReference shape reference
    → is_below_8x8 b.size ≡ false → luma_length reference d ≡ luma_length shape d
    → unscaled_axis (span_of shape b part.plane d) (component d (vector_of p 0 part.list)) (plane_length reference part.plane d) ≡ part_axis shape b p part reference d
plain_is shape b p part reference d inside fits whole same =
    let vector : part_vector shape b.size p part d ≡ component d (vector_of p 0 part.list) = rw whole refl in
    rw (vector, same)
    (unscaled (span_of shape b part.plane d) (offset_in_block shape part d) (component d (vector_of p 0 part.list)) (luma_length shape d) (plane_length reference part.plane d)
    (some_long shape reference d fits) (first_part shape part d (first_number shape b part inside.number whole)))

-- bounds and a number that are moved together are clamped alike
lt_moved : (a : ℕ) (x y : ℤ) → int_lt (pos a +ℤ x) (pos a +ℤ y) ≡ int_lt x y
lt_moved a (pos x) (pos y) = grind arith
lt_moved a (pos x) (negsuc y) = grind arith
lt_moved a (negsuc x) (pos y) = grind arith
lt_moved a (negsuc x) (negsuc y) = grind arith

if_moved : (a : ℕ) (x y : ℤ) (b : Bool) → (if b then pos a +ℤ x else pos a +ℤ y) ≡ pos a +ℤ (if b then x else y)
if_moved a x y true = refl
if_moved a x y false = refl

moved : (a : ℕ) (low high x : ℤ) → clip3 (pos a +ℤ low) (pos a +ℤ high) (pos a +ℤ x) ≡ pos a +ℤ clip3 low high x
moved a low high x = rw (lt_moved a x low, lt_moved a high x, if_moved a high x (int_lt high x)) (if_moved a low (if int_lt high x then high else x) (int_lt x low))

-- the bounds of a vector, moved by where its block begins
least_is : (ss : Bool) (first count : ℕ) → pos (16 * halved ss (8 * first)) +ℤ (neg_ℤ (in_sixteenths ss (pos (64 * first))) -ℤ pos (16 * (4 + halved ss (8 * count)))) ≡ neg_ℤ (pos (16 * (4 + halved ss (8 * count))))
least_is true first count = grind arith
least_is false first count = grind arith

greatest_is : (ss : Bool) (first count all : ℕ) → pos (16 * halved ss (8 * first)) +ℤ (in_sixteenths ss (pos 64 *ℤ ((pos all -ℤ pos count) -ℤ pos first)) +ℤ pos (16 * (3 + halved ss (8 * count)))) ≡ pos (16 * (3 + halved ss (8 * all)))
greatest_is true first count all = grind arith
greatest_is false first count all = grind arith

pub clamped_is : (s : BlockSpan) (mv : ℤ)
    → clip3 (neg_ℤ (spel 4 s)) (pos (16 * (3 + halved s.ss (8 * s.all)))) (pos (16 * span_start s) +ℤ in_sixteenths s.ss mv) ≡ pos (16 * span_start s) +ℤ clamped_vector s mv
unfolding clamped_vector
clamped_is s mv =
    let x = pos (16 * span_start s) +ℤ in_sixteenths s.ss mv in
    ap (λ (z : ℤ). clip3 z (pos (16 * (3 + halved s.ss (8 * s.all)))) x) (sym (least_is s.ss s.first s.count))
    ∙ (ap (λ (z : ℤ). clip3 (pos (16 * span_start s) +ℤ least_vector s) z x) (sym (greatest_is s.ss s.first s.count s.all))
    ∙ moved (16 * span_start s) (least_vector s) (greatest_vector s) (in_sixteenths s.ss mv))
