-- Transform blocks and parts lie in their block.
use Rattle.std.proofs.Common.{◌≡◌, ◌<◌, ◌≤◌, ◌+◌, ◌*◌, ◌&&◌, ◌||◌, not, Bool, true, false, ℕ, refl, arith, nat_lt, nat_eq, nat_le, max, get_or, length}
use Rattle.std.specs.Int.{div_ceil}
use Rattle.std.specs.List.{All, range_with_len}
use Rattle.std.proofs.Math.Nat.{mul-le-mul_left}
use Rattle.std.proofs.lemmas.Bool.{and_parts, eqb-true, le-leb}
use Rattle.std.proofs.lemmas.List.Elements.{All-map, All-filter}
use Rattle.std.proofs.lemmas.List.FromFn.{get_or-range_with_len, length-range_with_len}
use Rattle.vp9_types.specs.Shapes.{halved, is_chroma}
use Rattle.vp9_types.specs.Sizes.{side}
use Rattle.vp9_types.specs.declared.block.BlockSize.{BlockSize}
use Rattle.vp9_types.specs.declared.block.BlockSize.TheVariants.{B4x4, B4x8, B8x4, B8x8, B8x16, B16x8, B16x16, B16x32, B32x16, B32x32, B32x64, B64x32, B64x64}
use Rattle.vp9_types.specs.declared.block.TxSize.{TxSize}
use Rattle.vp9_types.specs.declared.block.TxSize.TheVariants.{T4x4, T8x8, T16x16, T32x32}
use Rattle.vp9_types.specs.declared.shape.Plane.{Plane}
use Rattle.vp9_types.specs.declared.shape.Plane.TheVariants.{Y, U, V}
use Rattle.vp9_types.specs.declared.shape.Shape.{Shape}
use Rattle.vp9_tables.specs.BlockTables.{width_of, height_of, greatest_of, uv_number}
use Rattle.vp9_tables.specs.Numbers.{tx_number, tx_of}
use Rattle.block_geometry.specs.FrameShapes.{places_of}
use Rattle.block_geometry.specs.BlockSizes.{width_8, height_8}
use Rattle.block_geometry.specs.TransformBlocks.{plane_side, multiples, starts, start_rows, start_columns, tx_step, transform_blocks}
use Rattle.block_geometry.specs.declared.transform_blocks.FramePlaces.{FramePlaces}
use Rattle.block_geometry.specs.declared.transform_blocks.PlaneBlock.{PlaneBlock}
use Rattle.block_geometry.specs.declared.transform_blocks.TransformPlace.{TransformPlace}
use Rattle.block_geometry.proofs.Rasters.{all_places}
use Rattle.block_plan.specs.InPlanes.{plane_block, places_in, tx_in}
use Rattle.block_plan.specs.declared.block.BlockInfo.{BlockInfo}

---- Sizes ----

-- steps of this length end at the end of a side
abbrev ends : ℕ → ℕ → Bool
ends step side = nat_eq (step * div_ceil side step) side

-- a transform's steps end at the ends of its block in a plane
abbrev fits_in : TxSize → Bool → Bool → BlockSize → Bool
fits_in tx ss_x ss_y size = ends (tx_step tx) (plane_side ss_y (height_of size)) && ends (tx_step tx) (plane_side ss_x (width_of size))

abbrev test : BlockSize → TxSize → Bool → Bool → Bool
test size tx ss_x ss_y =
    not (nat_le (tx_number tx) (greatest_of size))
    || (fits_in tx false false size && fits_in (tx_of (uv_number size tx ss_x ss_y)) ss_x ss_y size)

both : (f : Bool → Bool) → Bool
both f = f true && f false

each : (f : TxSize → Bool → Bool → Bool) → Bool
each f = (both (λ x. both (f T4x4 x)) && both (λ x. both (f T8x8 x))) && (both (λ x. both (f T16x16 x)) && both (λ x. both (f T32x32 x)))

of_both : (f : Bool → Bool) → both f ≡ true → (x : Bool) → f x ≡ true
unfolding both
of_both f all true = (and_parts (f true) (f false) all).0
of_both f all false = (and_parts (f true) (f false) all).1

of_two : (f : Bool → Bool → Bool) → both (λ x. both (f x)) ≡ true → (x y : Bool) → f x y ≡ true
of_two f all x y = of_both (f x) (of_both (λ x. both (f x)) all x) y

of_each : (f : TxSize → Bool → Bool → Bool) → each f ≡ true → (tx : TxSize) (x y : Bool) → f tx x y ≡ true
unfolding each
of_each f all T4x4 x y = of_two (f T4x4) (and_parts _ _ (and_parts _ _ all).0).0 x y
of_each f all T8x8 x y = of_two (f T8x8) (and_parts _ _ (and_parts _ _ all).0).1 x y
of_each f all T16x16 x y = of_two (f T16x16) (and_parts _ _ (and_parts _ _ all).1).0 x y
of_each f all T32x32 x y = of_two (f T32x32) (and_parts _ _ (and_parts _ _ all).1).1 x y

passes : (size : BlockSize) → each (test size) ≡ true
unfolding each both
passes B4x4 = refl
passes B4x8 = refl
passes B8x4 = refl
passes B8x8 = refl
passes B8x16 = refl
passes B16x8 = refl
passes B16x16 = refl
passes B16x32 = refl
passes B32x16 = refl
passes B32x32 = refl
passes B32x64 = refl
passes B64x32 = refl
passes B64x64 = refl

-- places of 8x8 along a block, in samples
high_is : (size : BlockSize) → 8 * height_8 size ≡ max 8 (height_of size)
high_is B4x4 = refl
high_is B4x8 = refl
high_is B8x4 = refl
high_is B8x8 = refl
high_is B8x16 = refl
high_is B16x8 = refl
high_is B16x16 = refl
high_is B16x32 = refl
high_is B32x16 = refl
high_is B32x32 = refl
high_is B32x64 = refl
high_is B64x32 = refl
high_is B64x64 = refl

wide_is : (size : BlockSize) → 8 * width_8 size ≡ max 8 (width_of size)
wide_is B4x4 = refl
wide_is B4x8 = refl
wide_is B8x4 = refl
wide_is B8x8 = refl
wide_is B8x16 = refl
wide_is B16x8 = refl
wide_is B16x16 = refl
wide_is B16x32 = refl
wide_is B32x16 = refl
wide_is B32x32 = refl
wide_is B32x64 = refl
wide_is B64x32 = refl
wide_is B64x64 = refl

---- Transform blocks ----

step_end : (step side k : ℕ) → ends step side ≡ true → k < div_ceil side step → step * k + step ≤ side
step_end step side k all low =
    let whole : step * div_ceil side step ≡ side = eqb-true _ _ all in
    let more : step * (k + 1) ≤ step * div_ceil side step = mul-le-mul_left step (next low) in
    omega (arith, whole, more, split)
  where
    next : k < div_ceil side step → k + 1 ≤ div_ceil side step
    next low = omega (arith, low)

    split : step * (k + 1) ≡ step * k + step
    split = grind arith

all_end : (step side base end : ℕ) → ends step side ≡ true → All (λ at. at + step ≤ side) (starts step side base end)
unfolding starts
all_end step side base end all =
    All-filter (λ at. nat_lt (base + 4 * at) end) (λ at. at + step ≤ side) (multiples step (div_ceil side step))
    (All-map (λ at. at + step ≤ side) (λ k. step * k) (range_with_len 0 (div_ceil side step)) (λ k d low. last k d low))
  where
    last : (k d : ℕ) → k < length (range_with_len 0 (div_ceil side step)) → step * get_or (range_with_len 0 (div_ceil side step)) k d + step ≤ side
    last k d low =
        let few : k < div_ceil side step = rw (length-range_with_len 0 (div_ceil side step)) at low in
        rw (get_or-range_with_len 0 (div_ceil side step) k d few) (step_end step side (0 + k) all (omega (arith, few)))

-- a transform block lies in its block
pub record LiesInBlock (b : PlaneBlock) (at : TransformPlace) : Type 0 where
  pub rows : 4 * at.row + side b.tx ≤ halved b.ss_y (8 * height_8 b.size)
  pub columns : 4 * at.column + side b.tx ≤ halved b.ss_x (8 * width_8 b.size)

side_is : (tx : TxSize) → side tx ≡ 4 * tx_step tx
side_is T4x4 = refl
side_is T8x8 = refl
side_is T16x16 = refl
side_is T32x32 = refl

in_length : (ss : Bool) (at step n m : ℕ) → at + step ≤ plane_side ss n → m ≡ max 8 n → 4 * at + 4 * step ≤ halved ss m
in_length true at step n m fits is = rw is (omega (arith, fits))
in_length false at step n m fits is = rw is (omega (arith, fits))

in_block : (b : PlaneBlock) (at : TransformPlace) → (at.row + tx_step b.tx ≤ plane_side b.ss_y (height_of b.size)) × (at.column + tx_step b.tx ≤ plane_side b.ss_x (width_of b.size)) → LiesInBlock b at
in_block b at fits = record {
  rows = rw (side_is b.tx) (in_length b.ss_y at.row (tx_step b.tx) (height_of b.size) (8 * height_8 b.size) fits.0 (high_is b.size));
  columns = rw (side_is b.tx) (in_length b.ss_x at.column (tx_step b.tx) (width_of b.size) (8 * width_8 b.size) fits.1 (wide_is b.size));
}

all_in_block : (frame : FramePlaces) (b : PlaneBlock) → fits_in b.tx b.ss_x b.ss_y b.size ≡ true → All (LiesInBlock b) (transform_blocks frame b)
all_in_block frame b fits =
    let parts = and_parts _ _ fits in
    let places = all_places (λ y. y + tx_step b.tx ≤ plane_side b.ss_y (height_of b.size)) (λ x. x + tx_step b.tx ≤ plane_side b.ss_x (width_of b.size))
    (start_rows frame b) (start_columns frame b) (all_end _ _ _ _ parts.0) (all_end _ _ _ _ parts.1) in
    λ k d low. in_block b _ (places k d low)

allowed : (size : BlockSize) (tx : TxSize) (ss_x ss_y : Bool) → tx_number tx ≤ greatest_of size
    → (fits_in tx false false size ≡ true) × (fits_in (tx_of (uv_number size tx ss_x ss_y)) ss_x ss_y size ≡ true)
allowed size tx ss_x ss_y fits = and_parts _ _ (rw (le-leb (tx_number tx) (greatest_of size) fits) at (of_each (test size) (passes size) tx ss_x ss_y))

tx_fits : (shape : Shape) (b : BlockInfo) (p : Plane) → tx_number b.tx ≤ greatest_of b.size
    → fits_in (tx_in shape b p) (is_chroma p && shape.ss_x) (is_chroma p && shape.ss_y) b.size ≡ true
tx_fits shape b Y fits = (allowed b.size b.tx shape.ss_x shape.ss_y fits).0
tx_fits shape b U fits = (allowed b.size b.tx shape.ss_x shape.ss_y fits).1
tx_fits shape b V fits = (allowed b.size b.tx shape.ss_x shape.ss_y fits).1

pub all_fit : (shape : Shape) (b : BlockInfo) (p : Plane) → tx_number b.tx ≤ greatest_of b.size → All (LiesInBlock (plane_block shape b p)) (places_in shape b p)
all_fit shape b p fits = all_in_block (places_of shape) (plane_block shape b p) (tx_fits shape b p fits)
