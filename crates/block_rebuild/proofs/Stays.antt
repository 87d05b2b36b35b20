-- A block changes its own place alone, and needs nothing outside of its tile and of the row just above it.
use Rattle.std.proofs.Common.{◌≡◌, ◌<◌, ◌≤◌, ◌+◌, ◌*◌, ◌-◌, ◌/◌, ◌%◌, Bool, true, false, ℕ, pos, List, [], ◌∷◌, refl, sym, ap, arith, subst, nat_lt, nat_eq, min, map, length}
use Rattle.std.specs.Prelude.{Some, None, if◌then◌else◌, slice_index_or}
use Rattle.std.specs.List.{All, fold, range_with_len}
use Rattle.std.proofs.lemmas.Bool.{and_parts, eqb-true, ltb-true}
use Rattle.std.proofs.lemmas.List.Elements.{All-nil, All-cons, All-head, All-tail}
use Rattle.std.proofs.lemmas.List.FromFn.{get_or-range_with_len, length-range_with_len}
use Rattle.vp9_types.specs.Maps.{Map}
use Rattle.vp9_types.specs.Shapes.{halved, mi_rows, mi_cols, coded_width, coded_height}
use Rattle.vp9_types.specs.Sizes.{side, greatest}
use Rattle.vp9_types.specs.declared.block.TxSize.{TxSize}
use Rattle.vp9_types.specs.declared.block.TxSize.TheVariants.{T4x4, T8x8, T16x16, T32x32}
use Rattle.vp9_types.specs.declared.shape.Depth.{Depth}
use Rattle.vp9_types.specs.declared.shape.Plane.{Plane}
use Rattle.vp9_types.specs.declared.shape.Plane.TheVariants.{Y, U, V}
use Rattle.vp9_types.specs.declared.shape.Shape.{Shape}
use Rattle.block_geometry.proofs.Rasters.{all_inside}
use Rattle.block_geometry.specs.FrameShapes.{places_of}
use Rattle.block_geometry.specs.BlockSizes.{is_below_8x8, width_8, height_8}
use Rattle.block_geometry.specs.declared.transform_blocks.TransformPlace.{TransformPlace}
use Rattle.block_plan.specs.InPlanes.{plane_block, places_in, tx_in}
use Rattle.block_plan.specs.Planned.{Residue, PlannedBlock, residues_in}
use Rattle.block_plan.specs.declared.block.BlockInfo.{BlockInfo}
use Rattle.block_plan.specs.declared.block.InterPrediction.{InterPrediction}
use Rattle.block_plan.specs.declared.block.IntraPrediction.{IntraPrediction}
use Rattle.inter_places.specs.Places.{is_subsampled, parts_of, part_start, predicted_length}
use Rattle.inter_places.specs.declared.part.Direction.TheVariants.{Down, Across}
use Rattle.intra_predict.proofs.Around.{edges_agree}
use Rattle.intra_predict.specs.BlockEdges.{reads_right}
use Rattle.intra_predict.specs.Laws.{IsInside, AgreeAround}
use Rattle.intra_predict.specs.PredictedModes.{predicted}
use Rattle.intra_predict.specs.Residue.{with_residue}
use Rattle.intra_predict.specs.Steps.{prediction, plus_residue}
use Rattle.intra_predict.specs.declared.block.IntraBlock.{IntraBlock}
use Rattle.block_rebuild.specs.RebuiltBlocks.{intra_at, put_residue, put_next, put_intra}
use Rattle.block_rebuild.specs.InterBlocks.{Rebuilding, part_of, predicted_part, put_part, put_prediction, tx_row, tx_column, samples_from, add_residue, add_next, put_inter}
use Rattle.block_rebuild.specs.Strips.{Region, in_plane}
use Rattle.block_rebuild.specs.Laws.{SameAround, StaysIn, IsRead, own_places, places_around}
use Rattle.block_rebuild.proofs.Regions.{IsWithin, does_nothing, then_stays, fold_stays, block_stays}
use Rattle.block_rebuild.proofs.Fits.{LiesInBlock, all_fit}

---- A transform block of an intra block ----

-- where it lies in its block and its tile, in samples
record IsTransformIn (width height size : ℕ) (own g : Region) (b : IntraBlock) : Type 0 where
  inside : IsInside width height b.place
  top : own.top ≤ b.place.row
  bottom : b.place.row + size ≤ own.bottom
  left : own.left ≤ b.place.column
  right : b.place.column + size ≤ own.right
  tile : g.left ≤ b.place.tile_from
  past : b.place.tile_from ≤ b.place.column
  goes_on : b.place.column + 4 < b.place.block_end → b.place.column + 8 ≤ own.right

right_of : (width height size : ℕ) (own g : Region) (b : IntraBlock) → IsTransformIn width height size own g b → (c : Bool) → reads_right size b.place ≡ c
    → (x : ℕ) → x < b.place.column + (if c then 2 * size else size) → x < own.right
right_of width height size own g b is true reads x low =
    let both = and_parts (nat_eq size 4) (nat_lt (b.place.column + 4) b.place.block_end) reads in
    let four : size ≡ 4 = eqb-true size 4 both.0 in
    let more = is.goes_on (ltb-true (b.place.column + 4) b.place.block_end both.1) in
    omega (arith, four, more, low)
right_of width height size own g b is false reads x low = omega (arith, is.right, low)

agrees : (width height size : ℕ) (own g : Region) (b : IntraBlock) (m n : Map) → IsTransformIn width height size own g b → IsWithin own g → SameAround g m n
    → AgreeAround width height size b.place m n
agrees width height size own g b m n is within same = record {
  above = λ low x from near end wide. same (b.place.row - 1) x (record {
    below = omega (arith, is.top, within.top, low);
    above = omega (arith, is.bottom, within.bottom, low);
    behind = omega (arith, is.tile, from);
    before = let h = right_of width height size own g b is (reads_right size b.place) refl x end in omega (arith, h, within.right);
  });
  left = λ past y from end high. same y (b.place.column - 1) (record {
    below = omega (arith, is.top, within.top, from);
    above = omega (arith, is.bottom, within.bottom, end);
    behind = omega (arith, is.tile, past);
    before = omega (arith, is.right, within.right, past);
  });
}

same_prediction : (width height : ℕ) (depth : Depth) (own g : Region) (b : IntraBlock) (m n : Map) → 0 < side b.size → IsTransformIn width height (side b.size) own g b → IsWithin own g
    → SameAround g m n → prediction width height depth b m ≡ prediction width height depth b n
unfolding prediction
same_prediction width height depth own g b m n some is within same =
    ap (predicted b.mode (side b.size) depth) (edges_agree width height (side b.size) depth b.place m n some is.inside is.past (agrees width height (side b.size) own g b m n is within same))

pub some_side : (tx : TxSize) → 0 < side tx
some_side T4x4 = omega arith
some_side T8x8 = omega arith
some_side T16x16 = omega arith
some_side T32x32 = omega arith

residue_stays : (width height : ℕ) (depth : Depth) (own g : Region) (b : IntraBlock) (residue : Residue) → IsTransformIn width height (side b.size) own g b → IsWithin own g
    → StaysIn own g (put_residue width height depth b residue)
residue_stays width height depth own g b None is within =
    block_stays own g b.place.row b.place.column (min (side b.size) (height - b.place.row)) (min (side b.size) (width - b.place.column)) (prediction width height depth b)
    is.top (omega (arith, is.bottom)) is.left (omega (arith, is.right))
    (λ m n same i j low high. ap (λ (z : Map). z i j) (same_prediction width height depth own g b m n (some_side b.size) is within same))
residue_stays width height depth own g b (Some values) is within =
    block_stays own g b.place.row b.place.column (min (side b.size) (height - b.place.row)) (min (side b.size) (width - b.place.column))
    (λ m. plus_residue depth (side b.size) (prediction width height depth b m) values)
    is.top (omega (arith, is.bottom)) is.left (omega (arith, is.right))
    (λ m n same i j low high. ap (λ (z : Map). plus_residue depth (side b.size) z values i j) (same_prediction width height depth own g b m n (some_side b.size) is within same))

---- An intra block ----

-- the places where its transform blocks start
abbrev pub Starts : Shape → BlockInfo → Plane → TransformPlace → Type 0
Starts shape b p at =
    let c = plane_block shape b p in
    (halved c.ss_y (8 * c.row) + 4 * at.row < halved c.ss_y (8 * mi_rows shape)) × (halved c.ss_x (8 * c.col) + 4 * at.column < halved c.ss_x (8 * mi_cols shape))

pub at_eights : (ss : Bool) (a b : ℕ) → halved ss (8 * (a + b)) ≡ halved ss (8 * a) + halved ss (8 * b)
at_eights true a b = omega arith
at_eights false a b = omega arith

pub at_fours : (ss : Bool) (a : ℕ) → halved ss (8 * a) ≡ 4 * (halved ss (8 * a) / 4)
at_fours true a = omega arith
at_fours false a = omega arith

pub rises : (ss : Bool) (a b : ℕ) → a ≤ b → halved ss (8 * a) ≤ halved ss (8 * b)
rises true a b le = omega (arith, le)
rises false a b le = omega (arith, le)

transform_in : (shape : Shape) (b : PlannedBlock) (modes : IntraPrediction) (p : Plane) (at : TransformPlace) → b.tile_from ≤ b.info.col
    → LiesInBlock (plane_block shape b.info p) at → IsInside (coded_width shape p) (coded_height shape p) (intra_at shape b.tile_from b.info modes p at).place
    → IsTransformIn (coded_width shape p) (coded_height shape p) (side (tx_in shape b.info p)) (in_plane shape p (own_places b.info)) (in_plane shape p (places_around b))
    (intra_at shape b.tile_from b.info modes p at)
transform_in shape b modes p at tile lies inside =
    let c = plane_block shape b.info p in
    let high = at_eights c.ss_y b.info.row (height_8 b.info.size) in
    let wide = at_eights c.ss_x b.info.col (width_8 b.info.size) in
    let begin = at_fours c.ss_x b.info.col in
    let end = at_fours c.ss_x (b.info.col + width_8 b.info.size) in
    record {
      inside = inside;
      top = omega arith;
      bottom = omega (arith, high, lies.rows);
      left = omega arith;
      right = omega (arith, wide, lies.columns);
      tile = omega arith;
      past = let h = rises c.ss_x b.tile_from b.info.col tile in omega (arith, h);
      goes_on = λ more. omega (arith, more, begin, end);
    }

from_map : {A B : Type 0} (P : B → Type 0) (f : A → B) (xs : List A) → All P (map f xs) → All (λ x. P (f x)) xs
from_map P f [] each = All-nil (λ x. P (f x))
from_map P f (x ∷ xs) each = All-cons (λ x. P (f x)) x xs (All-head P (f x) (map f xs) each) (from_map P f xs (All-tail P (f x) (map f xs) each))

-- what holds at all transform blocks of a block holds where its residues stand
abbrev place_of_residue : TransformPlace × Residue → TransformPlace
place_of_residue r = r.0

at_residues : (shape : Shape) (b : PlannedBlock) (p : Plane) (P : TransformPlace → Type 0) → map place_of_residue (residues_in b p) ≡ places_in shape b.info p → All P (places_in shape b.info p)
    → All (λ r. P (place_of_residue r)) (residues_in b p)
at_residues shape b p P same each = from_map P place_of_residue (residues_in b p) (subst (λ (ats : List TransformPlace). All P ats) (sym same) each)

pub own_within : (shape : Shape) (b : PlannedBlock) (p : Plane) → b.tile_from ≤ b.info.col → IsWithin (in_plane shape p (own_places b.info)) (in_plane shape p (places_around b))
own_within shape b p tile = record {
  top = omega arith;
  bottom = omega arith;
  left = let h = rises (is_subsampled shape p Across) b.tile_from b.info.col tile in omega (arith, h);
  right = omega arith;
}

is_inside : (shape : Shape) (b : PlannedBlock) (modes : IntraPrediction) (p : Plane) (at : TransformPlace) → Starts shape b.info p at
    → IsInside (coded_width shape p) (coded_height shape p) (intra_at shape b.tile_from b.info modes p at).place
is_inside shape b modes Y at starts = record { high = omega (arith, starts.0); wide = omega (arith, starts.1) }
is_inside shape b modes U at starts = record { high = omega (arith, starts.0); wide = omega (arith, starts.1) }
is_inside shape b modes V at starts = record { high = omega (arith, starts.0); wide = omega (arith, starts.1) }

pub intra_stays : (shape : Shape) (b : PlannedBlock) (modes : IntraPrediction) (p : Plane) → IsRead shape b
    → StaysIn (in_plane shape p (own_places b.info)) (in_plane shape p (places_around b)) (put_intra shape b.tile_from b.info modes p (residues_in b p))
unfolding put_intra
intra_stays shape b modes p read =
    let lies = at_residues shape b p (LiesInBlock (plane_block shape b.info p)) (read.places p) (all_fit shape b.info p read.placed.fits) in
    let starts = at_residues shape b p (Starts shape b.info p) (read.places p) (all_inside (places_of shape) (plane_block shape b.info p)) in
    fold_stays _ _ (put_next shape b.tile_from b.info modes p) (residues_in b p) (λ k d low.
    let r = slice_index_or (residues_in b p) k d in
    residue_stays (coded_width shape p) (coded_height shape p) shape.depth _ _ (intra_at shape b.tile_from b.info modes p r.0) r.1
    (transform_in shape b modes p r.0 read.placed.tile (lies k d low) (is_inside shape b modes p r.0 (starts k d low)))
    (own_within shape b p read.placed.tile))

---- An inter block ----

pub part_down : (ss_y ss_x below : Bool) (n count : ℕ) → 1 ≤ count → n < (if below then halved ss_y 2 * halved ss_x 2 else 1)
    → 4 * (n / halved ss_x 2) + (if below then 4 else halved ss_y (8 * count)) ≤ halved ss_y (8 * count)
part_down true true true n count some low = omega (arith, some, low)
part_down true false true n count some low = omega (arith, some, low)
part_down false true true n count some low = omega (arith, some, low)
part_down false false true n count some low = omega (arith, some, low)
part_down true true false n count some low = omega (arith, some, low)
part_down true false false n count some low = omega (arith, some, low)
part_down false true false n count some low = omega (arith, some, low)
part_down false false false n count some low = omega (arith, some, low)

pub part_across : (ss_y ss_x below : Bool) (n count : ℕ) → 1 ≤ count → n < (if below then halved ss_y 2 * halved ss_x 2 else 1)
    → 4 * (n % halved ss_x 2) + (if below then 4 else halved ss_x (8 * count)) ≤ halved ss_x (8 * count)
part_across true true true n count some low = omega (arith, some, low)
part_across true false true n count some low = omega (arith, some, low)
part_across false true true n count some low = omega (arith, some, low)
part_across false false true n count some low = omega (arith, some, low)
part_across true true false n count some low = omega (arith, some, low)
part_across true false false n count some low = omega (arith, some, low)
part_across false true false n count some low = omega (arith, some, low)
part_across false false false n count some low = omega (arith, some, low)

part_stays : (by : Rebuilding) (b : PlannedBlock) (modes : InterPrediction) (p : Plane) (n : ℕ) → n < parts_of by.shape b.info.size p
    → StaysIn (in_plane by.shape p (own_places b.info)) (in_plane by.shape p (places_around b)) (λ m. put_part by b.info modes p m n)
part_stays by b modes p n low =
    let ss_y = is_subsampled by.shape p Down in
    let ss_x = is_subsampled by.shape p Across in
    let down = part_down ss_y ss_x (is_below_8x8 b.info.size) n (height_8 b.info.size) (omega arith) low in
    let across = part_across ss_y ss_x (is_below_8x8 b.info.size) n (width_8 b.info.size) (omega arith) low in
    let high = at_eights ss_y b.info.row (height_8 b.info.size) in
    let wide = at_eights ss_x b.info.col (width_8 b.info.size) in
    block_stays _ _ (part_start by.shape b.info (part_of p n 0) Down) (part_start by.shape b.info (part_of p n 0) Across)
    (predicted_length by.shape b.info (part_of p n 0) Down) (predicted_length by.shape b.info (part_of p n 0) Across) (λ m. predicted_part by b.info modes p n)
    (omega arith) (omega (arith, down, high)) (omega arith) (omega (arith, across, wide)) (λ m n same i j low high. refl)

prediction_stays : (by : Rebuilding) (b : PlannedBlock) (modes : InterPrediction) (p : Plane)
    → StaysIn (in_plane by.shape p (own_places b.info)) (in_plane by.shape p (places_around b)) (put_prediction by b.info modes p)
unfolding put_prediction
prediction_stays by b modes p = fold_stays _ _ (put_part by b.info modes p) (range_with_len 0 (parts_of by.shape b.info.size p)) (λ k d low. of_range k d low)
  where
    of_range : (k d : ℕ) → k < length (range_with_len 0 (parts_of by.shape b.info.size p))
        → StaysIn (in_plane by.shape p (own_places b.info)) (in_plane by.shape p (places_around b)) (λ m. put_part by b.info modes p m (slice_index_or (range_with_len 0 (parts_of by.shape b.info.size p)) k d))
    of_range k d low =
        let few : k < parts_of by.shape b.info.size p = rw (length-range_with_len 0 (parts_of by.shape b.info.size p)) at low in
        subst (λ (n : ℕ). StaysIn (in_plane by.shape p (own_places b.info)) (in_plane by.shape p (places_around b)) (λ m. put_part by b.info modes p m n))
        (sym (get_or-range_with_len 0 (parts_of by.shape b.info.size p) k d few)) (part_stays by b modes p (0 + k) (omega (arith, few)))

add_stays : (width height : ℕ) (shape : Shape) (b : PlannedBlock) (p : Plane) (at : TransformPlace) (residue : Residue) → b.tile_from ≤ b.info.col → LiesInBlock (plane_block shape b.info p) at
    → StaysIn (in_plane shape p (own_places b.info)) (in_plane shape p (places_around b)) (add_residue width height shape.depth (plane_block shape b.info p) at residue)
add_stays width height shape b p at None tile lies = does_nothing _ _
add_stays width height shape b p at (Some values) tile lies =
    let c = plane_block shape b.info p in
    let high = at_eights c.ss_y b.info.row (height_8 b.info.size) in
    let wide = at_eights c.ss_x b.info.col (width_8 b.info.size) in
    let begin = rises c.ss_x b.tile_from b.info.col tile in
    block_stays _ _ (tx_row c at.row) (tx_column c at.column) (min (side c.tx) (height - tx_row c at.row)) (min (side c.tx) (width - tx_column c at.column))
    (λ m. plus_residue shape.depth (side c.tx) (samples_from m (tx_row c at.row) (tx_column c at.column)) values)
    (omega arith) (omega (arith, high, lies.rows)) (omega arith) (omega (arith, wide, lies.columns))
    (λ m n same i j low near. ap (λ (z : ℕ). with_residue (greatest shape.depth) z (slice_index_or values (i * side c.tx + j) (pos 0)))
    (same (tx_row c at.row + i) (tx_column c at.column + j) (record {
      below = omega arith;
      above = omega (arith, low, high, lies.rows);
      behind = omega (arith, begin);
      before = omega (arith, near, wide, lies.columns);
    })))

pub inter_stays : (by : Rebuilding) (b : PlannedBlock) (modes : InterPrediction) (p : Plane) → IsRead by.shape b
    → StaysIn (in_plane by.shape p (own_places b.info)) (in_plane by.shape p (places_around b)) (put_inter by b.info modes p (residues_in b p))
unfolding put_inter
inter_stays by b modes p read =
    let lies = at_residues by.shape b p (LiesInBlock (plane_block by.shape b.info p)) (read.places p) (all_fit by.shape b.info p read.placed.fits) in
    then_stays _ _ (put_prediction by b.info modes p) (λ m. fold (add_next by.shape b.info p) m (residues_in b p)) (prediction_stays by b modes p)
    (fold_stays _ _ (add_next by.shape b.info p) (residues_in b p) (λ k d low.
    let r = slice_index_or (residues_in b p) k d in
    add_stays (coded_width by.shape p) (coded_height by.shape p) by.shape b p r.0 r.1 read.placed.tile (lies k d low)))
