-- In an area that holds a block, the block is put as in the whole plane.
use Rattle.std.proofs.Common.{◌≡◌, ◌<◌, ◌≤◌, ◌+◌, ◌*◌, ◌-◌, inl, inr, ◌||◌, Bool, true, false, ℕ, List, [], ◌∷◌, refl, sym, ◌∙◌, ap, arith, subst, nat_lt, nat_eq, min, map, length, Bor}
use Rattle.std.specs.Prelude.{Some, None, if◌then◌else◌, slice_index_or}
use Rattle.std.specs.List.{All, fold, range_with_len}
use Rattle.std.proofs.lemmas.Bool.{cases_lt, and_parts, eqb-true, ltb-true, lt-ltb, le-ltb}
use Rattle.std.proofs.lemmas.List.Elements.{All-head, All-tail}
use Rattle.std.proofs.lemmas.List.FromFn.{fill_by_all, length-map-range_with_len, get_or-map-range_with_len}
use Rattle.vp9_types.specs.Maps.{Map, FrameMap, frame_map, with_block}
use Rattle.vp9_types.specs.Shapes.{halved, mi_rows, mi_cols, coded_width, coded_height}
use Rattle.vp9_types.specs.Sizes.{side}
use Rattle.vp9_types.specs.declared.shape.Depth.{Depth}
use Rattle.vp9_types.specs.declared.shape.Plane.{Plane}
use Rattle.vp9_types.specs.declared.shape.Plane.TheVariants.{Y, U, V}
use Rattle.vp9_types.specs.declared.shape.Shape.{Shape}
use Rattle.vp9_types.specs.Maps.{HoldsRows, rows_of}
use Rattle.vp9_types.specs.declared.block.TxSize.{TxSize}
use Rattle.vp9_tables.specs.BlockTables.{greatest_of}
use Rattle.vp9_tables.specs.Numbers.{tx_number}
use Rattle.vp9_tables.specs.Scans.{area}
use Rattle.block_geometry.proofs.Rasters.{all_inside}
use Rattle.block_geometry.specs.FrameShapes.{places_of}
use Rattle.block_geometry.specs.declared.transform_blocks.PlaneBlock.{PlaneBlock}
use Rattle.block_plan.specs.declared.block.InterPrediction.{InterPrediction}
use Rattle.inter_places.specs.Axes.{IsPlace}
use Rattle.inter_places.specs.declared.axis.Place as places
use Rattle.intra_predict.specs.declared.coded.CodedBlock.{CodedBlock}
use Rattle.planes.specs.Pictures.{coded_area}
use Rattle.block_geometry.specs.BlockSizes.{is_below_8x8, width_8, height_8}
use Rattle.block_geometry.specs.TransformBlocks.{place_at}
use Rattle.block_geometry.specs.declared.transform_blocks.TransformPlace.{TransformPlace}
use Rattle.block_plan.specs.InPlanes.{plane_block, places_in, tx_in}
use Rattle.block_plan.specs.Planned.{Residue, PlannedBlock}
use Rattle.block_plan.specs.declared.block.Prediction.{Prediction}
use Rattle.block_plan.specs.declared.block.Prediction.TheVariants.{Intra, Inter}
use Rattle.block_plan.specs.declared.block.BlockInfo.{BlockInfo}
use Rattle.block_plan.specs.declared.block.IntraPrediction.{IntraPrediction}
use Rattle.inter_places.specs.Places.{is_subsampled, coded_length, parts_of, place_of}
use Rattle.inter_places.specs.declared.part.Direction.TheVariants.{Down, Across}
use Rattle.intra_predict.proofs.EdgeLemmas.{same_edges}
use Rattle.intra_predict.specs.BlockEdges.{edges_in, reads_right, above_sample, left_sample}
use Rattle.intra_predict.specs.Code.{LiesIn}
use Rattle.intra_predict.specs.PredictedModes.{predicted}
use Rattle.intra_predict.specs.Places.{place_in}
use Rattle.intra_predict.specs.Steps.{prediction, plus_residue}
use Rattle.intra_predict.specs.declared.block.IntraBlock.{IntraBlock}
use Rattle.intra_predict.specs.declared.place.IntraPlace.{IntraPlace}
use Rattle.planes.specs.Planes.{HasRow, StartsIn, lower_end, right_end, with_part}
use Rattle.planes.specs.declared.area.Area.{Area}
use Rattle.block_rebuild.specs.RebuiltBlocks.{coded_block, intra_at, put_residue, put_next, put_intra, put_by}
use Rattle.block_rebuild.specs.InterBlocks.{Rebuilding, part_of, predicted_part, put_part, put_prediction, put_inter, tx_row, tx_column, add_residue, add_next, samples_from}
use Rattle.block_rebuild.specs.Code.{HoldsBlock, put_more, add_more}
use Rattle.block_rebuild.specs.Residues.{residues_at}
use Rattle.block_rebuild.specs.declared.in_plane.IntraInPlane.{IntraInPlane}
use Rattle.inter_predict.specs.Code.{LiesIn as LiesInArea, with_place}
use Rattle.block_rebuild.proofs.Parts.{whole_part, place_put}
use Rattle.block_rebuild.proofs.Puts.{first_is, length_first}
use Rattle.block_rebuild.proofs.Fits.{LiesInBlock, all_fit}
use Rattle.block_rebuild.proofs.Stays.{Starts, at_eights, at_fours, rises, some_side, part_down, part_across}

---- Ends ----

-- an end of an area serves as that of the plane, as far as a block reaches
pub record IsEnd (near whole reach : ℕ) : Type 0 where
  pub enough : min whole reach ≤ near
  pub inside : near ≤ whole

-- what of a length lies before it
same_length : (near whole reach at size : ℕ) → IsEnd near whole reach → at + size ≤ reach → min size (near - at) ≡ min size (whole - at)
same_length near whole reach at size is low = omega (arith, is.enough, is.inside, low)

-- the last place before it stands for those past it
same_place : (near whole reach at : ℕ) → IsEnd near whole reach → at < reach → min (near - 1) at ≡ min (whole - 1) at
same_place near whole reach at is low = omega (arith, is.enough, is.inside, low)

---- Edges ----

same_values : (f g : ℕ → ℕ) (n : ℕ) → ((k : ℕ) → k < n → f k ≡ g k) → map f (range_with_len 0 n) ≡ map g (range_with_len 0 n)
same_values f g n same = fill_by_all g (map f (range_with_len 0 n)) n 0 (length-map-range_with_len f 0 n)
    (λ k low. let here : 0 + k ≡ k = omega arith in get_or-map-range_with_len f 0 n k k 0 low here ∙ same k low)

offset_small : (size j : ℕ) (right : Bool) → 0 < size → j < 2 * size
    → (if nat_lt j size || right then j else size - 1) < (if right then 2 * size else size)
offset_small size j true some low = elim (cases_lt j size) [
  | inl early ↦ rw (lt-ltb j size early) (omega arith)
  | inr late ↦ rw (le-ltb j size late) (omega arith)
]
offset_small size j false some low = elim (cases_lt j size) [
  | inl early ↦ rw (lt-ltb j size early) (omega arith)
  | inr late ↦ rw (le-ltb j size late) (omega arith)
]

-- where a transform block ends, and what is read right of it
record EndsBefore (size bottom right : ℕ) (p : IntraPlace) : Type 0 where
  low : p.row + size ≤ bottom
  narrow : p.column + size ≤ right
  goes_on : p.column + 4 < p.block_end → p.column + 8 ≤ right

reach_of : (size bottom right : ℕ) (p : IntraPlace) → EndsBefore size bottom right p → (c : Bool) → reads_right size p ≡ c → p.column + (if c then 2 * size else size) ≤ right
reach_of size bottom right p is true reads =
    let both = and_parts (nat_eq size 4) (nat_lt (p.column + 4) p.block_end) reads in
    let four : size ≡ 4 = eqb-true size 4 both.0 in
    let more = is.goes_on (ltb-true (p.column + 4) p.block_end both.1) in
    omega (arith, four, more)
reach_of size bottom right p is false reads = is.narrow

same_above : (near whole right size bottom : ℕ) (depth : Depth) (p : IntraPlace) (m : Map) → 0 < size → IsEnd near whole right → EndsBefore size bottom right p → (j : ℕ) → j < 2 * size
    → above_sample near depth size p m j ≡ above_sample whole depth size p m j
same_above near whole right size bottom depth p m some end is j low = elim (cases_lt 0 p.row) [
  | inl below ↦
      let small = offset_small size j (reads_right size p) some low in
      let reach = reach_of size bottom right p is (reads_right size p) refl in
      rw (lt-ltb 0 p.row below) (ap (λ (x : ℕ). m (p.row - 1) x)
      (same_place near whole right (p.column + (if nat_lt j size || reads_right size p then j else size - 1)) end (omega (arith, small, reach))))
  | inr top ↦ rw (le-ltb 0 p.row top) refl
]

same_left : (near whole bottom size right : ℕ) (depth : Depth) (p : IntraPlace) (m : Map) → IsEnd near whole bottom → EndsBefore size bottom right p → (i : ℕ) → i < size
    → left_sample near depth p m i ≡ left_sample whole depth p m i
same_left near whole bottom size right depth p m end is i low = elim (cases_lt p.tile_from p.column) [
  | inl past ↦ rw (lt-ltb p.tile_from p.column past) (ap (λ (y : ℕ). m y (p.column - 1)) (same_place near whole bottom (p.row + i) end (omega (arith, is.low, low))))
  | inr first ↦ rw (le-ltb p.tile_from p.column first) refl
]

same_edges_in : (width height w h right bottom size : ℕ) (depth : Depth) (p : IntraPlace) (m : Map) → 0 < size → IsEnd width w right → IsEnd height h bottom → EndsBefore size bottom right p
    → edges_in width height depth size p m ≡ edges_in w h depth size p m
unfolding edges_in
same_edges_in width height w h right bottom size depth p m some wide high is = same_edges _ _ _ _ _ _ _ _
    (same_values _ _ (2 * size) (same_above width w right size bottom depth p m some wide is))
    (same_values _ _ size (same_left height h bottom size right depth p m high is))
    refl

same_prediction : (width height w h right bottom : ℕ) (depth : Depth) (b : IntraBlock) (m : Map) → IsEnd width w right → IsEnd height h bottom → EndsBefore (side b.size) bottom right b.place
    → prediction width height depth b m ≡ prediction w h depth b m
unfolding prediction
same_prediction width height w h right bottom depth b m wide high is =
    ap (predicted b.mode (side b.size) depth) (same_edges_in width height w h right bottom (side b.size) depth b.place m (some_side b.size) wide high is)

same_residue : (width height w h right bottom : ℕ) (depth : Depth) (b : IntraBlock) (residue : Residue) (m : Map) → IsEnd width w right → IsEnd height h bottom → EndsBefore (side b.size) bottom right b.place
    → put_residue width height depth b residue m ≡ put_residue w h depth b residue m
same_residue width height w h right bottom depth b None m wide high is =
    let rows = same_length height h bottom b.place.row (side b.size) high is.low in
    let columns = same_length width w right b.place.column (side b.size) wide is.narrow in
    λ i. with_block m b.place.row b.place.column (rows i) (columns i) (same_prediction width height w h right bottom depth b m wide high is i)
same_residue width height w h right bottom depth b (Some values) m wide high is =
    let rows = same_length height h bottom b.place.row (side b.size) high is.low in
    let columns = same_length width w right b.place.column (side b.size) wide is.narrow in
    λ i. with_block m b.place.row b.place.column (rows i) (columns i) (plus_residue depth (side b.size) (same_prediction width height w h right bottom depth b m wide high is i) values)

---- Transform blocks ----

pub rows_end : (shape : Shape) (p : Plane) (tile_from : ℕ) (b : BlockInfo) (a : Area) → HoldsBlock shape p tile_from b a
    → IsEnd (lower_end a) (coded_length shape p Down) (halved (is_subsampled shape p Down) (8 * (b.row + height_8 b.size)))
rows_end shape p tile_from b a is = record { enough = is.bottom; inside = is.low }

pub columns_end : (shape : Shape) (p : Plane) (tile_from : ℕ) (b : BlockInfo) (a : Area) → HoldsBlock shape p tile_from b a
    → IsEnd (right_end a) (coded_length shape p Across) (halved (is_subsampled shape p Across) (8 * (b.col + width_8 b.size)))
columns_end shape p tile_from b a is = record { enough = is.right; inside = is.narrow }

-- where a transform block starts, as the standard's width and height have it
abbrev BothStart : Shape → BlockInfo → Plane → TransformPlace → Type 0
BothStart shape b p at = LiesInBlock (plane_block shape b p) at × Starts shape b p at

ends_before : (shape : Shape) (tile_from : ℕ) (b : BlockInfo) (modes : IntraPrediction) (p : Plane) (at : TransformPlace) → LiesInBlock (plane_block shape b p) at
    → EndsBefore (side (tx_in shape b p)) (halved (is_subsampled shape p Down) (8 * (b.row + height_8 b.size))) (halved (is_subsampled shape p Across) (8 * (b.col + width_8 b.size)))
    (intra_at shape tile_from b modes p at).place
ends_before shape tile_from b modes p at lies =
    let c = plane_block shape b p in
    let high = at_eights c.ss_y b.row (height_8 b.size) in
    let wide = at_eights c.ss_x b.col (width_8 b.size) in
    let begin = at_fours c.ss_x b.col in
    let end = at_fours c.ss_x (b.col + width_8 b.size) in
    record {
      low = omega (arith, high, lies.rows);
      narrow = omega (arith, wide, lies.columns);
      goes_on = λ more. omega (arith, more, begin, end);
    }

in_lengths : (shape : Shape) (p : Plane) → (coded_height shape p ≡ coded_length shape p Down) × (coded_width shape p ≡ coded_length shape p Across)
in_lengths shape p = (refl, refl)

-- a transform block of an intra block is put as in the whole plane
same_put : (shape : Shape) (tile_from : ℕ) (b : BlockInfo) (modes : IntraPrediction) (p : Plane) (a : Area) (r : TransformPlace × Residue) (m : Map) → HoldsBlock shape p tile_from b a
    → LiesInBlock (plane_block shape b p) r.0
    → put_residue (right_end a) (lower_end a) shape.depth (intra_at shape tile_from b modes p r.0) r.1 m ≡ put_next shape tile_from b modes p m r
same_put shape tile_from b modes p a r m holds lies =
    same_residue (right_end a) (lower_end a) (coded_width shape p) (coded_height shape p) _ _ shape.depth (intra_at shape tile_from b modes p r.0) r.1 m
    (columns_end shape p tile_from b a holds) (rows_end shape p tile_from b a holds) (ends_before shape tile_from b modes p r.0 lies)

-- and its residue is added as there
pub same_add : (shape : Shape) (tile_from : ℕ) (b : BlockInfo) (p : Plane) (a : Area) (at : TransformPlace) (residue : Residue) (m : Map) → HoldsBlock shape p tile_from b a
    → LiesInBlock (plane_block shape b p) at
    → add_residue (right_end a) (lower_end a) shape.depth (plane_block shape b p) at residue m ≡ add_residue (coded_width shape p) (coded_height shape p) shape.depth (plane_block shape b p) at residue m
same_add shape tile_from b p a at None m holds lies = refl
same_add shape tile_from b p a at (Some values) m holds lies =
    let c = plane_block shape b p in
    let high = at_eights c.ss_y b.row (height_8 b.size) in
    let wide = at_eights c.ss_x b.col (width_8 b.size) in
    let rows = same_length (lower_end a) (coded_height shape p) _ (tx_row c at.row) (side c.tx) (rows_end shape p tile_from b a holds) (omega (arith, high, lies.rows)) in
    let columns = same_length (right_end a) (coded_width shape p) _ (tx_column c at.column) (side c.tx) (columns_end shape p tile_from b a holds) (omega (arith, wide, lies.columns)) in
    λ i. with_block m (tx_row c at.row) (tx_column c at.column) (rows i) (columns i) (plus_residue shape.depth (side c.tx) (samples_from m (tx_row c at.row) (tx_column c at.column)) values)

-- it starts in the area
row_starts : (shape : Shape) (tile_from : ℕ) (b : BlockInfo) (p : Plane) (a : Area) (at : TransformPlace) → HoldsBlock shape p tile_from b a → BothStart shape b p at
    → tx_row (plane_block shape b p) at.row < lower_end a
row_starts shape tile_from b p a at holds both =
    let c = plane_block shape b p in
    let high = at_eights c.ss_y b.row (height_8 b.size) in
    let some = some_side c.tx in
    let begins : tx_row c at.row < coded_length shape p Down = starts_row shape p both.1.0 in
    omega (arith, begins, both.0.rows, some, high, holds.bottom)
  where
    starts_row : (shape : Shape) (p : Plane) {y : ℕ} → y < halved (is_subsampled shape p Down) (8 * mi_rows shape) → y < coded_length shape p Down
    starts_row shape Y h = h
    starts_row shape U h = h
    starts_row shape V h = h

column_starts : (shape : Shape) (tile_from : ℕ) (b : BlockInfo) (p : Plane) (a : Area) (at : TransformPlace) → HoldsBlock shape p tile_from b a → BothStart shape b p at
    → tx_column (plane_block shape b p) at.column < right_end a
column_starts shape tile_from b p a at holds both =
    let c = plane_block shape b p in
    let wide = at_eights c.ss_x b.col (width_8 b.size) in
    let some = some_side c.tx in
    let begins : tx_column c at.column < coded_length shape p Across = starts_column shape p both.1.1 in
    omega (arith, begins, both.0.columns, some, wide, holds.right)
  where
    starts_column : (shape : Shape) (p : Plane) {x : ℕ} → x < halved (is_subsampled shape p Across) (8 * mi_cols shape) → x < coded_length shape p Across
    starts_column shape Y h = h
    starts_column shape U h = h
    starts_column shape V h = h

lies : (shape : Shape) (tile_from : ℕ) (b : BlockInfo) (p : Plane) (a : Area) (at : TransformPlace) → tile_from ≤ b.col → HoldsBlock shape p tile_from b a → BothStart shape b p at
    → LiesIn a (place_in (coded_block tile_from (plane_block shape b p)) at.row at.column)
lies shape tile_from b p a at tile holds both =
    let c = plane_block shape b p in
    let before = rises c.ss_x tile_from b.col tile in
    record {
      top = omega (arith, holds.top);
      bottom = row_starts shape tile_from b p a at holds both;
      begin = omega (arith, holds.left, before);
      end = column_starts shape tile_from b p a at holds both;
      above = λ some. elim (cases_lt 0 (halved (is_subsampled shape p Down) (8 * b.row))) [
        | inl more ↦ let h = holds.above more in omega (arith, h)
        | inr none ↦ omega (arith, none, holds.top, some)
      ];
      left = λ past. omega (arith, holds.left, past);
    }

begins_in : (shape : Shape) (tile_from : ℕ) (b : BlockInfo) (p : Plane) (a : Area) (at : TransformPlace) → tile_from ≤ b.col → HoldsBlock shape p tile_from b a → BothStart shape b p at
    → HasRow a (tx_row (plane_block shape b p) at.row) (tx_column (plane_block shape b p) at.column) 1
begins_in shape tile_from b p a at tile holds both =
    let c = plane_block shape b p in
    let before = rises c.ss_x tile_from b.col tile in
    let right = column_starts shape tile_from b p a at holds both in
    record {
      above = omega (arith, holds.top);
      below = row_starts shape tile_from b p a at holds both;
      left = omega (arith, holds.left, before);
      right = omega (arith, right);
    }

both_start : (shape : Shape) (b : BlockInfo) (p : Plane) → tx_number b.tx ≤ greatest_of b.size → All (BothStart shape b p) (places_in shape b p)
both_start shape b p fits = λ k d low. (all_fit shape b p fits k d low, all_inside (places_of shape) (plane_block shape b p) k d low)

pub all_lie : (shape : Shape) (tile_from : ℕ) (b : BlockInfo) (p : Plane) (a : Area) → tile_from ≤ b.col → tx_number b.tx ≤ greatest_of b.size → HoldsBlock shape p tile_from b a
    → All (λ (at : TransformPlace). LiesIn a (place_in (coded_block tile_from (plane_block shape b p)) at.row at.column)) (places_in shape b p)
all_lie shape tile_from b p a tile fits holds = λ k d low. lies shape tile_from b p a _ tile holds (both_start shape b p fits k d low)

pub all_start : (shape : Shape) (tile_from : ℕ) (b : BlockInfo) (p : Plane) (a : Area) → tile_from ≤ b.col → tx_number b.tx ≤ greatest_of b.size → HoldsBlock shape p tile_from b a
    → All (λ (at : TransformPlace). HasRow a (tx_row (plane_block shape b p) at.row) (tx_column (plane_block shape b p) at.column) 1) (places_in shape b p)
all_start shape tile_from b p a tile fits holds = λ k d low. begins_in shape tile_from b p a _ tile holds (both_start shape b p fits k d low)

---- All of them ----

fold_same : {A : Type 0} (f g : Map → A → Map) (xs : List A) (m : Map) → All (λ x. (m : Map) → f m x ≡ g m x) xs → fold f m xs ≡ fold g m xs
fold_same f g [] m same = refl
fold_same f g (x ∷ xs) m same =
    ap (λ (z : Map). fold f z xs) (All-head (λ x. (m : Map) → f m x ≡ g m x) x xs same m) ∙ fold_same f g xs (g m x) (All-tail (λ x. (m : Map) → f m x ≡ g m x) x xs same)

-- the residues stand at the block's transform blocks
taken_at_places : (residue : ℕ → Residue) (ats : List TransformPlace) (P : TransformPlace → Type 0) → All P ats → All (λ (x : TransformPlace × Residue). P x.0) (residues_at residue ats)
taken_at_places residue ats P each = λ k d low.
    let few : k < length ats = rw (length_first residue ats (length ats)) at low in
    subst (λ (x : TransformPlace × Residue). P x.0) (sym (first_is residue ats (length ats) k d few)) (each k (place_at 0 0) few)

abbrev in_plane_of : Shape → BlockInfo → Bor IntraPrediction → Plane → TxSize → CodedBlock → IntraInPlane
in_plane_of shape b modes p tx coded = record { plane = p; depth = shape.depth; size = b.size; tx = tx; coded = coded; modes = modes }

pub put_is : (shape : Shape) (tile_from : ℕ) (b : BlockInfo) (modes : Bor IntraPrediction) (p : Plane) (a : Area) (cb : PlaneBlock) (coded : CodedBlock) (ats : List TransformPlace)
    (residue : ℕ → ℕ → Residue) (old new : Map) → tx_number b.tx ≤ greatest_of b.size → HoldsBlock shape p tile_from b a → cb ≡ plane_block shape b p → coded ≡ coded_block tile_from cb → ats ≡ places_in shape b p
    → new ≡ fold (put_more a (in_plane_of shape b modes p cb.tx coded)) old (residues_at (residue (area cb.tx)) ats)
    → new ≡ put_intra shape tile_from b modes.now p (residues_at (residue (area (tx_in shape b p))) (places_in shape b p)) old
unfolding put_intra
put_is shape tile_from b modes p a cb coded ats residue old new fits holds is at places put =
    let coded_is : coded ≡ coded_block tile_from (plane_block shape b p) = at ∙ ap (λ (c : PlaneBlock). coded_block tile_from c) is in
    put
    ∙ ((λ i. fold (put_more a (in_plane_of shape b modes p (is i).tx (coded_is i))) old (residues_at (residue (area (is i).tx)) (places i)))
    ∙ fold_same (put_more a (in_plane_of shape b modes p (tx_in shape b p) (coded_block tile_from (plane_block shape b p)))) (put_next shape tile_from b modes.now p) (residues_at (residue (area (tx_in shape b p))) (places_in shape b p)) old
    (λ k d low. λ m. same_put shape tile_from b modes.now p a (slice_index_or (residues_at (residue (area (tx_in shape b p))) (places_in shape b p)) k d) m holds
    (taken_at_places (residue (area (tx_in shape b p))) (places_in shape b p) (LiesInBlock (plane_block shape b p)) (all_fit shape b p fits) k d low)))

pub inter_is : (by : Rebuilding) (tile_from : ℕ) (b : BlockInfo) (modes : InterPrediction) (p : Plane) (a : Area) (cb : PlaneBlock) (ats : List TransformPlace)
    (residue : ℕ → ℕ → Residue) (old predicted new : Map) → tx_number b.tx ≤ greatest_of b.size → HoldsBlock by.shape p tile_from b a → cb ≡ plane_block by.shape b p → ats ≡ places_in by.shape b p
    → predicted ≡ put_prediction by b modes p old
    → new ≡ fold (add_more a by.shape.depth cb) predicted (residues_at (residue (area cb.tx)) ats)
    → new ≡ put_inter by b modes p (residues_at (residue (area (tx_in by.shape b p))) (places_in by.shape b p)) old
unfolding put_inter
inter_is by tile_from b modes p a cb ats residue old predicted new fits holds is places first put =
    put
    ∙ ((λ i. fold (add_more a by.shape.depth (is i)) (first i) (residues_at (residue (area (is i).tx)) (places i)))
    ∙ fold_same (add_more a by.shape.depth (plane_block by.shape b p)) (add_next by.shape b p) (residues_at (residue (area (tx_in by.shape b p))) (places_in by.shape b p)) (put_prediction by b modes p old)
    (λ k d low. λ m. let x = slice_index_or (residues_at (residue (area (tx_in by.shape b p))) (places_in by.shape b p)) k d in same_add by.shape tile_from b p a x.0 x.1 m holds
    (taken_at_places (residue (area (tx_in by.shape b p))) (places_in by.shape b p) (LiesInBlock (plane_block by.shape b p)) (all_fit by.shape b p fits) k d low)))

---- Parts ----

-- what is predicted of a part lies in the area
pub record PartFits (a : Area) (at : places.Place) : Type 0 where
  pub top : a.first_row ≤ at.row
  pub low : at.rows ≤ lower_end a - at.row
  pub below : at.row ≤ lower_end a
  pub begin : a.first_column ≤ at.column
  pub narrow : at.columns ≤ right_end a - at.column
  pub right : at.column ≤ right_end a

part_lies : (shape reference : Shape) (b : BlockInfo) (modes : InterPrediction) (p : Plane) (n list : ℕ) (a : Area) → n < parts_of shape b.size p → HoldsBlock shape p b.col b a
    → 0 < (place_of shape b modes (part_of p n list) reference).rows → 0 < (place_of shape b modes (part_of p n list) reference).columns
    → PartFits a (place_of shape b modes (part_of p n list) reference)
unfolding place_of
part_lies shape reference b modes p n list a low holds some_rows some_columns =
    let ss_y = is_subsampled shape p Down in
    let ss_x = is_subsampled shape p Across in
    let down = part_down ss_y ss_x (is_below_8x8 b.size) n (height_8 b.size) (omega arith) low in
    let across = part_across ss_y ss_x (is_below_8x8 b.size) n (width_8 b.size) (omega arith) low in
    let high = at_eights ss_y b.row (height_8 b.size) in
    let wide = at_eights ss_x b.col (width_8 b.size) in
    record {
      top = omega (arith, holds.top);
      low = omega (arith, down, high, holds.bottom, some_rows);
      below = omega (arith, down, high, holds.bottom, some_rows);
      begin = omega (arith, holds.left);
      narrow = omega (arith, across, wide, holds.right, some_columns);
      right = omega (arith, across, wide, holds.right, some_columns);
    }

part_fits : (shape reference : Shape) (b : BlockInfo) (modes : InterPrediction) (p : Plane) (n list : ℕ) (a : Area) (at : places.Place) → n < parts_of shape b.size p → HoldsBlock shape p b.col b a
    → at ≡ place_of shape b modes (part_of p n list) reference → IsPlace at → PartFits a at
part_fits shape reference b modes p n list a at low holds is fits =
    subst (λ (z : places.Place). PartFits a z) (sym is) (part_lies shape reference b modes p n list a low holds
    (subst (λ (z : places.Place). 0 < z.rows) is fits.some_rows) (subst (λ (z : places.Place). 0 < z.columns) is fits.some_columns))

pub starts_in : (shape reference : Shape) (b : BlockInfo) (modes : InterPrediction) (p : Plane) (n list : ℕ) (a : Area) (at : places.Place) → n < parts_of shape b.size p → HoldsBlock shape p b.col b a
    → at ≡ place_of shape b modes (part_of p n list) reference → IsPlace at → StartsIn a at.row at.column
starts_in shape reference b modes p n list a at low holds is fits =
    let lie = part_fits shape reference b modes p n list a at low holds is fits in
    record { above = lie.top; below = lie.below; left = lie.begin; right = lie.right }

pub part_put : (by : Rebuilding) (reference : Shape) (b : BlockInfo) (modes : InterPrediction) (p : Plane) (n : ℕ) (a : Area) (m : Map) (at : places.Place) (block : List ℕ)
    → n < parts_of by.shape b.size p → HoldsBlock by.shape p b.col b a
    → at ≡ place_of by.shape b modes (part_of p n 0) reference → IsPlace at → HoldsRows block at.columns at.rows (predicted_part by b modes p n)
    → with_part a m at.row at.column at.rows at.columns (rows_of at.columns block) ≡ put_part by b modes p m n
part_put by reference b modes p n a m at block low holds is fits rows =
    let lie = part_fits by.shape reference b modes p n 0 a at low holds is fits in
    whole_part a m at.row at.column at.rows at.columns block (predicted_part by b modes p n) lie.low lie.narrow rows
    ∙ place_put by reference b modes p n m at is

-- a part put in its place
pub lies_in : (shape reference : Shape) (b : BlockInfo) (modes : InterPrediction) (p : Plane) (n list : ℕ) (a : Area) (at : places.Place) → n < parts_of shape b.size p → HoldsBlock shape p b.col b a
    → at ≡ place_of shape b modes (part_of p n list) reference → IsPlace at → LiesInArea a at
lies_in shape reference b modes p n list a at low holds is fits =
    let lie = part_fits shape reference b modes p n list a at low holds is fits in
    record {
      start = record { above = lie.top; below = lie.below; left = lie.begin; right = lie.right };
      below = omega (arith, lie.low, lie.below);
      right = omega (arith, lie.narrow, lie.right);
    }

pub part_in_place : (by : Rebuilding) (reference : Shape) (b : BlockInfo) (modes : InterPrediction) (p : Plane) (n : ℕ) (a : Area) (m : Map) (at : places.Place) (f : Map)
    → n < parts_of by.shape b.size p → HoldsBlock by.shape p b.col b a
    → at ≡ place_of by.shape b modes (part_of p n 0) reference → IsPlace at → f ≡ predicted_part by b modes p n
    → with_place a m at f ≡ put_part by b modes p m n
part_in_place by reference b modes p n a m at f low holds is fits same =
    let lie = part_fits by.shape reference b modes p n 0 a at low holds is fits in
    let high : min at.rows (lower_end a - at.row) ≡ at.rows = omega (arith, lie.low) in
    let wide : min at.columns (right_end a - at.column) ≡ at.columns = omega (arith, lie.narrow) in
    rw (high, wide, same) (place_put by reference b modes p n m at is)

---- Whole planes ----

-- a whole plane holds each block that starts in it
pub whole_holds : (shape : Shape) (p : Plane) (tile_from : ℕ) (b : BlockInfo) (a : Area) → a ≡ coded_area shape p → HoldsBlock shape p tile_from b a
whole_holds shape p tile_from b a is = rw is (record {
  top = omega arith;
  above = λ some. some;
  left = omega arith;
  bottom = omega arith;
  right = omega arith;
  low = omega arith;
  narrow = omega arith;
})

-- an inter block needs nothing left of it
pub holds_own : (shape : Shape) (p : Plane) (tile_from : ℕ) (b : BlockInfo) (a : Area) → tile_from ≤ b.col → HoldsBlock shape p tile_from b a → HoldsBlock shape p b.col b a
holds_own shape p tile_from b a tile holds =
    let before = rises (is_subsampled shape p Across) tile_from b.col tile in
    record {
      top = holds.top;
      above = holds.above;
      left = omega (arith, holds.left, before);
      bottom = holds.bottom;
      right = holds.right;
      low = holds.low;
      narrow = holds.narrow;
    }

---- All planes ----

pub intra_all : (by : Rebuilding) (b : PlannedBlock) (prediction : Prediction) (modes : IntraPrediction) (m : FrameMap) (y u v : Map) → prediction ≡ Intra modes
    → y ≡ put_intra by.shape b.tile_from b.info modes Y b.y (m Y) → u ≡ put_intra by.shape b.tile_from b.info modes U b.u (m U) → v ≡ put_intra by.shape b.tile_from b.info modes V b.v (m V)
    → frame_map y u v ≡ put_by by b prediction m
unfolding put_by
intra_all by b prediction modes m y u v is one two three =
    (λ i. frame_map (one i) (two i) (three i)) ∙ sym (ap (λ (z : Prediction). put_by by b z m) is)

pub inter_all : (by : Rebuilding) (b : PlannedBlock) (prediction : Prediction) (modes : InterPrediction) (m : FrameMap) (y u v : Map) → prediction ≡ Inter modes
    → y ≡ put_inter by b.info modes Y b.y (m Y) → u ≡ put_inter by b.info modes U b.u (m U) → v ≡ put_inter by b.info modes V b.v (m V)
    → frame_map y u v ≡ put_by by b prediction m
unfolding put_by
inter_all by b prediction modes m y u v is one two three =
    (λ i. frame_map (one i) (two i) (three i)) ∙ sym (ap (λ (z : Prediction). put_by by b z m) is)
