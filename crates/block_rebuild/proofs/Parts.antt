-- Parts of inter blocks: predicted, and put in one after another.
use Rattle.std.proofs.Common.{◌≡◌, ◌<◌, ◌≤◌, ◌+◌, ◌*◌, ◌-◌, ◌++◌, ◌∷◌, [], ℕ, ◌∙◌, refl, sym, ap, arith, subst, Bool, true, false, List, min, map-id}
use Rattle.std.proofs.Math.Nat.{mul-le-mul_right}
use Rattle.std.specs.Prelude.{Option, Some, None, IfSome, slice_index}
use Rattle.std.specs.List.{fold, range_with_len}
use Rattle.std.proofs.lemmas.List.FromFn.{map-range_with_len_more}
use Rattle.std.proofs.lemmas.List.Sums.{fold-append}
use Rattle.std.proofs.lemmas.Option.{same_Some}
use Rattle.vp9_types.specs.Maps.{Map, FrameMap, HoldsRows, IsAtMost, rows_of, with_block}
use Rattle.vp9_types.specs.Shapes.{plane_width, plane_height, subsampled_size}
use Rattle.vp9_types.specs.Sizes.{greatest}
use Rattle.vp9_types.specs.declared.block.ReferenceFrame.{ReferenceFrame}
use Rattle.vp9_types.specs.declared.shape.Plane.{Plane}
use Rattle.vp9_types.specs.declared.shape.Plane.TheVariants.{Y, U, V}
use Rattle.vp9_types.specs.declared.shape.Shape.{Shape}
use Rattle.block_plan.specs.declared.block.BlockInfo.{BlockInfo}
use Rattle.block_plan.specs.declared.block.InterPrediction.{InterPrediction}
use Rattle.block_plan.specs.declared.block.Prediction.{Prediction}
use Rattle.block_plan.specs.declared.block.Prediction.TheVariants.{Intra, Inter}
use Rattle.inter_places.specs.Axes.{IsPlace, first_place, last_place}
use Rattle.inter_places.specs.Places.{IsReference, place_of}
use Rattle.inter_places.specs.declared.axis.Place.{Place}
use Rattle.inter_places.specs.declared.part.BlockPart.{BlockPart}
use Rattle.inter_predict.specs.InterSamples.{average, both}
use Rattle.inter_predict.proofs.Agree.{place_below, predicted_small}
use Rattle.inter_predict.proofs.Blocks.{place_below as entry_below}
use Rattle.planes.specs.Planes.{lower_end, right_end, with_part}
use Rattle.planes.specs.declared.area.Area.{Area}
use Rattle.planes.proofs.PlaneLemmas.{with_block_small}
use Rattle.planes.proofs.RowLemmas.{with_block_same, place}
use Rattle.block_rebuild.specs.InterBlocks.{Rebuilding, part_of, predicted_from, predicted_part, put_part, second_from, averaged_with}
use Rattle.block_rebuild.specs.Code.{AreTwoPlaces, HasReference, HasReferences, IsUsable, HoldsPart, Serves, IsServed, AreServed, reference_of}
use Rattle.block_rebuild.specs.declared.inter_in_plane.TwoPlaces.{TwoPlaces}
use Rattle.block_rebuild.specs.declared.references.ReferencePicture as code_picture
use Rattle.block_rebuild.specs.declared.references.Rebuilding as code

---- What is predicted from ----

pub usable_of : {S : Type 0} (holds : S → Plane → ℕ → Type 0) (width : S → Plane → ℕ) (map : S → FrameMap) (by : code.Rebuilding S) (reference : ReferenceFrame)
    (r : code_picture.ReferencePicture S) → reference_of by reference ≡ Some r → HasReference holds width map by reference → IsUsable holds width map by.shape r
usable_of holds width map by reference r found has = subst (λ x. IsUsable holds width map by.shape x) (same_Some has.0 r (sym has.1 ∙ found)) has.2

-- rows up to the last place are rows of the plane
pub row_held : (shape reference : Shape) (b : BlockInfo) (modes : InterPrediction) (part : BlockPart) (place : Place) (n y : ℕ)
    → place ≡ place_of shape b modes part reference → 0 < place.down.size → y ≤ last_place place.down n → y < plane_height reference place.plane
unfolding place_of
row_held shape reference b modes part place n y is some low =
    let below = place_below place.down (n - 1) 7 some in
    let size : place.down.size ≡ plane_height reference place.plane = (λ i. (is i).down.size) ∙ (λ i. plane_height reference (sym is i).plane) in
    rw (← size) (omega (arith, low, below))

pub across_size : (shape reference : Shape) (b : BlockInfo) (modes : InterPrediction) (part : BlockPart) (place : Place)
    → place ≡ place_of shape b modes part reference → place.across.size ≡ plane_width reference place.plane
unfolding place_of
across_size shape reference b modes part place is = (λ i. (is i).across.size) ∙ (λ i. plane_width reference (sym is i).plane)

pub served_of : {S : Type 0} (holds : S → Plane → ℕ → Type 0) (width : S → Plane → ℕ) (map : S → FrameMap) (by : code.Rebuilding S) (b : BlockInfo) (modes : InterPrediction) (list : ℕ)
    (reference : ReferenceFrame) (r : code_picture.ReferencePicture S) → reference_of by reference ≡ Some r → IsServed holds width map by b modes list reference
    → Serves holds width map by.shape b modes list r
served_of holds width map by b modes list reference r found has =
    subst (λ x. Serves holds width map by.shape b modes list x) (same_Some has.0 r (sym has.1 ∙ found)) has.2

pub part_held : {S : Type 0} (holds : S → Plane → ℕ → Type 0) (shape : Shape) (b : BlockInfo) (modes : InterPrediction) (part : BlockPart) (r : code_picture.ReferencePicture S) (at : Place) (y : ℕ)
    → at ≡ place_of shape b modes part r.shape → HoldsPart holds shape b modes part r → first_place at.down ≤ y → y ≤ last_place at.down at.rows → holds r.samples.now at.plane y
unfolding place_of
part_held holds shape b modes part r at y is held =
    subst (λ (z : Place). first_place z.down ≤ y → y ≤ last_place z.down z.rows → holds r.samples.now z.plane y) (sym is) (λ low high. held y low high)

halved_some : (n : ℕ) (ss : Bool) → 0 < n → 0 < subsampled_size n ss
halved_some n true some = omega (arith, some)
halved_some n false some = some

-- a reference in range has a row
some_length : (shape reference : Shape) (p : Plane) → IsReference shape reference → 0 < plane_height reference p
some_length shape reference Y is = omega (arith, is.down.some, is.down.small)
some_length shape reference U is = let some : 0 < reference.h = omega (arith, is.down.some, is.down.small) in halved_some reference.h reference.ss_y some
some_length shape reference V is = let some : 0 < reference.h = omega (arith, is.down.some, is.down.small) in halved_some reference.h reference.ss_y some

some_size : (shape reference : Shape) (b : BlockInfo) (modes : InterPrediction) (p : Plane) (n list : ℕ) → IsReference shape reference
    → 0 < (place_of shape b modes (part_of p n list) reference).down.size
unfolding place_of
some_size shape reference b modes p n list is = some_length shape reference p is

-- a whole picture serves each block
pub whole_serves : {S : Type 0} (holds : S → Plane → ℕ → Type 0) (width : S → Plane → ℕ) (map : S → FrameMap) (shape : Shape) (b : BlockInfo) (modes : InterPrediction) (list : ℕ)
    (r : code_picture.ReferencePicture S) → IsUsable holds width map shape r → Serves holds width map shape b modes list r
unfolding place_of
whole_serves holds width map shape b modes list r usable = record {
  reference = usable.reference;
  held = λ p n low y first last. usable.held p y (row_held shape r.shape b modes (part_of p n list) (place_of shape b modes (part_of p n list) r.shape) _ y refl
      (some_size shape r.shape b modes p n list usable.reference) last);
  wide = usable.wide;
  range = usable.range;
}

whole_is_served : {S : Type 0} (holds : S → Plane → ℕ → Type 0) (width : S → Plane → ℕ) (map : S → FrameMap) (by : code.Rebuilding S) (b : BlockInfo) (modes : InterPrediction) (list : ℕ)
    (reference : ReferenceFrame) → HasReference holds width map by reference → IsServed holds width map by b modes list reference
whole_is_served holds width map by b modes list reference has = (has.0, has.1, whole_serves holds width map by.shape b modes list has.0 has.2)

second_served : {S : Type 0} (holds : S → Plane → ℕ → Type 0) (width : S → Plane → ℕ) (map : S → FrameMap) (by : code.Rebuilding S) (b : BlockInfo) (modes : InterPrediction)
    (second : Option ReferenceFrame) → IfSome second (HasReference holds width map by) → IfSome second (IsServed holds width map by b modes 1)
second_served holds width map by b modes None has = has
second_served holds width map by b modes (Some reference) has = whole_is_served holds width map by b modes 1 reference has

-- so do whole pictures each prediction
pub whole_pictures_serve : {S : Type 0} (holds : S → Plane → ℕ → Type 0) (width : S → Plane → ℕ) (map : S → FrameMap) (by : code.Rebuilding S) (b : BlockInfo) (p : Prediction)
    → HasReferences holds width map by p → AreServed holds width map by b p
whole_pictures_serve holds width map by b (Intra modes) has = has
whole_pictures_serve holds width map by b (Inter modes) has =
    (whole_is_served holds width map by b modes 0 modes.references.first has.0, second_served holds width map by b modes modes.references.second has.1)

---- Two references ----

-- a block's room holds a part
pub place_room : (p : Place) (n : ℕ) → IsPlace p → 4096 ≤ n → p.rows * p.columns ≤ n
place_room p n is room = omega (arith, mul-le-mul_right p.columns is.low, is.narrow, room)

pub averaged : (rows columns : ℕ) (first second new : List ℕ) (f g : Map) → HoldsRows first columns rows f → HoldsRows second columns rows g
    → ((k : ℕ) → k < rows * columns → slice_index new k ≡ average (slice_index first k) (slice_index second k)) → HoldsRows new columns rows (both f g)
averaged rows columns first second new f g one two mean = λ i j low left.
    mean (i * columns + j) (entry_below columns rows i j low left) ∙ (λ k. average (one i j low left k) (two i j low left k))

-- a part has the same rows and columns by both lists
pub same_rows : (shape reference other : Shape) (b : BlockInfo) (modes : InterPrediction) (p : Plane) (n : ℕ)
    → (place_of shape b modes (part_of p n 1) other).rows ≡ (place_of shape b modes (part_of p n 0) reference).rows
unfolding place_of
same_rows shape reference other b modes p n = refl

pub same_columns : (shape reference other : Shape) (b : BlockInfo) (modes : InterPrediction) (p : Plane) (n : ℕ)
    → (place_of shape b modes (part_of p n 1) other).columns ≡ (place_of shape b modes (part_of p n 0) reference).columns
unfolding place_of
same_columns shape reference other b modes p n = refl

pub by_one : (by : Rebuilding) (b : BlockInfo) (modes : InterPrediction) (p : Plane) (n : ℕ) → modes.references.second ≡ None
    → predicted_from by.shape b modes (part_of p n 0) (by.references modes.references.first) ≡ predicted_part by b modes p n
unfolding predicted_part
by_one by b modes p n none = rw none refl

pub by_two : (by : Rebuilding) (b : BlockInfo) (modes : InterPrediction) (p : Plane) (n : ℕ) (second : ReferenceFrame) → modes.references.second ≡ Some second
    → both (predicted_from by.shape b modes (part_of p n 0) (by.references modes.references.first)) (predicted_from by.shape b modes (part_of p n 1) (by.references second))
    ≡ predicted_part by b modes p n
unfolding predicted_part
by_two by b modes p n second some = rw some refl

-- a part by two references
pub two_predicted : (by : Rebuilding) (b : BlockInfo) (modes : InterPrediction) (p : Plane) (n : ℕ) (second : ReferenceFrame) (r s : Shape) (at other : Place) (one two new : List ℕ)
    → modes.references.second ≡ Some second → at ≡ place_of by.shape b modes (part_of p n 0) r → other ≡ place_of by.shape b modes (part_of p n 1) s
    → HoldsRows one at.columns at.rows (predicted_from by.shape b modes (part_of p n 0) (by.references modes.references.first))
    → HoldsRows two other.columns other.rows (predicted_from by.shape b modes (part_of p n 1) (by.references second))
    → ((k : ℕ) → k < at.rows * at.columns → slice_index new k ≡ average (slice_index one k) (slice_index two k))
    → HoldsRows new at.columns at.rows (predicted_part by b modes p n)
two_predicted by b modes p n second r s at other one two new some is also holds more mean =
    let f : Map = predicted_from by.shape b modes (part_of p n 0) (by.references modes.references.first) in
    let g : Map = predicted_from by.shape b modes (part_of p n 1) (by.references second) in
    let rows : other.rows ≡ at.rows = (λ i. (also i).rows) ∙ (same_rows by.shape r s b modes p n ∙ (λ i. (sym is i).rows)) in
    let columns : other.columns ≡ at.columns = (λ i. (also i).columns) ∙ (same_columns by.shape r s b modes p n ∙ (λ i. (sym is i).columns)) in
    let lined : HoldsRows two at.columns other.rows g = subst (λ (k : ℕ). HoldsRows two k other.rows g) columns more in
    let held : HoldsRows two at.columns at.rows g = subst (λ (k : ℕ). HoldsRows two at.columns k g) rows lined in
    subst (λ (h : Map). HoldsRows new at.columns at.rows h) (by_two by b modes p n second some) (averaged at.rows at.columns one two new f g holds held mean)

pub one_predicted : (by : Rebuilding) (b : BlockInfo) (modes : InterPrediction) (p : Plane) (n : ℕ) (at : Place) (block : List ℕ) → modes.references.second ≡ None
    → HoldsRows block at.columns at.rows (predicted_from by.shape b modes (part_of p n 0) (by.references modes.references.first))
    → HoldsRows block at.columns at.rows (predicted_part by b modes p n)
one_predicted by b modes p n at block none holds = subst (λ (h : Map). HoldsRows block at.columns at.rows h) (by_one by b modes p n none) holds

---- Places in U and V ----

pub plane_is : (shape reference : Shape) (b : BlockInfo) (modes : InterPrediction) (part : BlockPart) (at : Place) → at ≡ place_of shape b modes part reference → at.plane ≡ part.plane
unfolding place_of
plane_is shape reference b modes part at is = λ i. (is i).plane

pub second_is_served : {S : Type 0} (holds : S → Plane → ℕ → Type 0) (width : S → Plane → ℕ) (map : S → FrameMap) (by : code.Rebuilding S) (b : BlockInfo) (modes : InterPrediction)
    (second : Option ReferenceFrame) (reference : ReferenceFrame) → IfSome second (IsServed holds width map by b modes 1) → second ≡ Some reference → IsServed holds width map by b modes 1 reference
second_is_served holds width map by b modes second reference served is = subst (λ (o : Option ReferenceFrame). IfSome o (IsServed holds width map by b modes 1)) is served

-- one place in V, by that in U
abbrev pub GoesToV : Place → Place → Type 0
GoesToV u v = (shape : Shape) (b : BlockInfo) (modes : InterPrediction) (n list : ℕ) (reference : Shape)
    → u ≡ place_of shape b modes (part_of U n list) reference → v ≡ place_of shape b modes (part_of V n list) reference

pub two_in_v : (by : Rebuilding) (b : BlockInfo) (modes : InterPrediction) (n : ℕ) (u v : TwoPlaces) → u.at.plane ≡ U → v.at.plane ≡ V → v.second ≡ u.second
    → GoesToV u.at v.at → GoesToV u.other v.other → (IsPlace u.at → IsPlace v.at) → (IsPlace u.other → IsPlace v.other)
    → AreTwoPlaces by b modes n u → AreTwoPlaces by b modes n v
two_in_v by b modes n u v in_u in_v same at other fits other_fits are =
    let one : u.at ≡ place_of by.shape b modes (part_of U n 0) (by.references modes.references.first).shape =
    are.at ∙ (λ i. place_of by.shape b modes (part_of (in_u i) n 0) (by.references modes.references.first).shape) in
    let two : u.other ≡ place_of by.shape b modes (part_of U n 1) (by.references u.second).shape =
    are.other ∙ (λ i. place_of by.shape b modes (part_of (in_u i) n 1) (by.references u.second).shape) in
    record {
      second = are.second ∙ ap Some (sym same);
      at = at by.shape b modes n 0 _ one ∙ (λ i. place_of by.shape b modes (part_of (sym in_v i) n 0) (by.references modes.references.first).shape);
      other = other by.shape b modes n 1 _ two ∙ (λ i. place_of by.shape b modes (part_of (sym in_v i) n 1) (by.references (sym same i)).shape);
      fits = fits are.fits;
      other_fits = other_fits are.other_fits;
    }

pub two_places : (by : Rebuilding) (b : BlockInfo) (modes : InterPrediction) (p : Plane) (n : ℕ) (second : ReferenceFrame) (at other : Place)
    → modes.references.second ≡ Some second → at.plane ≡ p → at ≡ place_of by.shape b modes (part_of p n 0) (by.references modes.references.first).shape
    → other ≡ place_of by.shape b modes (part_of p n 1) (by.references second).shape → IsPlace at → IsPlace other
    → AreTwoPlaces by b modes n (record { second = second; at = at; other = other })
two_places by b modes p n second at other some plane is also fits other_fits = record {
  second = some;
  at = is ∙ (λ i. place_of by.shape b modes (part_of (sym plane i) n 0) (by.references modes.references.first).shape);
  other = also ∙ (λ i. place_of by.shape b modes (part_of (sym plane i) n 1) (by.references second).shape);
  fits = fits;
  other_fits = other_fits;
}

---- A part in its plane ----

pub whole_part : (a : Area) (m : Map) (row column rows columns : ℕ) (block : List ℕ) (f : Map) → rows ≤ lower_end a - row → columns ≤ right_end a - column
    → HoldsRows block columns rows f → with_part a m row column rows columns (rows_of columns block) ≡ with_block m row column rows columns f
whole_part a m row column rows columns block f low narrow holds =
    let high : min rows (lower_end a - row) ≡ rows = omega (arith, low) in
    let wide : min columns (right_end a - column) ≡ columns = omega (arith, narrow) in
    rw (high, wide) (with_block_same m row column rows columns (rows_of columns block) f (λ i j below left. place columns block i j left ∙ holds i j below left))

pub place_put : (by : Rebuilding) (reference : Shape) (b : BlockInfo) (modes : InterPrediction) (p : Plane) (n : ℕ) (m : Map) (at : Place)
    → at ≡ place_of by.shape b modes (part_of p n 0) reference
    → with_block m at.row at.column at.rows at.columns (predicted_part by b modes p n) ≡ put_part by b modes p m n
unfolding place_of
place_put by reference b modes p n m at is = λ i. with_block m (is i).row (is i).column (is i).rows (is i).columns (predicted_part by b modes p n)

-- predicted samples are in the range of the depth
mean_small : (most a b : ℕ) → a ≤ most → b ≤ most → average a b ≤ most
mean_small most a b low also = omega (arith, low, also)

second_small : (by : Rebuilding) (b : BlockInfo) (modes : InterPrediction) (p : Plane) (n : ℕ) (second : Option ReferenceFrame)
    → IsAtMost (greatest by.shape.depth) (averaged_with (predicted_from by.shape b modes (part_of p n 0) (by.references modes.references.first)) (second_from by b modes p n second))
second_small by b modes p n None i j = predicted_small (greatest by.shape.depth) modes.filter _ _ _ i j
second_small by b modes p n (Some second) i j =
    mean_small (greatest by.shape.depth) _ _ (predicted_small (greatest by.shape.depth) modes.filter _ _ _ i j) (predicted_small (greatest by.shape.depth) modes.filter _ _ _ i j)

predicted_part_small : (by : Rebuilding) (b : BlockInfo) (modes : InterPrediction) (p : Plane) (n : ℕ) → IsAtMost (greatest by.shape.depth) (predicted_part by b modes p n)
unfolding predicted_part
predicted_part_small by b modes p n = second_small by b modes p n modes.references.second

pub part_small : (by : Rebuilding) (b : BlockInfo) (modes : InterPrediction) (p : Plane) (n : ℕ) (m new : Map) → IsAtMost (greatest by.shape.depth) m
    → new ≡ put_part by b modes p m n → IsAtMost (greatest by.shape.depth) new
part_small by b modes p n m new small is =
    rw is (with_block_small (greatest by.shape.depth) m _ _ _ _ (predicted_part by b modes p n) small (predicted_part_small by b modes p n))

---- One after another ----

one_more : (n : ℕ) → range_with_len 0 (n + 1) ≡ range_with_len 0 n ++ n ∷ []
one_more n = simp map-id at (map-range_with_len_more (λ (x : ℕ). x) 0 n n (omega arith))

pub one_part_more : (by : Rebuilding) (b : BlockInfo) (modes : InterPrediction) (p : Plane) (n : ℕ) (start m new : Map)
    → m ≡ fold (put_part by b modes p) start (range_with_len 0 n) → new ≡ put_part by b modes p m n → new ≡ fold (put_part by b modes p) start (range_with_len 0 (n + 1))
one_part_more by b modes p n start m new so is =
    is
    ∙ (ap (λ (z : Map). put_part by b modes p z n) so
    ∙ (sym (fold-append (put_part by b modes p) start (range_with_len 0 n) (n ∷ []))
    ∙ ap (fold (put_part by b modes p) start) (sym (one_more n))))
