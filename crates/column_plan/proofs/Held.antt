-- What is kept of a block stands for its residues.
use Rattle.std.proofs.Common.{◌≡◌, ◌∙◌, ◌++◌, ◌∷◌, [], ℕ, ℤ, suc, ◌+◌, ◌-◌, ◌*◌, ◌<◌, ◌≤◌, Bool, true, false, List, length, map, refl, sym, ap, subst, arith, append_assoc}
use Rattle.std.specs.Prelude.{get_or, take, drop, if◌then◌else◌, OnOk, Result, Ok, Err}
use Rattle.std.specs.List.{range_with_len}
use Rattle.std.proofs.Math.Nat.{mul-le-mul, mul-le-mul_right}
use Rattle.std.proofs.Math.Seq.{drop-append_seam}
use Rattle.std.proofs.lemmas.List.{append-nil, drop-append-le, drop-drop, length-append, length-drop, length-take-le}
use Rattle.std.proofs.lemmas.List.FromFn.{get_or-map-range_with_len, length-map-range_with_len, map-range_with_len_more}
use Rattle.vp9_types.specs.declared.block.TxSize.{TxSize}
use Rattle.vp9_types.specs.declared.block.TxSize.TheVariants.{T4x4, T8x8, T16x16, T32x32}
use Rattle.vp9_types.specs.declared.shape.Plane.{Plane}
use Rattle.vp9_types.specs.declared.shape.Plane.TheVariants.{Y, U, V}
use Rattle.vp9_types.specs.declared.shape.Shape.{Shape}
use Rattle.vp9_tables.specs.Scans.{area}
use Rattle.block_geometry.specs.TransformBlocks.{tx_step, place_at}
use Rattle.block_geometry.specs.declared.transform_blocks.TransformPlace.{TransformPlace}
use Rattle.block_plan.specs.Code.{held_at, held_in, planned_with, residue_if, residues_held}
use Rattle.block_plan.specs.InPlanes.{places_in, tx_in}
use Rattle.block_plan.specs.Planned.{PlannedBlock, Residue}
use Rattle.block_plan.specs.declared.block.BlockInfo.{BlockInfo}
use Rattle.block_plan.specs.declared.residues.BlockResidues.{BlockResidues}
use Rattle.block_plan.specs.declared.residues.PlaneResidues.{PlaneResidues}
use Rattle.column_plan.specs.Code.{AreWhole, IsWhole, piece_held, pieces_held, plane_pieces, block_pieces}
use Rattle.column_plan.specs.PlannedBlocks.{residue_of_piece, residues_from, count_in, count_of, planned_from, planned_blocks, total}

---- Room ----

steps_area : (tx : TxSize) → area tx ≡ 16 * (tx_step tx * tx_step tx)
steps_area T4x4 = refl
steps_area T8x8 = refl
steps_area T16x16 = refl
steps_area T32x32 = refl

pub all_fit : (tx : TxSize) (step rows columns : ℕ) → step ≡ tx_step tx → step * rows ≤ 16 → step * columns ≤ 16 → rows * columns * area tx ≤ 4096
all_fit tx step rows columns is high wide =
    let product : step * rows * (step * columns) ≤ 16 * 16 = mul-le-mul high wide in
    let times : 16 * (step * rows * (step * columns)) ≡ rows * columns * (16 * (step * step)) = grind arith in
    rw (steps_area tx, sym is) (omega (arith, product, times))

pub room_for : (k n area long : ℕ) → k < n → n * area ≤ long → k * area + area ≤ long
room_for k n area long low fits =
    let whole : (k + 1) * area ≤ n * area = mul-le-mul_right area next in
    let rest : (k + 1) * area ≡ k * area + area = grind arith in
    omega (arith, whole, rest)
  where
    next : k + 1 ≤ n
    next = omega arith

some_area : (tx : TxSize) → 0 < area tx
some_area T4x4 = omega arith
some_area T8x8 = omega arith
some_area T16x16 = omega arith
some_area T32x32 = omega arith

---- Pieces ----

pub none_held : (xs : List (List ℤ)) (area : ℕ) (some : List Bool) (values : List ℤ) → xs ≡ xs ++ pieces_held area some values 0
unfolding pieces_held
none_held xs area some values = sym (append-nil xs)

pub held_more : (xs now : List (List ℤ)) (area : ℕ) (some : List Bool) (values : List ℤ) (k : ℕ) (piece : List ℤ) → now ≡ xs ++ pieces_held area some values k → piece ≡ piece_held area some values k
    → now ++ piece ∷ [] ≡ xs ++ pieces_held area some values (k + 1)
unfolding pieces_held
held_more xs now area some values k piece so is =
    ap (λ ys. ys ++ piece ∷ []) so
    ∙ (append_assoc xs (map (piece_held area some values) (range_with_len 0 k)) (piece ∷ [])
    ∙ ap (λ ys. xs ++ ys) (ap (λ p. map (piece_held area some values) (range_with_len 0 k) ++ p ∷ []) is ∙ sym (map-range_with_len_more (piece_held area some values) 0 k k first)))
  where
    first : 0 + k ≡ k
    first = omega arith

some_piece : (values : List ℤ) → 0 < length values → residue_of_piece values ≡ residue_if true values
some_piece [] some = absurd (omega arith)
some_piece (x ∷ xs) some = refl

piece_stands : (area : ℕ) (some : Bool) (values : List ℤ) → 0 < area → length values ≡ area → residue_of_piece (if some then values else []) ≡ residue_if some values
piece_stands area true values more long = some_piece values (omega (arith, more, long))
piece_stands area false values more long = refl

one_stands : (area : ℕ) (some : List Bool) (values : List ℤ) (k : ℕ) → 0 < area → k * area + area ≤ length values
    → residue_of_piece (piece_held area some values k) ≡ residue_if (get_or some k false) (take area (drop (k * area) values))
one_stands area some values k more room =
    let left : area ≤ length (drop (k * area) values) = rw length-drop (omega (arith, room)) in
    piece_stands area (get_or some k false) (take area (drop (k * area) values)) more (length-take-le area (drop (k * area) values) left)

-- the k-th of all places, from the a-th on
abbrev AreFrom : List TransformPlace → ℕ → List TransformPlace → Type 0
AreFrom all a places = (m : ℕ) → m < length places → get_or places m (place_at 0 0) ≡ get_or all (a + m) (place_at 0 0)

all_stand : (all places : List TransformPlace) (a area : ℕ) (some : List Bool) (values : List ℤ) (behind : List (List ℤ)) → AreFrom all a places → 0 < area → (a + length places) * area ≤ length values
    → residues_from places (map (piece_held area some values) (range_with_len a (length places)) ++ behind) ≡ map (held_at all area some values) (range_with_len a (length places))
unfolding residues_from
all_stand all [] a area some values behind from more fits = refl
all_stand all (at ∷ places) a area some values behind from more fits =
    let here : a + 0 ≡ a = omega arith in
    let room = room_for a (a + suc (length places)) area (length values) (omega arith) fits in
    let next : a + suc (length places) ≡ a + 1 + length places = omega arith in
    λ i. ((rw here at (from 0 (omega arith))) i, one_stands area some values a more room i)
    ∷ all_stand all places (a + 1) area some values behind (λ m low. let place : a + suc m ≡ a + 1 + m = omega arith in rw place at (from (suc m) (omega (arith, low)))) more (rw next at fits) i

pub plane_stands : (shape : Shape) (b : BlockInfo) (p : Plane) (r : PlaneResidues) (behind : List (List ℤ)) → count_in shape b p * area (tx_in shape b p) ≤ length r.values
    → residues_from (places_in shape b p) (plane_pieces shape b p r ++ behind) ≡ held_in shape b p r
unfolding pieces_held residues_held
plane_stands shape b p r behind fits =
    all_stand (places_in shape b p) (places_in shape b p) 0 (area (tx_in shape b p)) r.some r.values behind (λ m low. let here : m ≡ 0 + m = omega arith in ap (λ k. get_or (places_in shape b p) k (place_at 0 0)) here)
    (some_area (tx_in shape b p)) (let here : 0 + length (places_in shape b p) ≡ length (places_in shape b p) = omega arith in rw here fits)

plane_long : (shape : Shape) (b : BlockInfo) (p : Plane) (r : PlaneResidues) → length (plane_pieces shape b p r) ≡ count_in shape b p
unfolding pieces_held
plane_long shape b p r = length-map-range_with_len (piece_held (area (tx_in shape b p)) r.some r.values) 0 (length (places_in shape b p))

drop_plane : (shape : Shape) (b : BlockInfo) (p : Plane) (r : PlaneResidues) (behind : List (List ℤ)) → drop (count_in shape b p) (plane_pieces shape b p r ++ behind) ≡ behind
drop_plane shape b p r behind = ap (λ n. drop n (plane_pieces shape b p r ++ behind)) (sym (plane_long shape b p r)) ∙ drop-append_seam (plane_pieces shape b p r) behind

-- what stands for the residues of a plane, whatever is behind it
abbrev pub Stands : Shape → BlockInfo → Plane → PlaneResidues → Type 0
Stands shape b p r = (behind : List (List ℤ)) → residues_from (places_in shape b p) (plane_pieces shape b p r ++ behind) ≡ held_in shape b p r

pub block_stands : (shape : Shape) (tile_from : ℕ) (b : BlockInfo) (r : BlockResidues) (behind : List (List ℤ)) → Stands shape b Y r.y → Stands shape b U r.u → Stands shape b V r.v
    → planned_from shape tile_from b (block_pieces shape b r ++ behind) ≡ planned_with shape tile_from b b r
block_stands shape tile_from b r behind y u v =
    let us = plane_pieces shape b U r.u in
    let vs = plane_pieces shape b V r.v in
    let whole : block_pieces shape b r ++ behind ≡ plane_pieces shape b Y r.y ++ (us ++ (vs ++ behind)) =
    append_assoc (plane_pieces shape b Y r.y ++ us) vs behind ∙ append_assoc (plane_pieces shape b Y r.y) us (vs ++ behind) in
    let after_y : drop (count_in shape b Y) (block_pieces shape b r ++ behind) ≡ us ++ (vs ++ behind) = ap (drop (count_in shape b Y)) whole ∙ drop_plane shape b Y r.y (us ++ (vs ++ behind)) in
    let after_u : drop (count_in shape b U) (drop (count_in shape b Y) (block_pieces shape b r ++ behind)) ≡ vs ++ behind = ap (drop (count_in shape b U)) after_y ∙ drop_plane shape b U r.u (vs ++ behind) in
    λ i. record {
      info = b;
      tile_from = tile_from;
      y = (ap (residues_from (places_in shape b Y)) whole ∙ y (us ++ (vs ++ behind))) i;
      u = (ap (residues_from (places_in shape b U)) after_y ∙ u (vs ++ behind)) i;
      v = (ap (residues_from (places_in shape b V)) after_u ∙ v behind) i;
    }

---- Whole residues ----

piece_whole : (area : ℕ) (some : Bool) (values : List ℤ) → length values ≡ area → IsWhole area (residue_if some values)
piece_whole area true values long = long
piece_whole area false values long = tt

pub plane_whole : (shape : Shape) (b : BlockInfo) (p : Plane) (r : PlaneResidues) → count_in shape b p * area (tx_in shape b p) ≤ length r.values → AreWhole (area (tx_in shape b p)) (held_in shape b p r)
unfolding residues_held
plane_whole shape b p r fits k d low =
    let places = places_in shape b p in
    let n = area (tx_in shape b p) in
    let here : k < length places = rw (length-map-range_with_len (held_at places n r.some r.values) 0 (length places)) at low in
    let start : 0 + k ≡ k = omega arith in
    let room = room_for k (length places) n (length r.values) here fits in
    let left : n ≤ length (drop (k * n) r.values) = rw length-drop (omega (arith, room)) in
    subst (λ (x : TransformPlace × Residue). IsWhole n x.1) (sym (get_or-map-range_with_len (held_at places n r.some r.values) 0 (length places) k k d here start))
    (piece_whole n (get_or r.some k false) (take n (drop (k * n) r.values)) (length-take-le n (drop (k * n) r.values) left))

---- Blocks one behind another ----

behind_none : (places : List TransformPlace) (pieces more : List (List ℤ)) → length places ≤ length pieces → residues_from places (pieces ++ more) ≡ residues_from places pieces
unfolding residues_from
behind_none [] pieces more few = refl
behind_none (at ∷ places) [] more few = absurd (omega arith)
behind_none (at ∷ places) (piece ∷ pieces) more few = ap (λ rs. (at, residue_of_piece piece) ∷ rs) (behind_none places pieces more (omega arith))

drop_more : (n : ℕ) (pieces more : List (List ℤ)) → n ≤ length pieces → drop n (pieces ++ more) ≡ drop n pieces ++ more
drop_more n pieces more few = drop-append-le n pieces more few

block_behind : (shape : Shape) (tile_from : ℕ) (b : BlockInfo) (pieces more : List (List ℤ)) → count_of shape b ≤ length pieces → planned_from shape tile_from b (pieces ++ more) ≡ planned_from shape tile_from b pieces
block_behind shape tile_from b pieces more few =
    let ny = count_in shape b Y in
    let nu = count_in shape b U in
    let first = drop_more ny pieces more (omega (arith, few)) in
    let long : length (drop ny pieces) ≡ length pieces - ny = length-drop ny pieces in
    let second : drop nu (drop ny (pieces ++ more)) ≡ drop nu (drop ny pieces) ++ more = ap (drop nu) first ∙ drop_more nu (drop ny pieces) more (omega (arith, few, long)) in
    let long_second : length (drop nu (drop ny pieces)) ≡ length (drop ny pieces) - nu = length-drop nu (drop ny pieces) in
    λ i. record {
      info = b;
      tile_from = tile_from;
      y = behind_none (places_in shape b Y) pieces more (omega (arith, few)) i;
      u = (ap (residues_from (places_in shape b U)) first ∙ behind_none (places_in shape b U) (drop ny pieces) more (omega (arith, few, long))) i;
      v = (ap (residues_from (places_in shape b V)) second ∙ behind_none (places_in shape b V) (drop nu (drop ny pieces)) more (omega (arith, few, long, long_second))) i;
    }

empty_by : (pieces : List (List ℤ)) → 0 ≡ length pieces → [] ≡ pieces
empty_by [] none = refl
empty_by (x ∷ xs) none = absurd (omega arith)

pub one_more_planned : (shape : Shape) (tile_from : ℕ) (blocks : List BlockInfo) (b : BlockInfo) (pieces more : List (List ℤ)) → total shape blocks ≡ length pieces
    → planned_blocks shape tile_from (blocks ++ b ∷ []) (pieces ++ more) ≡ planned_blocks shape tile_from blocks pieces ++ planned_from shape tile_from b more ∷ []
unfolding planned_blocks
one_more_planned shape tile_from [] b pieces more all = ap (λ ps. planned_from shape tile_from b (ps ++ more) ∷ []) (sym (empty_by pieces all))
one_more_planned shape tile_from (x ∷ blocks) b pieces more all =
    let n = count_of shape x in
    let long : length (drop n pieces) ≡ length pieces - n = length-drop n pieces in
    λ i. block_behind shape tile_from x pieces more (omega (arith, all)) i
    ∷ (ap (planned_blocks shape tile_from (blocks ++ b ∷ [])) (drop_more n pieces more (omega (arith, all)))
    ∙ one_more_planned shape tile_from blocks b (drop n pieces) more (omega (arith, all, long))) i

-- counted as the code counts them
pub pushed_as : (shape : Shape) (b : BlockInfo) (p : Plane) (r : PlaneResidues) (old : List (List ℤ)) (count size : ℕ) → count ≡ count_in shape b p → size ≡ area (tx_in shape b p)
    → old ++ pieces_held size r.some r.values count ≡ old ++ plane_pieces shape b p r
pushed_as shape b p r old count size many long = λ i. old ++ pieces_held (long i) r.some r.values (many i)

pub block_pushed : {A E : Type 0} (result : Result A E) (s shape : Shape) (b : BlockInfo) (r : BlockResidues) (old one two new : List (List ℤ)) (luma luma_area chroma chroma_area : ℕ) → s ≡ shape
    → luma ≡ count_in s b Y → luma_area ≡ area (tx_in s b Y) → chroma ≡ count_in s b U → chroma_area ≡ area (tx_in s b U)
    → one ≡ old ++ pieces_held luma_area r.y.some r.y.values luma → two ≡ one ++ pieces_held chroma_area r.u.some r.u.values chroma
    → OnOk result (new ≡ two ++ pieces_held chroma_area r.v.some r.v.values chroma) → OnOk result (new ≡ old ++ block_pieces shape b r)
block_pushed (Ok a) s shape b r old one two new luma luma_area chroma chroma_area is many long few short first second third =
    let y = plane_pieces s b Y r.y in
    let u = plane_pieces s b U r.u in
    let v = plane_pieces s b V r.v in
    let after_y : one ≡ old ++ y = first ∙ pushed_as s b Y r.y old luma luma_area many long in
    let after_u : two ≡ old ++ (y ++ u) = second ∙ pushed_as s b U r.u one chroma chroma_area few short ∙ ap (λ xs. xs ++ u) after_y ∙ append_assoc old y u in
    third ∙ pushed_as s b V r.v two chroma chroma_area few short ∙ ap (λ xs. xs ++ v) after_u ∙ append_assoc old (y ++ u) v ∙ ap (λ (t : Shape). old ++ block_pieces t b r) is
block_pushed (Err e) s shape b r old one two new luma luma_area chroma chroma_area is many long few short first second third = tt

-- what is counted so fits
pub counted_fits : (s : Shape) (b : BlockInfo) (p : Plane) (count size long : ℕ) → count ≡ count_in s b p → size ≡ area (tx_in s b p) → count * size ≤ 4096 → long ≡ 4096
    → count_in s b p * area (tx_in s b p) ≤ long
counted_fits s b p count size long many wide room is = rw (is, sym many, sym wide) room

abbrev pub BlockStands : Shape → BlockInfo → BlockResidues → Type 0
BlockStands shape b r = (tile_from : ℕ) (behind : List (List ℤ)) → planned_from shape tile_from b (block_pieces shape b r ++ behind) ≡ planned_with shape tile_from b b r

pub stands_where : {A E X : Type 0} (result : Result A E) → X → OnOk result X
stands_where (Ok a) x = x
stands_where (Err e) x = tt

---- Laws ----

pub infos_are : (shape : Shape) (tile_from : ℕ) (blocks : List BlockInfo) (pieces : List (List ℤ)) → map (λ (b : PlannedBlock). b.info) (planned_blocks shape tile_from blocks pieces) ≡ blocks
unfolding planned_blocks
infos_are shape tile_from [] pieces = refl
infos_are shape tile_from (b ∷ blocks) pieces = ap (λ bs. b ∷ bs) (infos_are shape tile_from blocks (drop (count_of shape b) pieces))

pub parts_are : (shape : Shape) (tile_from : ℕ) (blocks more : List BlockInfo) (pieces : List (List ℤ))
    → planned_blocks shape tile_from (blocks ++ more) pieces ≡ planned_blocks shape tile_from blocks pieces ++ planned_blocks shape tile_from more (drop (total shape blocks) pieces)
unfolding planned_blocks
parts_are shape tile_from [] more pieces = refl
parts_are shape tile_from (b ∷ blocks) more pieces =
    ap (λ bs. planned_from shape tile_from b pieces ∷ bs) (parts_are shape tile_from blocks more (drop (count_of shape b) pieces)
    ∙ ap (λ ps. planned_blocks shape tile_from blocks (drop (count_of shape b) pieces) ++ planned_blocks shape tile_from more ps) (drop-drop (total shape blocks) (count_of shape b) pieces))

total_more : (shape : Shape) (blocks : List BlockInfo) (b : BlockInfo) → total shape (blocks ++ b ∷ []) ≡ total shape blocks + count_of shape b
total_more shape [] b = last (count_of shape b)
  where
    last : (n : ℕ) → n + 0 ≡ 0 + n
    last n = omega arith
total_more shape (x ∷ blocks) b = ap (λ n. count_of shape x + n) (total_more shape blocks b) ∙ sum (count_of shape x) (total shape blocks) (count_of shape b)
  where
    sum : (a b c : ℕ) → a + (b + c) ≡ a + b + c
    sum a b c = omega arith

block_long : (shape : Shape) (b : BlockInfo) (r : BlockResidues) → length (block_pieces shape b r) ≡ count_of shape b
block_long shape b r =
    length-append (plane_pieces shape b Y r.y ++ plane_pieces shape b U r.u) (plane_pieces shape b V r.v)
    ∙ (λ i. (length-append (plane_pieces shape b Y r.y) (plane_pieces shape b U r.u) ∙ (λ j. plane_long shape b Y r.y j + plane_long shape b U r.u j)) i + plane_long shape b V r.v i)

pub all_are : (shape : Shape) (blocks : List BlockInfo) (b : BlockInfo) (r : BlockResidues) (pieces : List (List ℤ)) → total shape blocks ≡ length pieces
    → total shape (blocks ++ b ∷ []) ≡ length (pieces ++ block_pieces shape b r)
all_are shape blocks b r pieces all =
    total_more shape blocks b ∙ ((λ i. all i + sym (block_long shape b r) i) ∙ sym (length-append pieces (block_pieces shape b r)))
