-- The residues of a block among the pieces of its column.
use Rattle.std.proofs.Common.{◌≡◌, ◌<◌, ◌≤◌, ◌+◌, ◌∷◌, [], ℕ, zero, suc, ℤ, ◌∙◌, refl, sym, ap, arith, subst, List, length, get_or, drop}
use Rattle.std.proofs.lemmas.List.{same_lists, get_or-drop, drop-drop, length-drop}
use Rattle.std.specs.Prelude.{None, Some}
use Rattle.vp9_types.specs.declared.shape.Plane.{Plane}
use Rattle.vp9_types.specs.declared.shape.Plane.TheVariants.{Y, U, V}
use Rattle.vp9_tables.specs.Scans.{area}
use Rattle.vp9_types.specs.declared.shape.Shape.{Shape}
use Rattle.block_geometry.specs.TransformBlocks.{place_at}
use Rattle.block_geometry.specs.declared.transform_blocks.TransformPlace.{TransformPlace}
use Rattle.block_plan.specs.InPlanes.{places_in, tx_in}
use Rattle.block_plan.specs.Planned.{Residue}
use Rattle.block_plan.specs.declared.block.BlockInfo.{BlockInfo}
use Rattle.block_rebuild.specs.Residues.{IsWhole, residues_at, planned_by}
use Rattle.block_rebuild.proofs.Puts.{first_is, length_first}
use Rattle.column_plan.specs.PlannedBlocks.{residue_of_piece, residues_from, planned_from, count_in, count_of}
use Rattle.column_plan.specs.Code as plan
use Rattle.column_plan.specs.Code.{AreWhole, HoldsWhole}
use Rattle.recon_rows.specs.BlockParts.{first_in, has_piece, piece_residue}

length_from : (ats : List TransformPlace) (pieces : List (List ℤ)) → length ats ≤ length pieces → length (residues_from ats pieces) ≡ length ats
unfolding residues_from
length_from [] pieces fits = refl
length_from (at ∷ ats) [] fits = absurd (omega (arith, fits))
length_from (at ∷ ats) (x ∷ pieces) fits = ap (λ n. suc n) (length_from ats pieces (omega (arith, fits)))

from_is : (ats : List TransformPlace) (pieces : List (List ℤ)) (k : ℕ) (d : TransformPlace × Residue) → length ats ≤ length pieces → k < length ats
    → get_or (residues_from ats pieces) k d ≡ (get_or ats k (place_at 0 0), residue_of_piece (get_or pieces k []))
unfolding residues_from
from_is [] pieces k d fits low = absurd (omega (arith, low))
from_is (at ∷ ats) [] k d fits low = absurd (omega (arith, fits))
from_is (at ∷ ats) (x ∷ pieces) zero d fits low = refl
from_is (at ∷ ats) (x ∷ pieces) (suc k) d fits low = from_is ats pieces k d (omega (arith, fits)) (omega (arith, low))

pub taken_from : (ats : List TransformPlace) (pieces : List (List ℤ)) (n : ℕ) → n + length ats ≤ length pieces → residues_at (piece_residue pieces n) ats ≡ residues_from ats (drop n pieces)
taken_from ats pieces n fits =
    let few : length ats ≤ length (drop n pieces) = rw (length-drop n pieces) (omega (arith, fits)) in
    same_lists (residues_at (piece_residue pieces n) ats) (residues_from ats (drop n pieces)) (length_first (piece_residue pieces n) ats (length ats) ∙ sym (length_from ats (drop n pieces) few))
    (λ k d low. let lt : k < length ats = rw (length_first (piece_residue pieces n) ats (length ats)) at low in
    first_is (piece_residue pieces n) ats (length ats) k d lt
    ∙ sym (from_is ats (drop n pieces) k d few lt ∙ ap (λ (x : List ℤ). (get_or ats k (place_at 0 0), residue_of_piece x)) (get_or-drop n pieces k [])))

pub planned_is : (shape : Shape) (tile_from : ℕ) (b : BlockInfo) (pieces : List (List ℤ)) (y u v : ℕ) → u ≡ y + count_in shape b Y → v ≡ u + count_in shape b U → v + count_in shape b V ≤ length pieces
    → planned_by (λ p area k. piece_residue pieces (first_in y u v p) k) shape tile_from b ≡ planned_from shape tile_from b (drop y pieces)
planned_is shape tile_from b pieces y u v next last fits =
    let in_y : residues_at (piece_residue pieces y) (places_in shape b Y) ≡ residues_from (places_in shape b Y) (drop y pieces) = taken_from (places_in shape b Y) pieces y (omega (arith, next, last, fits)) in
    let in_u : residues_at (piece_residue pieces u) (places_in shape b U) ≡ residues_from (places_in shape b U) (drop (count_in shape b Y) (drop y pieces)) =
    taken_from (places_in shape b U) pieces u (omega (arith, last, fits)) ∙ ap (residues_from (places_in shape b U)) (ap (λ n. drop n pieces) next ∙ sym (drop-drop (count_in shape b Y) y pieces)) in
    let in_v : residues_at (piece_residue pieces v) (places_in shape b V) ≡ residues_from (places_in shape b V) (drop (count_in shape b U) (drop (count_in shape b Y) (drop y pieces))) =
    taken_from (places_in shape b V) pieces v (omega (arith, fits)) ∙ ap (residues_from (places_in shape b V)) (ap (λ n. drop n pieces) (last ∙ ap (λ n. n + count_in shape b U) next) ∙ (sym (drop-drop (count_in shape b U) (y + count_in shape b Y) pieces) ∙ ap (drop (count_in shape b U)) (sym (drop-drop (count_in shape b Y) y pieces)))) in
    λ i. record { info = b; tile_from = tile_from; y = in_y i; u = in_u i; v = in_v i }

-- the same of a residue in either crate's words
whole_same : (n : ℕ) (r : Residue) → plan.IsWhole n r → IsWhole n r
whole_same n None whole = whole
whole_same n (Some values) whole = whole

-- a list of whole residues says of each that it is whole
held_is : (shape : Shape) (b : BlockInfo) (p : Plane) (pieces : List (List ℤ)) (n k : ℕ) → n + length (places_in shape b p) ≤ length pieces → k < length (places_in shape b p)
    → AreWhole (area (tx_in shape b p)) (residues_from (places_in shape b p) (drop n pieces)) → has_piece pieces n (area (tx_in shape b p)) k
held_is shape b p pieces n k fits low whole =
    let few : length (places_in shape b p) ≤ length (drop n pieces) = rw (length-drop n pieces) (omega (arith, fits)) in
    let d : TransformPlace × Residue = (place_at 0 0, None) in
    let here = whole k d (rw (length_from (places_in shape b p) (drop n pieces) few) low) in
    let one = subst (λ (r : TransformPlace × Residue). plan.IsWhole (area (tx_in shape b p)) r.1) (from_is (places_in shape b p) (drop n pieces) k d few low) here in
    (omega (arith, low, fits), rw (sym (get_or-drop n pieces k [])) (whole_same (area (tx_in shape b p)) (residue_of_piece (get_or (drop n pieces) k [])) one))

pub all_held : (shape : Shape) (tile_from : ℕ) (b : BlockInfo) (pieces : List (List ℤ)) (y u v : ℕ) → u ≡ y + count_in shape b Y → v ≡ u + count_in shape b U → v + count_in shape b V ≤ length pieces
    → HoldsWhole shape (planned_from shape tile_from b (drop y pieces)) → (p : Plane) (k : ℕ) → k < length (places_in shape b p) → has_piece pieces (first_in y u v p) (area (tx_in shape b p)) k
all_held shape tile_from b pieces y u v next last fits whole Y k low = held_is shape b Y pieces y k (omega (arith, next, last, fits)) low whole.y
all_held shape tile_from b pieces y u v next last fits whole U k low =
    let is : drop (count_in shape b Y) (drop y pieces) ≡ drop u pieces = drop-drop (count_in shape b Y) y pieces ∙ sym (ap (λ n. drop n pieces) next) in
    held_is shape b U pieces u k (omega (arith, last, fits)) low
    (subst (λ (l : List (List ℤ)). AreWhole (area (tx_in shape b U)) (residues_from (places_in shape b U) l)) is whole.u)
all_held shape tile_from b pieces y u v next last fits whole V k low =
    let is : drop (count_in shape b Y) (drop y pieces) ≡ drop u pieces = drop-drop (count_in shape b Y) y pieces ∙ sym (ap (λ n. drop n pieces) next) in
    let then : drop (count_in shape b U) (drop (count_in shape b Y) (drop y pieces)) ≡ drop v pieces =
    ap (drop (count_in shape b U)) is ∙ (drop-drop (count_in shape b U) u pieces ∙ sym (ap (λ n. drop n pieces) last)) in
    held_is shape b V pieces v k fits low
    (subst (λ (l : List (List ℤ)). AreWhole (area (tx_in shape b V)) (residues_from (places_in shape b V) l)) then whole.v)

-- the last plane's pieces are there, where the block's are
pub last_fits : (shape : Shape) (b : BlockInfo) (n y u v : ℕ) → u ≡ y + count_in shape b Y → v ≡ u + count_in shape b U → y + count_of shape b ≤ n → v + count_in shape b V ≤ n
last_fits shape b n y u v next last fits = omega (arith, next, last, fits)
