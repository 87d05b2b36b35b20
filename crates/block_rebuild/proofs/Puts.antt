-- Residues taken one after another, and transform blocks put in with them.
use Rattle.std.proofs.Common.{◌≡◌, ◌<◌, ◌+◌, ◌*◌, ◌++◌, ◌∷◌, [], ℕ, ℤ, ◌∙◌, refl, sym, ap, arith, subst, List, length, get_or}
use Rattle.std.specs.Prelude.{Some, None, pos}
use Rattle.std.specs.List.{fold}
use Rattle.std.specs.Option.{ForSome}
use Rattle.std.proofs.lemmas.List.FromFn.{map-range_with_len_more, length-map-range_with_len, get_or-map-range_with_len}
use Rattle.std.proofs.lemmas.List.Sums.{fold-append}
use Rattle.vp9_types.specs.Maps.{Map}
use Rattle.vp9_types.specs.Sizes.{side}
use Rattle.vp9_types.specs.declared.block.TxSize.{TxSize}
use Rattle.vp9_types.specs.declared.block.TxSize.TheVariants.{T4x4, T8x8, T16x16, T32x32}
use Rattle.vp9_types.specs.declared.shape.Depth.{Depth}
use Rattle.vp9_types.specs.declared.shape.Shape.{Shape}
use Rattle.vp9_tables.specs.Scans.{area}
use Rattle.block_geometry.specs.TransformBlocks.{place_at}
use Rattle.block_geometry.specs.declared.transform_blocks.TransformPlace.{TransformPlace}
use Rattle.block_plan.specs.Code.{IsSmall, AreSmall, planned_with, residues_held}
use Rattle.block_plan.specs.Planned.{Residue}
use Rattle.block_plan.specs.declared.block.BlockInfo.{BlockInfo}
use Rattle.block_plan.specs.declared.residues.BlockResidues.{BlockResidues}
use Rattle.intra_predict.specs.Residue.{IsResidue}
use Rattle.intra_predict.specs.Steps.{prediction, with_any_residue, with_square}
use Rattle.intra_predict.specs.declared.block.IntraBlock.{IntraBlock}
use Rattle.planes.specs.declared.area.Area.{Area}
use Rattle.block_rebuild.specs.RebuiltBlocks.{put_residue}
use Rattle.block_rebuild.specs.Code.{put_more}
use Rattle.block_rebuild.specs.Residues.{IsWhole, first_residues, residues_at, planned_by, plane_of, residue_held}
use Rattle.block_rebuild.specs.declared.in_plane.IntraInPlane.{IntraInPlane}

---- Residues one after another ----

zero_plus : (k : ℕ) → 0 + k ≡ k
zero_plus k = omega arith

pub first_more : (residue : ℕ → Residue) (ats : List TransformPlace) (k : ℕ)
    → first_residues residue ats (k + 1) ≡ first_residues residue ats k ++ (get_or ats k (place_at 0 0), residue k) ∷ []
unfolding first_residues
first_more residue ats k = map-range_with_len_more (λ n. (get_or ats n (place_at 0 0), residue n)) 0 k k (zero_plus k)

pub length_first : (residue : ℕ → Residue) (ats : List TransformPlace) (n : ℕ) → length (first_residues residue ats n) ≡ n
unfolding first_residues
length_first residue ats n = length-map-range_with_len (λ k. (get_or ats k (place_at 0 0), residue k)) 0 n

pub first_is : (residue : ℕ → Residue) (ats : List TransformPlace) (n k : ℕ) (d : TransformPlace × Residue) → k < n → get_or (first_residues residue ats n) k d ≡ (get_or ats k (place_at 0 0), residue k)
unfolding first_residues
first_is residue ats n k d low = get_or-map-range_with_len (λ n. (get_or ats n (place_at 0 0), residue n)) 0 n k k d low (zero_plus k)

pub small_at : (residue : ℕ → Residue) (ats : List TransformPlace) (k : ℕ) → k < length ats → AreSmall (residues_at residue ats) → IsSmall (residue k)
small_at residue ats k low small =
    let d : TransformPlace × Residue = (place_at 0 0, None) in
    subst (λ (r : TransformPlace × Residue). IsSmall r.1) (first_is residue ats (length ats) k d low) (small k d (rw (length_first residue ats (length ats)) low))

---- One transform block ----

pub square : (tx : TxSize) → side tx * side tx ≡ area tx
square T4x4 = refl
square T8x8 = refl
square T16x16 = refl
square T32x32 = refl

pub whole_residue : (tx : TxSize) (r : Residue) → IsWhole (area tx) r → IsSmall r → ForSome r (IsResidue (side tx * side tx))
whole_residue tx None whole small = λ x is. let no : ⊥ = cc in absurd no
whole_residue tx (Some values) whole small = λ x is.
    let same : values ≡ x = cc in
    subst (λ (z : List ℤ). IsResidue (side tx * side tx) z) same (record {
      enough = rw (square tx, whole) (omega arith);
      small = λ k low. small k (pos 0) (rw (square tx, sym whole) at low);
    })

pub residue_is : (width height : ℕ) (depth : Depth) (b : IntraBlock) (r : Residue) (m : Map)
    → with_square width height m b.place.row b.place.column (side b.size) (with_any_residue depth (side b.size) (prediction width height depth b m) r) ≡ put_residue width height depth b r m
residue_is width height depth b None m = refl
residue_is width height depth b (Some values) m = refl

pub put_one_more : (a a' : Area) (b : IntraInPlane) (ats : List TransformPlace) (residue : ℕ → Residue) (k : ℕ) (place : TransformPlace) (r : Residue) (start m new : Map)
    → get_or ats k (place_at 0 0) ≡ place → r ≡ residue k → m ≡ fold (put_more a b) start (first_residues residue ats k)
    → a' ≡ a → new ≡ put_more a' b m (place, r)
    → new ≡ fold (put_more a b) start (first_residues residue ats (k + 1))
put_one_more a a' b ats residue k place r start m new at taken so same is =
    is
    ∙ ((λ i. put_more (same i) b (so i) (sym at i, taken i))
    ∙ (sym (fold-append (put_more a b) start (first_residues residue ats k) ((get_or ats k (place_at 0 0), residue k) ∷ []))
    ∙ ap (fold (put_more a b) start) (sym (first_more residue ats k))))

---- A block's buffer ----

-- a block's buffer has the residues that a block is planned with
pub in_buffer : (shape : Shape) (tile_from : ℕ) (b : BlockInfo) (r : BlockResidues) → planned_by (λ p area k. residue_held (plane_of r p) area k) shape tile_from b ≡ planned_with shape tile_from b b r
unfolding first_residues residues_held
in_buffer shape tile_from b r = refl
