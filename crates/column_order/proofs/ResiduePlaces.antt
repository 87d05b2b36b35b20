-- The residues of a block stand at its transform blocks.
use Rattle.std.proofs.Common.{◌≡◌, ◌∙◌, ◌++◌, ◌∷◌, [], ℕ, Bool, List, refl, sym, ap, append_assoc, append-nil, map}
use Rattle.std.specs.Prelude.{None}
use Rattle.std.proofs.lemmas.List.{map-append}
use Rattle.vp9_types.specs.declared.shape.Plane.{Plane}
use Rattle.vp9_types.specs.declared.shape.Plane.TheVariants.{Y, U, V}
use Rattle.block_geometry.specs.declared.transform_blocks.TransformPlace.{TransformPlace}
use Rattle.frame_headers.specs.HeaderState.{shape_of}
use Rattle.frame_headers.specs.declared.header.Header.{Header}
use Rattle.prob_contexts.specs.ProbLists.{ContextLists}
use Rattle.block_plan.specs.InPlanes.{places_in}
use Rattle.block_plan.specs.Planned.{PlannedBlock, Residue, Residues, residues_in}
use Rattle.block_plan.specs.declared.block.BlockInfo.{BlockInfo}
use Rattle.counting_reader.specs.Counting.{Yields, settle, through}
use Rattle.counting_reader.proofs.Yields.{yields_bind, yields_map}
use Rattle.residue_syntax.specs.Residues.{ReadPlane, planned, block_residue, read_in_plane, read_next, read_plane, read_residue, read_skipped}
use Rattle.residue_syntax.specs.Sides.{Sides}
use Rattle.residue_syntax.specs.declared.in_plane.BlockInPlane.{BlockInPlane}
use Rattle.residue_syntax.specs.declared.sides.TileSides.{TileSides}
use Rattle.column_order.proofs.TxFits.{any_bind, either}

abbrev places : Residues → List TransformPlace
places residues = map (λ (r : TransformPlace × Residue). r.0) residues

next_place : (contexts : ContextLists) (b : BlockInPlane) (at : TransformPlace) (s : ReadPlane) → Yields (read_next contexts b at s) (λ t. places t.residues ≡ places s.residues ++ at ∷ [])
unfolding read_next settle
next_place contexts b at s = any_bind (read_residue contexts b at.row at.column s.sides) _ _ (λ r. map-append (λ (r : TransformPlace × Residue). r.0) s.residues ((at, r.0) ∷ []))

through_places : (contexts : ContextLists) (b : BlockInPlane) (ats : List TransformPlace) (s : ReadPlane)
    → Yields (through (read_next contexts b) ats s) (λ t. places t.residues ≡ places s.residues ++ ats)
unfolding through settle
through_places contexts b [] s = sym (append-nil (places s.residues))
through_places contexts b (at ∷ ats) s =
    yields_bind (read_next contexts b at s) (through (read_next contexts b) ats) (λ t. places t.residues ≡ places s.residues ++ at ∷ []) _ (next_place contexts b at s)
    (λ t is. yields_map (through (read_next contexts b) ats t) _ _ (through_places contexts b ats t)
    (λ r more. more ∙ (ap (λ xs. xs ++ ats) is ∙ append_assoc (places s.residues) (at ∷ []) ats)))

skipped_places : (ats : List TransformPlace) → places (map (λ at. (at, None)) ats) ≡ ats
skipped_places [] = refl
skipped_places (at ∷ ats) = ap (λ xs. at ∷ xs) (skipped_places ats)

in_plane_places : (contexts : ContextLists) (skip : Bool) (b : BlockInPlane) (ats : List TransformPlace) (s : Sides) → Yields (read_in_plane contexts skip b ats s) (λ t. places t.residues ≡ ats)
unfolding read_in_plane read_skipped settle
in_plane_places contexts skip b ats s =
    either skip _ _ (λ t. places t.residues ≡ ats) (skipped_places ats) (through_places contexts b ats (record { residues = []; sides = s }))

-- a block as it is planned: it stands where it was read, and its residues stand at its transform blocks
pub record IsPlannedOf (header : Header) (tile_from : ℕ) (b : BlockInfo) (p : PlannedBlock) : Type 0 where
  pub tile : p.tile_from ≡ tile_from
  pub row : p.info.row ≡ b.row
  pub col : p.info.col ≡ b.col
  pub size : p.info.size ≡ b.size
  pub tx : p.info.tx ≡ b.tx
  pub places : (plane : Plane) → places (residues_in p plane) ≡ places_in (shape_of header) p.info plane

by_plane : (header : Header) (b : BlockInfo) (p : PlannedBlock) → places p.y ≡ places_in (shape_of header) b Y → places p.u ≡ places_in (shape_of header) b U → places p.v ≡ places_in (shape_of header) b V
    → (plane : Plane) → places (residues_in p plane) ≡ places_in (shape_of header) b plane
by_plane header b p y u v Y = y
by_plane header b p y u v U = u
by_plane header b p y u v V = v

plane_places : (header : Header) (contexts : ContextLists) (b : BlockInfo) (plane : Plane) (s : Sides)
    → Yields (read_plane header contexts b plane s) (λ t. places t.residues ≡ places_in (shape_of header) b plane)
plane_places header contexts b plane s = in_plane_places contexts b.skip _ (places_in (shape_of header) b plane) s

pub block_places : (header : Header) (contexts : ContextLists) (tile_from : ℕ) (b : BlockInfo) (s : TileSides)
    → Yields (block_residue header contexts tile_from b s) (λ r. IsPlannedOf header tile_from b r.0)
unfolding block_residue settle
block_places header contexts tile_from b s =
    yields_bind (read_plane header contexts b Y s.y) _ (λ t. places t.residues ≡ places_in (shape_of header) b Y) _ (plane_places header contexts b Y s.y)
    (λ y at_y. yields_bind (read_plane header contexts b U s.u) _ (λ t. places t.residues ≡ places_in (shape_of header) b U) _ (plane_places header contexts b U s.u)
    (λ u at_u. yields_bind (read_plane header contexts b V s.v) _ (λ t. places t.residues ≡ places_in (shape_of header) b V) _ (plane_places header contexts b V s.v)
    (λ v at_v. record {
      tile = refl;
      row = refl;
      col = refl;
      size = refl;
      tx = refl;
      places = by_plane header b (planned tile_from b y u v) at_y at_u at_v;
    })))
