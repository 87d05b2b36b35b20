-- A block, put plane by plane.
use Rattle.std.proofs.Common.{◌≡◌, ◌||◌, [], ℕ, refl, sym, ◌∙◌, Bool, true, false, List, map}
use Rattle.std.specs.Prelude.{Result, Ok, Err, None}
use Rattle.std.specs.List.{list_any}
use Rattle.std.proofs.lemmas.List.Folds.{list_any_none}
use Rattle.std.proofs.lemmas.List.Elements.{All-map}
use Rattle.vp9_types.specs.declared.rule.Rule.{Rule}
use Rattle.vp9_types.specs.declared.shape.Plane.{Plane}
use Rattle.vp9_types.specs.declared.shape.Plane.TheVariants.{Y, U, V}
use Rattle.block_geometry.specs.declared.transform_blocks.TransformPlace.{TransformPlace}
use Rattle.prob_contexts.specs.ProbLists.{ContextLists}
use Rattle.bool_encoder.specs.Part.{NumberPart}
use Rattle.frame_headers.specs.HeaderState.{shape_of}
use Rattle.frame_headers.specs.declared.header.Header.{Header}
use Rattle.block_plan.specs.InPlanes.{places_in}
use Rattle.block_plan.specs.declared.block.BlockInfo.{BlockInfo}
use Rattle.counting_reader.specs.Counting.{through}
use Rattle.bool_encoder.specs.CountedBools.{PutsTo}
use Rattle.bool_encoder.proofs.CountedPuts.{puts_on, puts_broken, puts_settle}
use Rattle.residue_syntax.specs.BlocksInPlanes.{block_in}
use Rattle.residue_syntax.specs.Residues.{ReadPlane, read_next, read_skipped, skipped_sides, read_in_plane, read_plane, block_residue, listed, planned, is_coded}
use Rattle.residue_syntax.specs.Sides.{Sides}
use Rattle.residue_syntax.specs.declared.sides.TileSides.{TileSides}
use Rattle.residue_writer.specs.SaidResidues.{residues_said, said_in_plane, block_residues_said}
use Rattle.residue_writer.specs.Code.{TellsPlane, TellsBlock}
use Rattle.residue_writer.specs.declared.levels.BlockLevels.{BlockLevels}
use Rattle.residue_writer.specs.declared.levels.PlaneLevels.{PlaneLevels}

---- A plane ----

none_coded : (places : List TransformPlace) → list_any is_coded (map (λ at. (at, None)) places) ≡ false
none_coded places = list_any_none is_coded (map (λ at. (at, None)) places) (All-map (λ r. is_coded r ≡ false) (λ at. (at, None)) places (λ k d low. refl))

abbrev pub PutsPlane : Header → ContextLists → BlockInfo → Plane → PlaneLevels → Sides → NumberPart → NumberPart → Type 0
PutsPlane header contexts b p levels s old new = PutsTo (read_plane header contexts b p s) old (said_in_plane header b p levels s) new

pub plane_skipped : (header : Header) (contexts : ContextLists) (b : BlockInfo) (p : Plane) (levels : PlaneLevels) (s t : Sides) (old : NumberPart)
    → b.skip ≡ true → t ≡ skipped_sides (block_in header b p).block s
    → PutsPlane header contexts b p levels s old old × TellsPlane (said_in_plane header b p levels s) (Ok false) t
unfolding read_in_plane said_in_plane read_skipped
plane_skipped header contexts b p levels s t old skips is =
    rw skips (puts_settle _ old, (read_skipped (block_in header b p) (places_in (shape_of header) b p) s, refl, sym is, sym (none_coded (places_in (shape_of header) b p))))

pub plane_coded : (header : Header) (contexts : ContextLists) (b : BlockInfo) (p : Plane) (levels : PlaneLevels) (s t : Sides) (old new : NumberPart) (told : Result Bool Rule)
    → b.skip ≡ false
    → PutsTo (through (read_next contexts (block_in header b p)) (places_in (shape_of header) b p) (record { residues = []; sides = s })) old
    (residues_said (block_in header b p) levels (places_in (shape_of header) b p) 0 (record { residues = []; sides = s })) new
    → TellsPlane (residues_said (block_in header b p) levels (places_in (shape_of header) b p) 0 (record { residues = []; sides = s })) told t
    → PutsPlane header contexts b p levels s old new × TellsPlane (said_in_plane header b p levels s) told t
unfolding read_in_plane said_in_plane
plane_coded header contexts b p levels s t old new told codes put tells = rw codes (put, tells)

---- A block ----

abbrev Puts : Header → ContextLists → ℕ → BlockInfo → BlockLevels → TileSides → NumberPart → NumberPart → Type 0
Puts header contexts tile_from b levels s old new = PutsTo (block_residue header contexts tile_from b s) old (block_residues_said header tile_from b levels s) new

pub first_broken : (header : Header) (contexts : ContextLists) (tile_from : ℕ) (b : BlockInfo) (levels : BlockLevels) (s : TileSides) (old new : NumberPart) (rule : Rule)
    → PutsPlane header contexts b Y levels.y s.y old new → said_in_plane header b Y levels.y s.y ≡ Err rule
    → Puts header contexts tile_from b levels s old new × (block_residues_said header tile_from b levels s ≡ Err rule)
unfolding block_residue block_residues_said
first_broken header contexts tile_from b levels s old new rule y said = rw said (puts_broken _ _ old new rule (rw said at y), refl)

pub second_broken : (header : Header) (contexts : ContextLists) (tile_from : ℕ) (b : BlockInfo) (levels : BlockLevels) (s : TileSides) (old mid new : NumberPart) (rule : Rule) (p : ReadPlane)
    → PutsPlane header contexts b Y levels.y s.y old mid → said_in_plane header b Y levels.y s.y ≡ Ok p
    → PutsPlane header contexts b U levels.u s.u mid new → said_in_plane header b U levels.u s.u ≡ Err rule
    → Puts header contexts tile_from b levels s old new × (block_residues_said header tile_from b levels s ≡ Err rule)
unfolding block_residue block_residues_said
second_broken header contexts tile_from b levels s old mid new rule p y is u said =
    rw (is, said) (puts_on _ _ old mid new p _ (rw is at y) (puts_broken _ _ mid new rule (rw said at u)), refl)

pub third_broken : (header : Header) (contexts : ContextLists) (tile_from : ℕ) (b : BlockInfo) (levels : BlockLevels) (s : TileSides) (old mid late new : NumberPart) (rule : Rule) (p q : ReadPlane)
    → PutsPlane header contexts b Y levels.y s.y old mid → said_in_plane header b Y levels.y s.y ≡ Ok p
    → PutsPlane header contexts b U levels.u s.u mid late → said_in_plane header b U levels.u s.u ≡ Ok q
    → PutsPlane header contexts b V levels.v s.v late new → said_in_plane header b V levels.v s.v ≡ Err rule
    → Puts header contexts tile_from b levels s old new × (block_residues_said header tile_from b levels s ≡ Err rule)
unfolding block_residue block_residues_said
third_broken header contexts tile_from b levels s old mid late new rule p q y is u so v said =
    rw (is, so, said) (puts_on _ _ old mid new p _ (rw is at y) (puts_on _ _ mid late new q _ (rw so at u) (puts_broken _ _ late new rule (rw said at v))), refl)

pub all_put : (header : Header) (contexts : ContextLists) (tile_from : ℕ) (b info : BlockInfo) (levels : BlockLevels) (s t : TileSides) (old mid late new : NumberPart) (luma first second : Bool)
    → PutsPlane header contexts b Y levels.y s.y old mid → TellsPlane (said_in_plane header b Y levels.y s.y) (Ok luma) t.y
    → PutsPlane header contexts b U levels.u s.u mid late → TellsPlane (said_in_plane header b U levels.u s.u) (Ok first) t.u
    → PutsPlane header contexts b V levels.v s.v late new → TellsPlane (said_in_plane header b V levels.v s.v) (Ok second) t.v
    → info ≡ listed b (luma || first || second)
    → Puts header contexts tile_from b levels s old new × TellsBlock (block_residues_said header tile_from b levels s) (Ok info) t
unfolding block_residue block_residues_said
all_put header contexts tile_from b info levels s t old mid late new luma first second y p u q v r is =
    rw (p.1, q.1, r.1, sym p.2, sym q.2, sym r.2) (
      puts_on _ _ old mid new p.0 _ (rw p.1 at y) (puts_on _ _ mid late new q.0 _ (rw q.1 at u) (puts_on _ _ late new new r.0 _ (rw r.1 at v) (puts_settle _ new))),
      (planned tile_from b p.0 q.0 r.0, refl, sym (is ∙ rw (p.3, q.3, r.3) refl)),
    )
