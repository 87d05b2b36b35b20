-- The lists of a block's transform blocks, put one behind another.
use Rattle.std.proofs.Common.{◌≡◌, ◌<◌, ◌≤◌, ◌+◌, ◌-◌, ◌*◌, ℕ, Bool, true, false, List, length, get_or, take, drop}
use Rattle.std.specs.Prelude.{Result, IfOk, slice_index, nat_lt}
use Rattle.std.proofs.lemmas.List.{drop_more, drop_all}
use Rattle.vp9_types.specs.declared.rule.Rule.{Rule}
use Rattle.vp9_types.specs.declared.shape.Plane.{Plane}
use Rattle.vp9_types.specs.declared.shape.Plane.TheVariants.{Y, U, V}
use Rattle.vp9_tables.specs.Scans.{area}
use Rattle.block_geometry.specs.TransformBlocks.{place_at}
use Rattle.block_geometry.specs.declared.transform_blocks.TransformPlace.{TransformPlace}
use Rattle.prob_contexts.specs.ProbLists.{ContextLists}
use Rattle.bool_encoder.specs.Part.{NumberPart}
use Rattle.bool_lists.specs.BoolLists.{HasPut}
use Rattle.bool_lists.proofs.Ways.{spells_on, spells_none}
use Rattle.frame_headers.specs.HeaderState.{shape_of}
use Rattle.frame_headers.specs.declared.header.Header.{Header}
use Rattle.block_plan.specs.InPlanes.{places_in}
use Rattle.block_plan.specs.declared.block.BlockInfo.{BlockInfo}
use Rattle.block_plan.proofs.Held.{one_long}
use Rattle.residue_syntax.specs.BlocksInPlanes.{block_in}
use Rattle.residue_syntax.specs.Residues.{with_sides}
use Rattle.residue_syntax.specs.Sides.{Sides}
use Rattle.residue_syntax.specs.declared.in_plane.BlockInPlane.{BlockInPlane}
use Rattle.residue_syntax.specs.declared.sides.TileSides.{TileSides}
use Rattle.residue_writer.specs.SaidResidues.{levels_at}
use Rattle.residue_writer.specs.ResidueLists.{spelled_at, spelled_plane, spelled_residue, spelled_residues}
use Rattle.residue_writer.specs.declared.levels.BlockLevels.{BlockLevels}
use Rattle.residue_writer.specs.declared.levels.PlaneLevels.{PlaneLevels}

---- In a plane ----

-- the k-th
abbrev pub SpellsAt : ContextLists → BlockInPlane → PlaneLevels → TransformPlace → ℕ → Sides → NumberPart → NumberPart → Type 0
SpellsAt contexts b levels at k s now next = HasPut now (spelled_at contexts b at (slice_index levels.counts k) (levels_at levels (area b.block.tx) k) s) next

-- that the code holds its levels in a slice of its own
pub spelled_here : (contexts : ContextLists) (b : BlockInPlane) (levels : PlaneLevels) (at place : TransformPlace) (k n : ℕ) (s : Sides) (now next : NumberPart) → n ≡ area b.block.tx → at ≡ place
    → HasPut now (spelled_at contexts b place (slice_index levels.counts k) (take (k * n + n - k * n) (drop (k * n) levels.values)) s) next → SpellsAt contexts b levels at k s now next
spelled_here contexts b levels at place k n s now next is same put = rw same (rw (one_long, is) at put)

-- so many were put, and the lists of the others complete that of all
abbrev pub SpellsLeft : ContextLists → BlockInPlane → PlaneLevels → List TransformPlace → Sides → NumberPart → ℕ → Sides → NumberPart → Type 0
SpellsLeft contexts b levels places s old k sides now =
    (new : NumberPart) → HasPut now (spelled_residues contexts b levels (drop k places) k sides) new → HasPut old (spelled_residues contexts b levels places 0 s) new

pub spells_begin : (contexts : ContextLists) (b : BlockInPlane) (levels : PlaneLevels) (places : List TransformPlace) (s : Sides) (old : NumberPart) → SpellsLeft contexts b levels places s old 0 s old
spells_begin contexts b levels places s old = λ new h. h

pub spells_go : (contexts : ContextLists) (b : BlockInPlane) (levels : PlaneLevels) (places : List TransformPlace) (s sides beyond : Sides) (old now next : NumberPart) (k : ℕ) → k < length places
    → SpellsLeft contexts b levels places s old k sides now → SpellsAt contexts b levels (get_or places k (place_at 0 0)) k sides now next
    → beyond ≡ with_sides b.block (get_or places k (place_at 0 0)).row (get_or places k (place_at 0 0)).column (nat_lt 0 (slice_index levels.counts k)) sides
    → SpellsLeft contexts b levels places s old (k + 1) beyond next
unfolding spelled_residues
spells_go contexts b levels places s sides beyond old now next k low left one marks = λ new h.
    left new (rw (drop_more places k (place_at 0 0) low) (spells_on now next new _ _ (rw marks at h) one))

pub spells_end : (contexts : ContextLists) (b : BlockInPlane) (levels : PlaneLevels) (places : List TransformPlace) (s sides : Sides) (old now : NumberPart) (k : ℕ) → length places ≤ k
    → SpellsLeft contexts b levels places s old k sides now → HasPut old (spelled_residues contexts b levels places 0 s) now
unfolding spelled_residues
spells_end contexts b levels places s sides old now k all left = left now (rw (drop_all k places all) (spells_none now))

pub plane_none : (header : Header) (contexts : ContextLists) (b : BlockInfo) (p : Plane) (levels : PlaneLevels) (s : Sides) (old : NumberPart) → b.skip ≡ true
    → HasPut old (spelled_plane header contexts b p levels s) old
unfolding spelled_plane
plane_none header contexts b p levels s old skips = rw skips (spells_none old)

pub plane_some : (header : Header) (contexts : ContextLists) (b : BlockInfo) (p : Plane) (levels : PlaneLevels) (s : Sides) (old new : NumberPart) (told : Result Bool Rule) → b.skip ≡ false
    → IfOk told (λ _. HasPut old (spelled_residues contexts (block_in header b p) levels (places_in (shape_of header) b p) 0 s) new)
    → IfOk told (λ _. HasPut old (spelled_plane header contexts b p levels s) new)
unfolding spelled_plane
plane_some header contexts b p levels s old new told codes put = rw codes put

---- In all planes ----

pub three_spelled : (header : Header) (contexts : ContextLists) (b : BlockInfo) (levels : BlockLevels) (s : TileSides) (old mid late new : NumberPart)
    → HasPut old (spelled_plane header contexts b Y levels.y s.y) mid → HasPut mid (spelled_plane header contexts b U levels.u s.u) late
    → HasPut late (spelled_plane header contexts b V levels.v s.v) new → HasPut old (spelled_residue header contexts b levels s) new
unfolding spelled_residue
three_spelled header contexts b levels s old mid late new y u v = spells_on old late new _ _ v (spells_on old mid late _ _ u y)
