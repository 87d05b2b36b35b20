-- A block in a plane, put transform block by transform block.
use Rattle.std.proofs.Common.{◌≡◌, ◌<◌, ◌≤◌, ◌+◌, ◌-◌, ◌*◌, ◌∷◌, [], ◌||◌, ℕ, ◌∙◌, refl, sym, ap, Bool, false, List, length, get_or, take, drop}
use Rattle.std.specs.Prelude.{Result, Ok, Err, Some, None, slice_index, nat_lt}
use Rattle.std.specs.List.{list_any}
use Rattle.std.specs.Option.{is_some}
use Rattle.std.proofs.lemmas.List.{drop_more, drop_all}
use Rattle.std.proofs.lemmas.List.Folds.{list_any-append}
use Rattle.vp9_types.specs.Results.{map_ok}
use Rattle.vp9_types.specs.declared.rule.Rule.{Rule}
use Rattle.vp9_tables.specs.Scans.{area}
use Rattle.block_geometry.specs.TransformBlocks.{place_at}
use Rattle.block_geometry.specs.declared.transform_blocks.TransformPlace.{TransformPlace}
use Rattle.prob_contexts.specs.ProbLists.{ContextLists}
use Rattle.bool_encoder.specs.Part.{NumberPart}
use Rattle.block_plan.specs.Planned.{Residue}
use Rattle.block_plan.proofs.Held.{one_long}
use Rattle.counting_reader.specs.Counting.{through}
use Rattle.bool_encoder.specs.CountedBools.{PutsTo}
use Rattle.bool_encoder.proofs.CountedPuts.{LeftOf, puts_on, puts_broken, puts_settle, through_begins, through_goes, through_breaks, through_ends}
use Rattle.residue_syntax.specs.Residues.{ReadPlane, read_residue, read_next, with_sides, is_coded}
use Rattle.residue_syntax.specs.Sides.{Sides}
use Rattle.residue_syntax.specs.declared.in_plane.BlockInPlane.{BlockInPlane}
use Rattle.residue_writer.specs.SaidResidues.{levels_at, residue_said, residues_said, with_read_residue}
use Rattle.residue_writer.specs.Code.{TellsAny, TellsPlane}
use Rattle.residue_writer.specs.declared.levels.PlaneLevels.{PlaneLevels}

---- One transform block ----

-- what is said of the k-th
abbrev pub said_at : BlockInPlane → PlaneLevels → TransformPlace → ℕ → Result Residue Rule
said_at b levels at k = residue_said b at.row at.column (slice_index levels.counts k) (levels_at levels (area b.block.tx) k)

-- reading it is led to what is said of it
abbrev pub PutsAt : ContextLists → BlockInPlane → PlaneLevels → TransformPlace → ℕ → Sides → NumberPart → NumberPart → Type 0
PutsAt contexts b levels at k s now next =
    PutsTo (read_residue contexts b at.row at.column s) now (map_ok (λ r. (r, with_sides b.block at.row at.column (nat_lt 0 (slice_index levels.counts k)) s)) (said_at b levels at k)) next

next_put : (contexts : ContextLists) (b : BlockInPlane) (levels : PlaneLevels) (at : TransformPlace) (k : ℕ) (p : ReadPlane) (r : Residue) (now next : NumberPart)
    → PutsAt contexts b levels at k p.sides now next → said_at b levels at k ≡ Ok r
    → PutsTo (read_next contexts b at p) now (Ok (with_read_residue b at (slice_index levels.counts k) r p)) next
unfolding read_next
next_put contexts b levels at k p r now next put said = puts_on _ _ now next next (r, _) _ (rw said at put) (puts_settle _ next)

next_broken : (contexts : ContextLists) (b : BlockInPlane) (levels : PlaneLevels) (at : TransformPlace) (k : ℕ) (p : ReadPlane) (rule : Rule) (now next : NumberPart)
    → PutsAt contexts b levels at k p.sides now next → said_at b levels at k ≡ Err rule
    → PutsTo (read_next contexts b at p) now (Err rule) next
unfolding read_next
next_broken contexts b levels at k p rule now next put said = puts_broken _ _ now next rule (rw said at put)

said_more : (b : BlockInPlane) (levels : PlaneLevels) (places : List TransformPlace) (k : ℕ) (p : ReadPlane) (r : Residue) → k < length places
    → said_at b levels (get_or places k (place_at 0 0)) k ≡ Ok r
    → residues_said b levels (drop k places) k p
    ≡ residues_said b levels (drop (k + 1) places) (k + 1) (with_read_residue b (get_or places k (place_at 0 0)) (slice_index levels.counts k) r p)
unfolding residues_said
said_more b levels places k p r low said = rw (drop_more places k (place_at 0 0) low, said) refl

said_broken : (b : BlockInPlane) (levels : PlaneLevels) (places : List TransformPlace) (k : ℕ) (p : ReadPlane) (rule : Rule) → k < length places
    → said_at b levels (get_or places k (place_at 0 0)) k ≡ Err rule → residues_said b levels (drop k places) k p ≡ Err rule
unfolding residues_said
said_broken b levels places k p rule low said = rw (drop_more places k (place_at 0 0) low, said) refl

coded_one : (at : TransformPlace) (r : Residue) → list_any is_coded ((at, r) ∷ []) ≡ is_some r
coded_one at None = refl
coded_one at (Some values) = refl

-- that the code holds its levels in a slice of its own
pub put_at : (contexts : ContextLists) (b : BlockInPlane) (levels : PlaneLevels) (at place : TransformPlace) (k n : ℕ) (s : Sides) (now next : NumberPart) → n ≡ area b.block.tx → at ≡ place
    → PutsTo (read_residue contexts b place.row place.column s) now (map_ok (λ r. (r, with_sides b.block place.row place.column (nat_lt 0 (slice_index levels.counts k)) s))
    (residue_said b place.row place.column (slice_index levels.counts k) (take (k * n + n - k * n) (drop (k * n) levels.values)))) next
    → PutsAt contexts b levels at k s now next
put_at contexts b levels at place k n s now next is same put = rw same (rw (one_long, is) at put)

pub told_at : (b : BlockInPlane) (levels : PlaneLevels) (at place : TransformPlace) (k n : ℕ) (told : Result Bool Rule) → n ≡ area b.block.tx → at ≡ place
    → TellsAny (residue_said b place.row place.column (slice_index levels.counts k) (take (k * n + n - k * n) (drop (k * n) levels.values))) told
    → TellsAny (said_at b levels at k) told
told_at b levels at place k n told is same tells = rw same (rw (one_long, is) at tells)

---- All of them ----

abbrev from_sides : Sides → ReadPlane
from_sides s = record { residues = []; sides = s }

-- so many transform blocks were put, and the others complete the block
abbrev pub Passes : ContextLists → BlockInPlane → PlaneLevels → List TransformPlace → Sides → NumberPart → ℕ → Sides → Bool → NumberPart → Type 0
Passes contexts b levels places s old k sides any now =
    (p : ReadPlane) × (p.sides ≡ sides) × (any ≡ list_any is_coded p.residues) × LeftOf (read_next contexts b) places (from_sides s) old k p now
    × (residues_said b levels places 0 (from_sides s) ≡ residues_said b levels (drop k places) k p)

pub passes_none : (contexts : ContextLists) (b : BlockInPlane) (levels : PlaneLevels) (places : List TransformPlace) (s : Sides) (old : NumberPart)
    → Passes contexts b levels places s old 0 s false old
passes_none contexts b levels places s old = (from_sides s, refl, refl, through_begins (read_next contexts b) places (from_sides s) old, refl)

pub passes_on : (contexts : ContextLists) (b : BlockInPlane) (levels : PlaneLevels) (places : List TransformPlace) (s sides beyond : Sides) (old now next : NumberPart) (k : ℕ) (any some : Bool)
    → k < length places → Passes contexts b levels places s old k sides any now
    → PutsAt contexts b levels (get_or places k (place_at 0 0)) k sides now next → TellsAny (said_at b levels (get_or places k (place_at 0 0)) k) (Ok some)
    → beyond ≡ with_sides b.block (get_or places k (place_at 0 0)).row (get_or places k (place_at 0 0)).column (nat_lt 0 (slice_index levels.counts k)) sides
    → Passes contexts b levels places s old (k + 1) beyond (any || some) next
passes_on contexts b levels places s sides beyond old now next k any some low st put tells marks =
    let p = st.0 in
    let at = get_or places k (place_at 0 0) in
    let r = tells.0 in
    let here : PutsAt contexts b levels at k p.sides now next = rw st.1 put in (
      with_read_residue b at (slice_index levels.counts k) r p,
      ap (λ (t : Sides). with_sides b.block at.row at.column (nat_lt 0 (slice_index levels.counts k)) t) st.1 ∙ sym marks,
      sym (list_any-append is_coded p.residues ((at, r) ∷ [])
          ∙ (ap (λ (w : Bool). list_any is_coded p.residues || w) (coded_one at r ∙ tells.2)
          ∙ ap (λ (w : Bool). w || some) (sym st.2))),
      through_goes (read_next contexts b) places (from_sides s) p _ old now next k (place_at 0 0) low st.3 (next_put contexts b levels at k p r now next here tells.1),
      st.4 ∙ said_more b levels places k p r low tells.1,
    )

pub breaks_here : (contexts : ContextLists) (b : BlockInPlane) (levels : PlaneLevels) (places : List TransformPlace) (s sides : Sides) (old now next : NumberPart) (k : ℕ) (any : Bool) (rule : Rule)
    → k < length places → Passes contexts b levels places s old k sides any now
    → PutsAt contexts b levels (get_or places k (place_at 0 0)) k sides now next → said_at b levels (get_or places k (place_at 0 0)) k ≡ Err rule
    → PutsTo (through (read_next contexts b) places (from_sides s)) old (residues_said b levels places 0 (from_sides s)) next
    × (residues_said b levels places 0 (from_sides s) ≡ Err rule)
breaks_here contexts b levels places s sides old now next k any rule low st put said =
    let p = st.0 in
    let at = get_or places k (place_at 0 0) in
    let here : PutsAt contexts b levels at k p.sides now next = rw st.1 put in
    let is : residues_said b levels places 0 (from_sides s) ≡ Err rule = st.4 ∙ said_broken b levels places k p rule low said in (
      rw is (through_breaks (read_next contexts b) places (from_sides s) p old now next k (place_at 0 0) rule low st.3 (next_broken contexts b levels at k p rule now next here said)),
      is,
    )

pub ends_all : (contexts : ContextLists) (b : BlockInPlane) (levels : PlaneLevels) (places : List TransformPlace) (s sides : Sides) (old now : NumberPart) (k : ℕ) (any : Bool)
    → length places ≤ k → Passes contexts b levels places s old k sides any now
    → PutsTo (through (read_next contexts b) places (from_sides s)) old (residues_said b levels places 0 (from_sides s)) now
    × TellsPlane (residues_said b levels places 0 (from_sides s)) (Ok any) sides
unfolding residues_said
ends_all contexts b levels places s sides old now k any all st =
    let p = st.0 in
    let is : residues_said b levels places 0 (from_sides s) ≡ Ok p = st.4 ∙ rw (drop_all k places all) refl in (
      rw is (through_ends (read_next contexts b) places (from_sides s) p old now k all st.3),
      (p, is, st.1, st.2),
    )
