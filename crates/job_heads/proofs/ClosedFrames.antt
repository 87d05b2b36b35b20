-- How a frame is closed.
use Rattle.std.proofs.Common.{◌≡◌, ◌∙◌, ℕ, zero, suc, ◌^◌, inl, inr, List, [], ◌∷◌, map, Bool, true, false, get_or, ap, sym, subst, refl, arith}
use Rattle.std.specs.Prelude.{All, Contains, IfSome, Option, Some, None, Result, Ok, Err, if◌then◌else◌}
use Rattle.vp9_types.specs.Shapes.{mi_rows}
use Rattle.vp9_types.specs.Sizes.{superblocks_along}
use Rattle.vp9_types.specs.declared.rule.Rule.{Rule}
use Rattle.vp9_types.specs.declared.rule.Rule.TheVariants.{OutputShape}
use Rattle.vp9_types.specs.declared.shape.Shape.{Shape}
use Rattle.band_cells.specs.Bands.{Picture as Shown}
use Rattle.frame_headers.specs.Header.{head_of}
use Rattle.frame_headers.specs.HeaderState.{shape_of}
use Rattle.frame_headers.specs.declared.header.Header.{Header}
use Rattle.frame_headers.specs.declared.persist.Persist.{Persist}
use Rattle.frame_output.specs.declared.rendering.Format.{Format}
use Rattle.frame_output.specs.Formats.{output_text}
use Rattle.job_results.specs.frame_decoder.DecodedFrames.{FrameResult}
use Rattle.job_results.specs.frame_decoder.declared.decoding.Decoded.{Decoded}
use Rattle.job_results.specs.frame_state.FrameReading.{FrameRead, read_all_tiles}
use Rattle.job_results.specs.frame_state.Sources.{FrameSources}
use Rattle.job_results.specs.frame_state.declared.halt.Halt.{Halt}
use Rattle.job_results.specs.frame_state.declared.halt.Halt.TheVariants as halt
use Rattle.job_results.specs.frame_steps.StepResults.{BeginsIn, GivesDecoded, IsDecoded, Leaves, sources_by}
use Rattle.job_results.specs.frame_steps.Kept.{MayFollow, StandsFor, number_in}
use Rattle.job_results.specs.frame_steps.declared.beginning.BegunFrame.{BegunFrame}
use Rattle.job_results.specs.frame_steps.declared.kept.Kept.{Kept}
use Rattle.job_results.specs.seq_decoder.After.{Stepped, after_coded, picture_of, shown_picture, state_after, step}
use Rattle.job_results.specs.seq_decoder.Code.{halt_outcome}
use Rattle.job_results.specs.seq_decoder.Outcomes.{outcome_at}
use Rattle.job_results.specs.seq_decoder.Outputs.{Putting, admits, form_after, is_first, put, shown_text}
use Rattle.job_results.specs.seq_decoder.DecoderState.{Picture, State, persist_of, shape_in_slot}
use Rattle.job_results.specs.seq_decoder.declared.form.OutputForm.{OutputForm}
use Rattle.job_results.specs.numbered_frames.Coded.{CodedFrame, IsFrameBefore, coded, read_of, result_of}
use Rattle.job_results.specs.numbered_frames.FrameNumbers.{before, frame_at}
use Rattle.job_results.specs.numbered_frames.NumberedPictures.{pictures}
use Rattle.job_results.proofs.of_numbered_frames.SlotFrames.{slots_hold}
use Rattle.job_results.proofs.of_numbered_frames.Ways.{text_is}
use Rattle.job_results.specs.Lent.{IsBegunFrame, IsKeptBefore}
use Rattle.job_results.specs.Slots.{slots_of}
use Rattle.job_results.proofs.SlotLists.{slot_in}
use Rattle.job_results.specs.JobResults.{HasReads, IsBegunAs, IsBuiltAs, IsClose, IsClosedAs, IsEnd, IsNamed, IsReadFrame, IsShown, ShowsSlot, shown_text as text_shown}
use Rattle.job_results.specs.declared.reads.RowReads.{RowReads}
use Rattle.job_results.specs.declared.result.ClosedFrame.{ClosedFrame}
use Rattle.job_results.specs.declared.result.JobResult.{JobResult}
use Rattle.job_results.specs.declared.result.JobResult.TheVariants as result
use Rattle.job_results.specs.declared.result.ShownFrame.{ShownFrame}
use Rattle.job_heads.specs.Reads.{AreReads}
use Rattle.job_heads.specs.Shows.{IsClosing, admits_it, closed_by, form_behind, held_in, shown_by, with_form}
use Rattle.job_heads.proofs.CodedFrames.{decoded_to, is_from, not_coded, picture_there}
use Rattle.job_heads.proofs.RowsRead.{has_reads}
use Rattle.job_heads.proofs.HeadSteps.{added_by, ends_by, ends_in, head_coded, head_shown, kept_next, put_fits, put_unfit, shows_slot, starved}
use Rattle.job_results.specs.numbered_frames.Films.{Film}

---- What is shown ----

-- the code shows what the definition does
abbrev pub IsSame : Format → Film → Option ShownFrame → Option Picture → Type 0
IsSame format film None None = Unit {0}
IsSame format film None (Some picture) = ⊥
IsSame format film (Some s) None = ⊥
IsSame format film (Some s) (Some picture) = (s.shape ≡ picture.shape) × (pictures format film s.frame ≡ record { shape = picture.shape; map = picture.map }) × IsReadFrame format film s.frame

same_admits : (format : Format) (film : Film) (form : OutputForm) (shown : Option ShownFrame) (picture : Option Picture) → IsSame format film shown picture → admits_it form shown ≡ admits form picture
same_admits format film form None None h = refl
same_admits format film form None (Some picture) h = absurd h
same_admits format film form (Some s) None h = absurd h
same_admits format film form (Some s) (Some picture) h = ap (λ (x : Shape). admits form (Some (record picture { shape = x }))) h.0

same_form : (format : Format) (film : Film) (form : OutputForm) (shown : Option ShownFrame) (picture : Option Picture) → IsSame format film shown picture → form_behind form shown ≡ form_after form picture
same_form format film form None None h = refl
same_form format film form None (Some picture) h = absurd h
same_form format film form (Some s) None h = absurd h
same_form format film form (Some s) (Some picture) h = ap (λ (x : Shape). form_after form (Some (record picture { shape = x }))) h.0

same_text : (format : Format) (film : Film) (k : ClosedFrame) (form : OutputForm) (shown : Option ShownFrame) (picture : Option Picture) → k.form ≡ form → IsSame format film shown picture
    → shown_text form picture ≡ text_shown format film k shown
same_text format film k form None None is h = refl
same_text format film k form None (Some picture) is h = absurd h
same_text format film k form (Some s) None is h = absurd h
same_text format film k form (Some s) (Some picture) is h =
    λ i. output_text (sym is i).format (sym is i).rate (is_first (sym is i).first) (sym h.0 i) (sym h.1 i).map

same_shown : (format : Format) (film : Film) (shown : Option ShownFrame) (picture : Option Picture) → IsSame format film shown picture → IsShown format film shown
same_shown format film None picture h = tt
same_shown format film (Some s) None h = absurd h
same_shown format film (Some s) (Some picture) h = (h.2, h.0 ∙ ap (λ (x : Shown). x.shape) (sym h.1))

---- A step that is put, or isn't ----

stands_with : (k : Kept) (form : OutputForm) (s : State) → StandsFor k s → StandsFor (with_form k form) s
stands_with k form s h = record { persist = h.persist; contexts = h.contexts; slots = h.slots; segments = h.segments; last = h.last }

may_with : (k : Kept) (form : OutputForm) → MayFollow k → MayFollow (with_form k form)
may_with k form h = record { sized = h.sized; places = h.places }

-- it steps to this, which the code shows
pub record StepsTo (format : Format) (film : Film) (f : ℕ) (p : Putting) (shown : Option ShownFrame) (stepped : Stepped) : Type 0 where
  pub reached : before format film f ≡ Some p
  pub frame : List ℕ
  pub there : frame_at film f ≡ Some frame
  pub steps : step f p.state frame ≡ Ok stepped
  pub same : IsSame format film shown stepped.shown
  pub named : IsNamed format film f shown

closes : (format : Format) (film : Film) (f : ℕ) (p : Putting) (stepped : Stepped) (k : Kept) (columns rows : ℕ) (reads : RowReads) (shown : Option ShownFrame) → StepsTo format film f p shown stepped → k.form ≡ p.form
    → admits_it p.form shown ≡ true → StandsFor k stepped.state → MayFollow k → IsBuiltAs (coded format film f) (closed_by k columns rows reads shown)
    → HasReads (coded format film f) (closed_by k columns rows reads shown) → IsClosedAs format film f (closed_by k columns rows reads shown)
closes format film f p stepped k columns rows reads shown h form fits stands may built kept =
    let added = put_fits p.form (step f p.state h.frame) stepped h.steps (sym (same_admits format film p.form shown stepped.shown h.same) ∙ fits) in
    record {
      next = record { state = stepped.state; form = form_after p.form stepped.shown };
      reached = kept_next format film f p h.frame (added_by p.form stepped) h.reached h.there added;
      stands = stands_with k (form_behind k.form shown) stepped.state stands;
      form = ap (λ (x : OutputForm). form_behind x shown) form ∙ same_form format film p.form shown stepped.shown h.same;
      may = may_with k (form_behind k.form shown) may;
      built = built;
      reads = kept;
      shown = same_shown format film shown stepped.shown h.same;
      named = h.named;
      puts = text_is format film f p h.frame (Ok (added_by p.form stepped)) h.reached h.there added ∙ same_text format film (closed_by k columns rows reads shown) p.form shown stepped.shown form h.same;
    }

unfit : (format : Format) (film : Film) (f : ℕ) (p : Putting) (stepped : Stepped) (shown : Option ShownFrame) → StepsTo format film f p shown stepped → admits_it p.form shown ≡ false
    → IsEnd format film f (outcome_at f OutputShape)
unfit format film f p stepped shown h unfits =
    ends_by format film f p h.frame OutputShape h.reached h.there
    (put_unfit p.form (step f p.state h.frame) stepped h.steps (sym (same_admits format film p.form shown stepped.shown h.same) ∙ unfits))

-- what is made of it
pub is_close : (format : Format) (film : Film) (f : ℕ) (k : Kept) (columns rows : ℕ) (reads : RowReads) (shown : Option ShownFrame) (x : JobResult) → IsClosing k columns rows reads shown x
    → IsClosedAs format film f (closed_by k columns rows reads shown) → IsClose format film f x
is_close format film f k columns rows reads shown (result.Closed b) is h = subst (IsClosedAs format film f) (sym is) h
is_close format film f k columns rows reads shown (result.Ended o) is h = subst (IsEnd format film f) (sym is) (starved format film f)
is_close format film f k columns rows reads shown (result.Begun b) is h = absurd is
is_close format film f k columns rows reads shown (result.Existing slot) is h = absurd is
is_close format film f k columns rows reads shown (result.Column r) is h = absurd is
is_close format film f k columns rows reads shown (result.Strip planes) is h = absurd is
is_close format film f k columns rows reads shown (result.Filtered planes) is h = absurd is
is_close format film f k columns rows reads shown result.Starved is h = absurd is
is_close format film f k columns rows reads shown result.Written is h = absurd is
is_close format film f k columns rows reads shown (result.Refused fault) is h = absurd is

---- A frame that shows a slot ----

at_mapped : {A B : Type 0} (f : Option A → Option B) → f None ≡ None → (xs : List (Option A)) (n : ℕ) → get_or (map f xs) n None ≡ f (get_or xs n None)
at_mapped f none [] n = sym none
at_mapped f none (x ∷ xs) zero = refl
at_mapped f none (x ∷ xs) (suc n) = at_mapped f none xs n

all_at : {A : Type 0} (P : Option A → Type 0) (xs : List (Option A)) (n : ℕ) → P None → All P xs → P (get_or xs n None)
all_at P [] n none all = none
all_at P (x ∷ xs) zero none all = all 0 x (omega arith)
all_at P (x ∷ xs) (suc n) none all = all_at P xs n none (λ k d low. all (suc k) d (omega (arith, low)))

slot_same : (format : Format) (film : Film) (f : ℕ) (held : Option Picture) → IfSome held (IsFrameBefore format film f) → IsSame format film (held_in (number_in held) (shape_in_slot held)) held
slot_same format film f None h = tt
slot_same format film f (Some picture) h = (
  refl,
  picture_there format film picture.frame h.frame h.read h.is h.reads ∙ ap (λ (x : Picture). record { shape = x.shape; map = x.map }) (sym h.same),
  (h.frame, h.is, (h.read, h.reads)),
)

-- what is kept tells what the slot holds
slot_told : (k : Kept) (s : State) (slot : ℕ) → StandsFor k s
    → held_in (get_or k.slots slot None) (get_or k.persist.slots slot None) ≡ held_in (number_in (get_or s.slots slot None)) (shape_in_slot (get_or s.slots slot None))
slot_told k s slot h =
    let number = ap (λ (xs : List (Option ℕ)). get_or xs slot None) h.slots ∙ at_mapped number_in refl s.slots slot in
    let shape = ap (λ (x : Persist). get_or x.slots slot None) h.persist ∙ at_mapped shape_in_slot refl s.slots slot in
    λ i. held_in (number i) (shape i)

same_kept : (format : Format) (film : Film) (f : ℕ) (p q : Putting) → before format film f ≡ Some p → before format film f ≡ Some q → p ≡ q
same_kept format film f p q one other = let both : Some p ≡ Some q = sym one ∙ other in cc

slot_named : (format : Format) (film : Film) (f : ℕ) (p : Putting) (slot : ℕ) (held : Option Picture) → before format film f ≡ Some p → get_or p.state.slots slot None ≡ held
    → IsNamed format film f (held_in (number_in held) (shape_in_slot held))
slot_named format film f p slot None from is = tt
slot_named format film f p slot (Some picture) from is =
    inr (subst (λ (o : Option Putting). Contains (slots_of o) picture.frame) (sym from) (slot_in p.state.slots slot picture is))

slot_steps : (format : Format) (film : Film) (f slot : ℕ) (k : Kept) (shown : Option ShownFrame) (b : IsKeptBefore format film f k) → ShowsSlot format film f slot
    → shown ≡ held_in (get_or k.slots slot None) (get_or k.persist.slots slot None) → StepsTo format film f b.kept shown (shows_slot b.kept.state slot)
slot_steps format film f slot k shown b h is =
    let same = same_kept format film f h.kept b.kept h.reached b.reached in
    let held = all_at (λ x. IfSome x (IsFrameBefore format film f)) b.kept.state.slots slot tt (slots_hold format film f b.kept b.reached) in
    record {
      reached = b.reached;
      frame = h.frame;
      there = h.there;
      steps = head_shown f b.kept.state h.frame slot (ap (λ (q : Putting). head_of (persist_of q.state) h.frame) (sym same) ∙ h.head);
      same = subst (λ (x : Option ShownFrame). IsSame format film x (get_or b.kept.state.slots slot None)) (sym (is ∙ slot_told k b.kept.state slot b.stands))
          (slot_same format film f (get_or b.kept.state.slots slot None) held);
      named = subst (λ (x : Option ShownFrame). IsNamed format film f x) (sym (is ∙ slot_told k b.kept.state slot b.stands))
          (slot_named format film f b.kept slot (get_or b.kept.state.slots slot None) b.reached refl);
    }

pub slot_closes : (format : Format) (film : Film) (f slot : ℕ) (k next : Kept) (reads : RowReads) (shown : Option ShownFrame) (x : JobResult) → IsKeptBefore format film f k → ShowsSlot format film f slot
    → shown ≡ held_in (get_or k.slots slot None) (get_or k.persist.slots slot None) → admits_it k.form shown ≡ true
    → ((s : State) → StandsFor k s → StandsFor next s) → next.form ≡ k.form → (MayFollow k → MayFollow next) → IsClosing next 0 0 reads shown x → IsClose format film f x
slot_closes format film f slot k next reads shown x b h is fits stands form may closing =
    let none = not_coded format film f h.kept h.frame slot h.reached h.there h.head in
    is_close format film f next 0 0 reads shown x closing
    (closes format film f b.kept (shows_slot b.kept.state slot) next 0 0 reads shown (slot_steps format film f slot k shown b h is) (form ∙ b.form)
    (ap (λ (o : OutputForm). admits_it o shown) (sym b.form) ∙ fits) (stands b.kept.state b.stands) (may b.may)
    (subst (λ (o : Option CodedFrame). IsBuiltAs o (closed_by next 0 0 reads shown)) (sym none) (refl, refl))
    (λ column row across low. absurd (omega (arith, across))))

pub slot_unfit : (format : Format) (film : Film) (f slot : ℕ) (k : Kept) (shown : Option ShownFrame) → IsKeptBefore format film f k → ShowsSlot format film f slot
    → shown ≡ held_in (get_or k.slots slot None) (get_or k.persist.slots slot None) → admits_it k.form shown ≡ false → IsEnd format film f (outcome_at f OutputShape)
slot_unfit format film f slot k shown b h is unfits =
    unfit format film f b.kept (shows_slot b.kept.state slot) shown (slot_steps format film f slot k shown b h is) (ap (λ (o : OutputForm). admits_it o shown) (sym b.form) ∙ unfits)

---- A coded frame ----

reads_so : (c : CodedFrame) (b : BegunFrame) (r : Result FrameRead Rule) → IsBegunAs c b → read_all_tiles (sources_by b) b.bytes.now b.compressed ≡ r → read_of c ≡ r
reads_so c b r h is = (λ i. read_all_tiles (sym h.sources i) (sym h.bytes i) (sym h.compressed i)) ∙ is

pub coded_ends : (format : Format) (film : Film) (f : ℕ) (b : BegunFrame) (e : Halt) → IsBegunFrame format film f b → GivesDecoded b (Err e) → IsEnd format film f (halt_outcome f e)
coded_ends format film f b (halt.Broken rule) h gives =
    let c = h.0 in
    let from = is_from format film f c h.1 in
    let to = decoded_to format film f c (Err rule) from (reads_so c b (Err rule) h.2 gives) in
    ends_in format film f c.kept c.bytes rule from.reached from.there (head_coded f c.kept.state c.bytes c.header c.compressed from.head ∙ ap (after_coded f c.kept.state c.header) to)
coded_ends format film f b halt.OutOfMemory h gives = starved format film f

abbrev coded_step : ℕ → CodedFrame → FrameRead → Stepped
coded_step f c read = record { state = state_after f c.kept.state c.header (result_of c read); shown = shown_picture f c.header (result_of c read) }

same_if : (format : Format) (film : Film) (show : Bool) (s : ShownFrame) (picture : Picture) → s.shape ≡ picture.shape → pictures format film s.frame ≡ record { shape = picture.shape; map = picture.map } → IsReadFrame format film s.frame
    → IsSame format film (if show then Some s else None) (if show then Some picture else None)
same_if format film true s picture shape is read = (shape, is, read)
same_if format film false s picture shape is read = tt

named_if : (format : Format) (film : Film) (f : ℕ) (show : Bool) (s : ShownFrame) → s.frame ≡ f → IsNamed format film f (if show then Some s else None)
named_if format film f true s is = inl is
named_if format film f false s is = tt

coded_steps : (format : Format) (film : Film) (f : ℕ) (c : CodedFrame) (read : FrameRead) → coded format film f ≡ Some c → read_of c ≡ Ok read
    → StepsTo format film f c.kept (shown_by f c.header) (coded_step f c read)
coded_steps format film f c read is reads =
    let from = is_from format film f c is in
    record {
      reached = from.reached;
      frame = c.bytes;
      there = from.there;
      steps = head_coded f c.kept.state c.bytes c.header c.compressed from.head ∙ ap (after_coded f c.kept.state c.header) (decoded_to format film f c (Ok read) from reads);
      same = same_if format film c.header.show_frame (record { frame = f; shape = shape_of c.header }) (picture_of f c.header (result_of c read)) refl (picture_there format film f c read is reads) (c, is, (read, reads));
      named = named_if format film f c.header.show_frame (record { frame = f; shape = shape_of c.header }) refl;
    }

-- what the code shows of it, by what has begun
coded_told : (format : Format) (film : Film) (f : ℕ) (b : BegunFrame) (c : CodedFrame) (shown : Option ShownFrame) (read : FrameRead) → coded format film f ≡ Some c → IsBegunAs c b
    → read_all_tiles (sources_by b) b.bytes.now b.compressed ≡ Ok read → shown ≡ shown_by f b.setting.header → StepsTo format film f c.kept shown (coded_step f c read)
coded_told format film f b c shown read is h reads shows =
    subst (λ (x : Option ShownFrame). StepsTo format film f c.kept x (coded_step f c read)) (sym (shows ∙ ap (shown_by f) h.header)) (coded_steps format film f c read is (reads_so c b (Ok read) h reads))

form_in : (format : Format) (film : Film) (f : ℕ) (c : CodedFrame) (k : Kept) → coded format film f ≡ Some c → IsKeptBefore format film f k → k.form ≡ c.kept.form
form_in format film f c k is b = b.form ∙ ap (λ (q : Putting). q.form) (same_kept format film f b.kept c.kept b.reached (is_from format film f c is).reached)

stands_in : (format : Format) (film : Film) (f : ℕ) (c : CodedFrame) (k : Kept) → coded format film f ≡ Some c → IsKeptBefore format film f k → StandsFor k c.kept.state
stands_in format film f c k is b = subst (λ (q : Putting). StandsFor k q.state) (same_kept format film f b.kept c.kept b.reached (is_from format film f c is).reached) b.stands

pub coded_unfit : (format : Format) (film : Film) (f : ℕ) (b : BegunFrame) (k : Kept) (d : Decoded) (shown : Option ShownFrame) → IsBegunFrame format film f b → IsKeptBefore format film f k → GivesDecoded b (Ok d)
    → shown ≡ shown_by f b.setting.header → admits_it k.form shown ≡ false → IsEnd format film f (outcome_at f OutputShape)
coded_unfit format film f b k d shown h kept gives shows unfits =
    let c = h.0 in
    unfit format film f c.kept (coded_step f c gives.0) shown (coded_told format film f b c shown gives.0 h.1 h.2 gives.1 shows)
    (ap (λ (o : OutputForm). admits_it o shown) (sym (form_in format film f c k h.1 kept)) ∙ unfits)

leaves : (c : CodedFrame) (b : BegunFrame) (d : Decoded) (read : FrameRead) → IsBegunAs c b → IsDecoded b read d → Leaves b.setting.header d (result_of c read)
leaves c b d read h is = record { contexts = is.contexts ∙ ap (λ (by : FrameSources). by.contexts) h.sources; blocks = is.blocks; counts = is.counts }

-- what is kept behind a frame stands for what it leaves
abbrev pub Keeps : ℕ → Kept → BegunFrame → Decoded → Kept → Type 0
Keeps f k b d next = (s : State) (r : FrameResult) → StandsFor k s → BeginsIn s b → Leaves b.setting.header d r → StandsFor next (state_after f s b.setting.header r)

coded_built : (format : Format) (film : Film) (f : ℕ) (c : CodedFrame) (b : BegunFrame) (k : ClosedFrame) (read : FrameRead) → coded format film f ≡ Some c → IsBegunAs c b → read_of c ≡ Ok read
    → k.columns ≡ 2 ^ b.setting.header.params.tiles.columns_log2 → k.rows ≡ superblocks_along (mi_rows (shape_of b.setting.header)) → IsBuiltAs (coded format film f) k
coded_built format film f c b k read is h reads columns rows =
    let wide = columns ∙ ap (λ (x : Header). 2 ^ x.params.tiles.columns_log2) h.header in
    let high = rows ∙ ap (λ (x : Header). superblocks_along (mi_rows (shape_of x))) h.header in
    subst (λ (o : Option CodedFrame). IsBuiltAs o k) (sym is) (wide, high, (read, reads))

pub coded_closes : (format : Format) (film : Film) (f columns rows : ℕ) (reads : RowReads) (b : BegunFrame) (k next : Kept) (d : Decoded) (shown : Option ShownFrame) (x : JobResult) → IsBegunFrame format film f b
    → IsKeptBefore format film f k → GivesDecoded b (Ok d) → shown ≡ shown_by f b.setting.header → admits_it k.form shown ≡ true → Keeps f k b d next → next.form ≡ k.form → MayFollow next
    → columns ≡ 2 ^ b.setting.header.params.tiles.columns_log2 → rows ≡ superblocks_along (mi_rows (shape_of b.setting.header)) → AreReads b k.slots reads → IsClosing next columns rows reads shown x → IsClose format film f x
coded_closes format film f columns rows reads b k next d shown x h kept gives shows fits keeps form may wide high has closing =
    let c = h.0 in
    let read = gives.0 in
    let stands = keeps c.kept.state (result_of c read) (stands_in format film f c k h.1 kept) h.2.begins (leaves c b d read h.2 gives.2) in
    let same = form_in format film f c k h.1 kept in
    is_close format film f next columns rows reads shown x closing
    (closes format film f c.kept (coded_step f c read) next columns rows reads shown (coded_told format film f b c shown read h.1 h.2 gives.1 shows) (form ∙ same)
    (ap (λ (o : OutputForm). admits_it o shown) (sym same) ∙ fits)
    (subst (λ (hd : Header). StandsFor next (state_after f c.kept.state hd (result_of c read))) h.2.header stands) may
    (coded_built format film f c b (closed_by next columns rows reads shown) read h.1 h.2 (reads_so c b (Ok read) h.2 gives.1) wide high)
    (has_reads format film f b k.slots (closed_by next columns rows reads shown) h (stands_in format film f c k h.1 kept).slots has wide high))
