-- What a frame comes to, by its head.
use Rattle.std.proofs.Common.{◌≡◌, ◌∙◌, ℕ, suc, List, ap, sym, subst, refl, inl, inr}
use Rattle.std.specs.Prelude.{Some, None, Result, Ok, Err, true, false, get_or, if◌then◌else◌}
use Rattle.vp9_types.specs.declared.job.Span.{Span}
use Rattle.vp9_types.specs.declared.outcome.Outcome.{Outcome}
use Rattle.vp9_types.specs.declared.outcome.Outcome.TheVariants as outcome
use Rattle.vp9_types.specs.declared.rule.Rule.{Rule}
use Rattle.vp9_types.specs.declared.rule.Rule.TheVariants.{OutputShape}
use Rattle.file_frames.specs.Walks.{Added}
use Rattle.frame_headers.specs.Header.{head_of}
use Rattle.frame_headers.specs.declared.header.FrameHead.{FrameHead}
use Rattle.frame_headers.specs.declared.header.FrameHead.TheVariants as head
use Rattle.frame_headers.specs.declared.header.Header.{Header}
use Rattle.frame_output.specs.declared.rendering.Format.{Format}
use Rattle.job_results.specs.frame_state.declared.halt.Halt.{Halt}
use Rattle.job_results.specs.frame_state.declared.halt.Halt.TheVariants as halt
use Rattle.job_results.specs.frame_steps.StepResults.{GivesBegun}
use Rattle.job_results.specs.frame_steps.Kept.{MayFollow, StandsFor}
use Rattle.job_results.specs.frame_steps.declared.kept.Kept.{Kept}
use Rattle.job_results.specs.seq_decoder.After.{Stepped, after_coded, behind_head, decoded_in, step}
use Rattle.job_results.specs.seq_decoder.Code.{halt_outcome}
use Rattle.job_results.specs.seq_decoder.Outcomes.{outcome_at}
use Rattle.job_results.specs.seq_decoder.Outputs.{Putting, admits, form_after, form_from, put, shown_text}
use Rattle.job_results.specs.seq_decoder.DecoderState.{State, persist_of, start_state}
use Rattle.job_results.specs.seq_decoder.declared.form.OutputForm.{OutputForm}
use Rattle.job_results.specs.numbered_frames.FrameNumbers.{EndsAt, before, kept_after, after_frame, file_ending, frame_at, put_frame, start}
use Rattle.job_results.specs.Lent.{IsKeptBefore}
use Rattle.job_results.specs.JobResults.{IsClosedAs, IsEnd, ShowsSlot, outcome_of}
use Rattle.job_results.specs.declared.result.ClosedFrame.{ClosedFrame}
use Rattle.job_results.specs.numbered_frames.Films.{Film}

---- A step, by what is read of the head ----

pub head_broken : (f : ℕ) (state : State) (frame : List ℕ) (rule : Rule) → head_of (persist_of state) frame ≡ Err rule → step f state frame ≡ Err rule
unfolding step
head_broken f state frame rule is = ap (behind_head f state frame) is

pub head_coded : (f : ℕ) (state : State) (frame : List ℕ) (header : Header) (compressed : Span) → head_of (persist_of state) frame ≡ Ok (head.Coded header compressed)
    → step f state frame ≡ after_coded f state header (decoded_in state frame header compressed)
unfolding step
head_coded f state frame header compressed is = ap (behind_head f state frame) is

abbrev pub shows_slot : State → ℕ → Stepped
shows_slot state slot = record { state = state; shown = get_or state.slots slot None }

pub head_shown : (f : ℕ) (state : State) (frame : List ℕ) (slot : ℕ) → head_of (persist_of state) frame ≡ Ok (head.ShowExisting slot) → step f state frame ≡ Ok (shows_slot state slot)
unfolding step
head_shown f state frame slot is = ap (behind_head f state frame) is

---- What is put of it ----

abbrev pub added_by : OutputForm → Stepped → Added Putting ℕ
added_by form stepped = record { state = record { state = stepped.state; form = form_after form stepped.shown }; adds = shown_text form stepped.shown }

pub put_fits : (form : OutputForm) (r : Result Stepped Rule) (stepped : Stepped) → r ≡ Ok stepped → admits form stepped.shown ≡ true → put form r ≡ Ok (added_by form stepped)
put_fits form r stepped is fits = ap (put form) is ∙ ap (λ b. if b then Ok (added_by form stepped) else Err OutputShape) fits

pub put_unfit : (form : OutputForm) (r : Result Stepped Rule) (stepped : Stepped) → r ≡ Ok stepped → admits form stepped.shown ≡ false → put form r ≡ Err OutputShape
put_unfit form r stepped is unfit = ap (put form) is ∙ ap (λ b. if b then Ok (added_by form stepped) else Err OutputShape) unfit

pub kept_next : (format : Format) (film : Film) (f : ℕ) (p : Putting) (frame : List ℕ) (added : Added Putting ℕ) → before format film f ≡ Some p → frame_at film f ≡ Some frame
    → put_frame f p frame ≡ Ok added → before format film (suc f) ≡ Some added.state
unfolding before
kept_next format film f p frame added from there is =
    ap (λ o. after_frame f o (frame_at film f)) from ∙ ap (after_frame f (Some p)) there ∙ ap kept_after is

---- Ends ----

pub starved : (format : Format) (film : Film) (f : ℕ) → IsEnd format film f outcome.OutOfMemory
starved format film f = inl refl

pub ends_by : (format : Format) (film : Film) (f : ℕ) (p : Putting) (frame : List ℕ) (rule : Rule) → before format film f ≡ Some p → frame_at film f ≡ Some frame → put_frame f p frame ≡ Err rule
    → IsEnd format film f (outcome_at f rule)
ends_by format film f p frame rule from there is =
    let at : EndsAt format film f (Some (f, rule)) = record { kept = p; reached = from; ends = inr (frame, rule, there, is, refl) } in
    inr (Some (f, rule), at, refl)

pub ends_in : (format : Format) (film : Film) (f : ℕ) (p : Putting) (frame : List ℕ) (rule : Rule) → before format film f ≡ Some p → frame_at film f ≡ Some frame → step f p.state frame ≡ Err rule
    → IsEnd format film f (outcome_at f rule)
ends_in format film f p frame rule from there is = ends_by format film f p frame rule from there (ap (put p.form) is)

pub ends_behind : (format : Format) (film : Film) (f : ℕ) (k : Kept) (o : Outcome) → IsKeptBefore format film f k → frame_at film f ≡ None → o ≡ outcome_of (file_ending f film.ending)
    → IsEnd format film f o
ends_behind format film f k o h none is =
    let ending = file_ending f film.ending in
    let at : EndsAt format film f ending = record { kept = h.kept; reached = h.reached; ends = inl (none, refl) } in
    inr (ending, at, is)

-- what is read of the head, by what is kept
pub read_by : (format : Format) (film : Film) (f : ℕ) (k : Kept) (frame : List ℕ) (r : Result FrameHead Rule) (h : IsKeptBefore format film f k) → r ≡ head_of k.persist frame
    → head_of (persist_of h.kept.state) frame ≡ r
read_by format film f k frame r h is = ap (λ p. head_of p frame) (sym h.stands.persist) ∙ sym is

pub head_ends : (format : Format) (film : Film) (f : ℕ) (k : Kept) (frame : List ℕ) (rule : Rule) → IsKeptBefore format film f k → frame_at film f ≡ Some frame → Err rule ≡ head_of k.persist frame
    → IsEnd format film f (outcome_at f rule)
head_ends format film f k frame rule h there is =
    ends_in format film f h.kept frame rule h.reached there (head_broken f h.kept.state frame rule (read_by format film f k frame (Err rule) h is))

pub head_shows : (format : Format) (film : Film) (f : ℕ) (k : Kept) (frame : List ℕ) (slot : ℕ) → IsKeptBefore format film f k → frame_at film f ≡ Some frame
    → Ok (head.ShowExisting slot) ≡ head_of k.persist frame → ShowsSlot format film f slot
head_shows format film f k frame slot h there is =
    record { kept = h.kept; reached = h.reached; frame = frame; there = there; head = read_by format film f k frame (Ok (head.ShowExisting slot)) h is }

-- a coded frame that can't begin
pub begin_ends : (format : Format) (film : Film) (f : ℕ) (k : Kept) (frame : List ℕ) (header : Header) (compressed : Span) (e : Halt) (h : IsKeptBefore format film f k) → frame_at film f ≡ Some frame
    → head_of k.persist frame ≡ Ok (head.Coded header compressed) → GivesBegun h.kept.state frame header compressed (Err e) → IsEnd format film f (halt_outcome f e)
begin_ends format film f k frame header compressed (halt.Broken rule) h there is gives =
    ends_in format film f h.kept frame rule h.reached there
    (head_coded f h.kept.state frame header compressed (read_by format film f k frame (Ok (head.Coded header compressed)) h (sym is)) ∙ ap (after_coded f h.kept.state header) gives)
begin_ends format film f k frame header compressed halt.OutOfMemory h there is gives = starved format film f

---- What is kept before a frame ----

pub kept_behind : (format : Format) (film : Film) (g f : ℕ) (k : ClosedFrame) → f ≡ suc g → IsClosedAs format film g k → IsKeptBefore format film f k.kept
kept_behind format film g f k is h =
    let at : IsKeptBefore format film (suc g) k.kept = record { kept = h.next; reached = h.reached; stands = h.stands; form = h.form; may = h.may } in
    subst (λ n. IsKeptBefore format film n k.kept) (sym is) at

pub form_again : (format : Format) (rate : ℕ × ℕ) (form : OutputForm) → form ≡ form_from format rate → form_from form.format form.rate ≡ form_from format rate
form_again format rate form is = ap (λ (x : OutputForm). form_from x.format x.rate) is

pub kept_first : (format : Format) (film : Film) (form : OutputForm) (k : Kept) → form ≡ form_from format film.rate → StandsFor k start_state → k.form ≡ form_from form.format form.rate → MayFollow k
    → IsKeptBefore format film 0 k
unfolding before
kept_first format film form k is stands same may =
    record { kept = start format film; reached = refl; stands = stands; form = same ∙ form_again format film.rate form is; may = may }
