-- The output so far, and how a decode ends.
use Rattle.std.proofs.Common.{◌≡◌, ℕ, ◌+◌, ◌<◌, List, [], ◌∷◌, ◌++◌, ap, sym, subst, refl, ◌∙◌}
use Rattle.std.specs.Prelude.{true, Option, Some, None, Result, Ok, Err, if◌then◌else◌}
use Rattle.std.proofs.lemmas.List.{append-nil}
use Rattle.edge_io.specs.Putting.{Takes, TakesFront}
use Rattle.edge_io.proofs.Fronts.{takes_both, front_of}
use Rattle.vp9_types.specs.declared.rule.Rule.{Rule}
use Rattle.vp9_types.specs.declared.rule.Rule.TheVariants.{OutputShape}
use Rattle.vp9_types.specs.declared.outcome.Outcome.{Outcome}
use Rattle.vp9_types.specs.declared.outcome.Outcome.TheVariants as outcome
use Rattle.vp9_types.specs.declared.outcome.Stop.{Stop}
use Rattle.file_frames.specs.Code.{Ahead, walk_ahead, IsOnWay}
use Rattle.file_frames.specs.Containers.{rate_of_file}
use Rattle.file_frames.specs.FileFrames.{frames_of_file}
use Rattle.file_frames.specs.Walks.{Added, walk}
use Rattle.file_frames.proofs.Walks.{goes_by, ends_at, arrives, breaks}
use Rattle.frame_output.specs.declared.rendering.Format.{Format}
use Rattle.seq_decoder.specs.After.{Stepped, step}
use Rattle.seq_decoder.specs.Code.{put_text, Breaks, Halts}
use Rattle.seq_decoder.specs.Outcomes.{Completes, WritesFront, Decodes}
use Rattle.seq_decoder.specs.Outputs.{Putting, admits, form_after, form_from, output_of, put, putting, shown_text}
use Rattle.seq_decoder.specs.DecoderState.{State}
use Rattle.seq_decoder.specs.declared.form.OutputForm.{OutputForm}

-- the form of a file's output, before its first frame
abbrev pub form_for : Format → List ℕ → OutputForm
form_for format bytes = form_from format (rate_of_file bytes)

-- These bytes were written, and this state, form and frames are left.
pub record HasWritten (format : Format) (bytes : List ℕ) (p : Putting) (a : Ahead) (old new : Option (List ℕ)) (faults now : ℕ) : Type 0 where
  pub text : List ℕ
  pub way : IsOnWay (putting (form_for format bytes)) bytes text p a
  pub takes : Takes old new text
  pub quiet : now ≡ faults

-- the next frame, as the cursor gives it
abbrev pub IsFrame : Ahead → ℕ → List ℕ → Ahead → Type 0
IsFrame a number frame next = (a ≡ record { number = number; frames = frame ∷ next.frames; ending = next.ending }) × (next.number ≡ number + 1)

abbrev state_with : State → OutputForm → Putting
state_with state form = record { state = state; form = form }

abbrev added_by : OutputForm → Stepped → Added Putting ℕ
added_by form next = record { state = state_with next.state (form_after form next.shown); adds = shown_text form next.shown }

put_when : (form : OutputForm) (next : Stepped) → admits form next.shown ≡ true → put form (Ok next) ≡ Ok (added_by form next)
put_when form next fits = ap (λ b. if b then Ok (added_by form next) else Err OutputShape) fits

pub put_is : (form : OutputForm) (r : Result Stepped Rule) (next : Stepped) → r ≡ Ok next → admits form next.shown ≡ true → put form r ≡ Ok (added_by form next)
put_is form r next is fits = ap (put form) is ∙ put_when form next fits

-- one frame more
pub frame_written : (format : Format) (bytes frame : List ℕ) (number : ℕ) (state : State) (form after : OutputForm) (a rest : Ahead) (next : Stepped) (old mid new : Option (List ℕ)) (faults met now : ℕ)
    → IsFrame a number frame rest → HasWritten format bytes (state_with state form) a old mid faults met → step number state frame ≡ Ok next → admits form next.shown ≡ true → after ≡ form_after form next.shown
    → Takes mid new (shown_text form next.shown) → now ≡ met
    → HasWritten format bytes (state_with next.state after) rest old new faults now
frame_written format bytes frame number state form after a rest next old mid new faults met now is h stepped fits form_is takes quiet = record {
  text = h.text ++ shown_text form next.shown;
  way = subst (λ f. IsOnWay (putting (form_for format bytes)) bytes (h.text ++ shown_text form next.shown) (state_with next.state f) rest) (sym form_is)
      (goes_by (putting (form_for format bytes)) bytes h.text (state_with state form) a rest number frame (added_by form next) h.way is (put_is form (step number state frame) next stepped fits));
  takes = takes_both old mid new h.text (shown_text form next.shown) h.takes takes;
  quiet = quiet ∙ h.quiet;
}

completes : (format : Format) (bytes text : List ℕ) (ending : Option (ℕ × Rule)) (old new : Option (List ℕ)) (faults now : ℕ)
    → walk (putting (form_for format bytes)) (frames_of_file bytes) ≡ record { adds = text; ending = ending } → Takes old new text → now ≡ faults
    → Completes (output_of format bytes) old new faults now ending
unfolding output_of
completes format bytes text ending old new faults now is takes quiet = record {
  ends = ap (λ w. w.ending) is;
  writes = subst (λ w. Takes old new w) (sym (ap (λ w. w.adds) is)) takes;
  quiet = quiet;
}

-- at the end of the file
pub run_done : (format : Format) (bytes : List ℕ) (p : Putting) (a : Ahead) (old new : Option (List ℕ)) (faults now : ℕ) → a ≡ record { number = a.number; frames = []; ending = None }
    → HasWritten format bytes p a old new faults now → Decodes (output_of format bytes) old new faults now outcome.Done
run_done format bytes p a old new faults now is h =
    completes format bytes h.text None old new faults now (arrives (putting (form_for format bytes)) bytes h.text p a a.number h.way is) h.takes h.quiet

-- at a rule of the container
pub run_broken : (format : Format) (bytes : List ℕ) (p : Putting) (a : Ahead) (stop : Stop) (old new : Option (List ℕ)) (faults now : ℕ) → a ≡ record { number = stop.frame; frames = []; ending = Some stop.rule }
    → HasWritten format bytes p a old new faults now → Decodes (output_of format bytes) old new faults now (outcome.Broken stop)
run_broken format bytes p a stop old new faults now is h =
    completes format bytes h.text (Some (stop.frame, stop.rule)) old new faults now (breaks (putting (form_for format bytes)) bytes h.text p a stop.frame stop.rule h.way is) h.takes h.quiet

rule_in_run : (format : Format) (bytes frame : List ℕ) (number : ℕ) (p : Putting) (a rest : Ahead) (old mid new : Option (List ℕ)) (faults met now : ℕ) (at : ℕ) (rule : Rule)
    → IsFrame a number frame rest → HasWritten format bytes p a old mid faults met → Breaks number (put p.form (step number p.state frame)) mid new met now at rule
    → Completes (output_of format bytes) old new faults now (Some (at, rule))
rule_in_run format bytes frame number p a rest old mid new faults met now at rule is h f =
    completes format bytes h.text (Some (at, rule)) old new faults now
    (ends_at (putting (form_for format bytes)) bytes h.text p a rest number frame rule h.way is f.ends ∙ ap (λ n. record { adds = h.text; ending = Some (n, rule) }) (sym f.frame))
    (subst (Takes old new) (append-nil h.text) (takes_both old mid new h.text [] h.takes f.none))
    (f.quiet ∙ h.quiet)

front_of_run : (format : Format) (bytes text done more : List ℕ) (old mid new : Option (List ℕ)) → (output_of format bytes).adds ≡ done ++ text ++ more
    → Takes old mid done → TakesFront mid new text → WritesFront (output_of format bytes) old new
front_of_run format bytes text done more old mid new is takes front =
    let f = front_of old mid new (output_of format bytes).adds done text more is takes front in
    (f.0, f.2)

-- where a front of the frame's text was taken, a front of the output was
front_in_run : (format : Format) (bytes frame : List ℕ) (number : ℕ) (p : Putting) (a rest : Ahead) (old mid new : Option (List ℕ)) (faults met : ℕ) (r : Result (Added Putting ℕ) Rule)
    → IsFrame a number frame rest → HasWritten format bytes p a old mid faults met → put p.form (step number p.state frame) ≡ r → TakesFront mid new (put_text r)
    → WritesFront (output_of format bytes) old new
unfolding output_of
front_in_run format bytes frame number p a rest old mid new faults met (Ok added) is h stepped front =
    let more = walk_ahead (putting (form_for format bytes)) added.state rest in
    let way = goes_by (putting (form_for format bytes)) bytes h.text p a rest number frame added h.way is stepped in
    front_of_run format bytes added.adds h.text more.adds old mid new (ap (λ w. w.adds) way) h.takes front
front_in_run format bytes frame number p a rest old mid new faults met (Err rule) is h stepped front =
    front_of_run format bytes [] h.text [] old mid new
    (ap (λ w. w.adds) (ends_at (putting (form_for format bytes)) bytes h.text p a rest number frame rule h.way is stepped)
    ∙ sym (append-nil h.text) ∙ sym (append-nil (h.text ++ [])))
    h.takes front

-- where the decode ends in a frame
pub frame_halts : (format : Format) (bytes frame : List ℕ) (number : ℕ) (p : Putting) (a rest : Ahead) (old mid new : Option (List ℕ)) (faults met now : ℕ) (o : Outcome)
    → IsFrame a number frame rest → HasWritten format bytes p a old mid faults met → Halts number (put p.form (step number p.state frame)) mid new met now o
    → Decodes (output_of format bytes) old new faults now o
frame_halts format bytes frame number p a rest old mid new faults met now outcome.Done is h f = absurd f
frame_halts format bytes frame number p a rest old mid new faults met now (outcome.Broken stop) is h f =
    rule_in_run format bytes frame number p a rest old mid new faults met now stop.frame stop.rule is h f
frame_halts format bytes frame number p a rest old mid new faults met now outcome.WriteFault is h f =
    (subst (λ k. k < now) h.quiet f.1, front_in_run format bytes frame number p a rest old mid new faults met (put p.form (step number p.state frame)) is h refl f.0)
frame_halts format bytes frame number p a rest old mid new faults met now outcome.OutOfMemory is h f =
    (f.1 ∙ h.quiet, front_in_run format bytes frame number p a rest old mid new faults met (put p.form (step number p.state frame)) is h refl f.0)
frame_halts format bytes frame number p a rest old mid new faults met now outcome.ReadFault is h f = f
