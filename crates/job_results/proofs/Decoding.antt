-- A run of right results that has ended is a decode.
use Rattle.std.proofs.Common.{◌≡◌, ◌∙◌, ℕ, suc, List, ◌++◌, length, take, drop, ap, sym, subst, append_assoc, inl, inr}
use Rattle.std.specs.Prelude.{Option, Some, None}
use Rattle.std.proofs.Math.Seq.{take-append_seam}
use Rattle.std.proofs.lemmas.List.{take-append-drop}
use Rattle.edge_io.specs.Putting.{Takes}
use Rattle.edge_io.specs.declared.sink.PutFault.{PutFault}
use Rattle.edge_io.specs.declared.sink.PutFault.TheVariants as refused
use Rattle.vp9_types.specs.declared.outcome.Outcome.{Outcome}
use Rattle.vp9_types.specs.declared.rule.Rule.{Rule}
use Rattle.file_frames.specs.Walks.{Walked}
use Rattle.frame_output.specs.declared.rendering.Format.{Format}
use Rattle.job_order.specs.Sound.{texts_below}
use Rattle.job_order.specs.Truths.{IsFront}
use Rattle.job_crew.specs.Runs.{IsEnded}
use Rattle.job_crew.specs.declared.outlet.Ending.{Ending}
use Rattle.job_crew.specs.declared.outlet.Ending.TheVariants.{Whole, Refused}
use Rattle.numbered_frames.specs.FrameNumbers.{EndsAt, film_output, text}
use Rattle.numbered_frames.proofs.Ways.{ends, front}
use Rattle.numbered_frames.specs.seq_decoder.Code.{refusal_outcome}
use Rattle.numbered_frames.specs.seq_decoder.Outcomes.{Completes, Decodes, WritesFront}
use Rattle.job_results.specs.Endings.{HasRefused, IsOutcome}
use Rattle.job_results.specs.Meaning.{decode_rules, decode_truth}
use Rattle.job_results.specs.JobResults.{IsEnd, outcome_of}
use Rattle.job_results.specs.declared.result.JobResult.{JobResult}
use Rattle.job_results.specs.declared.result.JobResult.TheVariants as result
use Rattle.numbered_frames.specs.Films.{Film}

---- Fronts ----

takes_as : (old new : Option (List ℕ)) (a b : List ℕ) → a ≡ b → Takes old new a → Takes old new b
takes_as old new a b same h = subst (Takes old new) same h

-- what was written below a frame
below_it : (format : Format) (film : Film) (f : ℕ) (old new : Option (List ℕ)) → Takes old new (texts_below (text format film) f) → WritesFront (film_output format film) old new
below_it format film f old new h =
    let at = front format film f in
    (at.0, takes_as old new _ _ at.1 h)

-- and a front of the frame's text
with_front : (format : Format) (film : Film) (f : ℕ) (old new : Option (List ℕ)) (put : List ℕ) → IsFront put (text format film f) → Takes old new (texts_below (text format film) f ++ put)
    → WritesFront (film_output format film) old new
with_front format film f old new put is h =
    let adds = (film_output format film).adds in
    let at = front format film (suc f) in
    let xs = texts_below (text format film) f ++ put in
    let all : xs ++ is.0 ≡ take at.0 adds = append_assoc (texts_below (text format film) f) put is.0 ∙ ap (λ t. texts_below (text format film) f ++ t) is.1 ∙ at.1 in
    let whole : xs ++ (is.0 ++ drop at.0 adds) ≡ adds = sym (append_assoc xs is.0 (drop at.0 adds)) ∙ ap (λ t. t ++ drop at.0 adds) all ∙ take-append-drop at.0 adds in
    (length xs, takes_as old new _ _ (sym (take-append_seam xs (is.0 ++ drop at.0 adds)) ∙ ap (take (length xs)) whole) h)

---- Endings ----

completes : (format : Format) (film : Film) (f : ℕ) (ending : Option (ℕ × Rule)) (old new : Option (List ℕ)) (faults now : ℕ) → EndsAt format film f ending
    → Takes old new (texts_below (text format film) f) → now ≡ faults → Completes (film_output format film) old new faults now ending
completes format film f ending old new faults now at h quiet =
    let is = ends format film f ending at in
    record {
      ends = ap (λ (w : Walked ℕ Rule). w.ending) is;
      writes = takes_as old new _ _ (ap (λ (w : Walked ℕ Rule). w.adds) (sym is)) h;
      quiet = quiet;
    }

ends_so : (format : Format) (film : Film) (f : ℕ) (ending : Option (ℕ × Rule)) (old new : Option (List ℕ)) (faults now : ℕ) → EndsAt format film f ending
    → Takes old new (texts_below (text format film) f) → now ≡ faults → Decodes (film_output format film) old new faults now (outcome_of ending)
ends_so format film f None old new faults now at h quiet = completes format film f None old new faults now at h quiet
ends_so format film f (Some stop) old new faults now at h quiet = completes format film f (Some stop) old new faults now at h quiet

ended_by : (format : Format) (film : Film) (f : ℕ) (o : Outcome) (old new : Option (List ℕ)) (faults now : ℕ) → IsEnd format film f o
    → Takes old new (texts_below (text format film) f) → now ≡ faults → Decodes (film_output format film) old new faults now o
ended_by format film f o old new faults now is h quiet = elim is [
  | inl starved ↦ subst (Decodes (film_output format film) old new faults now) (sym starved) (quiet, below_it format film f old new h)
  | inr at ↦ subst (Decodes (film_output format film) old new faults now) (sym at.2) (ends_so format film f at.0 old new faults now at.1 h quiet)
]

refused_by : (format : Format) (film : Film) (fault : PutFault) (old new : Option (List ℕ)) (faults now : ℕ) → HasRefused faults now (result.Refused fault) → WritesFront (film_output format film) old new
    → Decodes (film_output format film) old new faults now (refusal_outcome fault)
refused_by format film refused.Failed old new faults now is h = (is, h)
refused_by format film refused.OutOfMemory old new faults now is h = (is, h)

pub decodes : (format : Format) (film : Film) (ending : Ending JobResult) (o : Outcome) (old new : Option (List ℕ)) (faults now : ℕ)
    → IsEnded (decode_rules format film) (decode_truth format film) old ending new (now ≡ faults) (HasRefused faults now) → IsOutcome ending o → Decodes (film_output format film) old new faults now o
decodes format film (Whole f (result.Ended told)) o old new faults now is tells =
    subst (Decodes (film_output format film) old new faults now) (sym tells) (ended_by format film f told old new faults now is.1 is.2 is.3)
decodes format film (Refused f (result.Refused fault)) o old new faults now is tells =
    subst (Decodes (film_output format film) old new faults now) (sym tells) (refused_by format film fault old new faults now is.3 (with_front format film f old new is.4.0 is.4.1 is.4.2))
decodes format film (Whole f (result.Begun b)) o old new faults now is tells = absurd tells
decodes format film (Whole f (result.Existing slot)) o old new faults now is tells = absurd tells
decodes format film (Whole f (result.Column r)) o old new faults now is tells = absurd tells
decodes format film (Whole f (result.Closed k)) o old new faults now is tells = absurd tells
decodes format film (Whole f (result.Strip planes)) o old new faults now is tells = absurd tells
decodes format film (Whole f (result.Filtered planes)) o old new faults now is tells = absurd tells
decodes format film (Whole f result.Starved) o old new faults now is tells = absurd tells
decodes format film (Whole f result.Written) o old new faults now is tells = absurd tells
decodes format film (Whole f (result.Refused fault)) o old new faults now is tells = absurd tells
decodes format film (Refused f (result.Begun b)) o old new faults now is tells = absurd tells
decodes format film (Refused f (result.Existing slot)) o old new faults now is tells = absurd tells
decodes format film (Refused f (result.Column r)) o old new faults now is tells = absurd tells
decodes format film (Refused f (result.Closed k)) o old new faults now is tells = absurd tells
decodes format film (Refused f (result.Strip planes)) o old new faults now is tells = absurd tells
decodes format film (Refused f (result.Filtered planes)) o old new faults now is tells = absurd tells
decodes format film (Refused f result.Starved) o old new faults now is tells = absurd tells
decodes format film (Refused f result.Written) o old new faults now is tells = absurd tells
decodes format film (Refused f (result.Ended told)) o old new faults now is tells = absurd tells
