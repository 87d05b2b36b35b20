-- A decode of a source that was opened.
use Rattle.std.proofs.Common.{◌≡◌, ◌<◌, ℕ, List, [], ◌++◌, length, refl, sym, ap, subst, ◌∙◌, inl, inr}
use Rattle.std.specs.Prelude.{Option, Some, None}
use Rattle.std.proofs.lemmas.Bool.{cases_Bool}
use Rattle.std.proofs.lemmas.List.{append-nil}
use Rattle.edge_io.specs.Filling.{IsKept, WhereTold}
use Rattle.edge_io.specs.Prefixed.{all_of}
use Rattle.edge_io.specs.Putting.{Takes}
use Rattle.edge_io.specs.SourceReading.{Gave}
use Rattle.edge_io.proofs.Fronts.{takes_none}
use Rattle.vp9_types.specs.declared.outcome.Outcome.{Outcome}
use Rattle.vp9_types.specs.declared.outcome.Outcome.TheVariants as outcome
use Rattle.vp9_types.specs.declared.rule.Rule.{Rule}
use Rattle.vp9_types.specs.declared.rule.Rule.TheVariants.{IvfHeader}
use Rattle.frame_output.specs.declared.rendering.Format.{Format}
use Rattle.file_frames.specs.Containers.{is_webm, rate_of_file}
use Rattle.file_frames.specs.FileFrames.{FileFrames, frames_in, frames_of_file}
use Rattle.file_frames.specs.Walks.{Walked, ended, walk}
use Rattle.frame_groups.specs.Groups.{ahead, begun_of, source_of}
use Rattle.frame_groups.specs.declared.reader.GroupReader.{GroupReader}
use Rattle.frame_groups.proofs.Files.{no_file}
use Rattle.frame_groups.proofs.Fronts.{looked_ahead}
use Rattle.job_decoder.specs.seq_decoder.Outcomes.{outcome_at}
use Rattle.job_decoder.specs.seq_decoder.Outputs.{form_from, output_of, putting}
use Rattle.stream_decoder.proofs.FilmLemmas.{ended_at}
use Rattle.stream_decoder.specs.Streams.{BreaksNoFrame, DecodesSource, MayHaveFailed, WritesAll, WritesTaken}

---- Four bytes and more ----

-- what was left before them, and what is left behind them
abbrev pub IsBehind : Option (List ℕ) → Option (List ℕ) → List ℕ → Type 0
IsBehind old now front = WhereTold old (λ bytes. (more : List ℕ) × (bytes ≡ front ++ more) × (now ≡ Some more))

kept_whole : (old now : Option (List ℕ)) (front : List ℕ) → IsBehind old now front → IsKept old (all_of front 4 now)
kept_whole old now front looks = λ bytes told. let h = looks bytes told in ap (all_of front 4) h.2 ∙ ap Some (sym h.1)

kept_ahead : {S : Type 0} (rest : S → Option (List ℕ)) (r : GroupReader S) (source : S) (front : List ℕ) (old : Option (List ℕ)) → source_of r ≡ source → begun_of r ≡ front
    → IsBehind old (rest source) front → IsKept old (ahead rest r)
kept_ahead rest r source front old sources begun looks = λ bytes told. let h = looks bytes told in
    looked_ahead rest r source front h.0 sources begun h.2 ∙ ap Some (sym h.1)

failed_kept : (old rest left : Option (List ℕ)) (failed failed_now : ℕ) → IsKept old rest → MayHaveFailed rest left failed failed_now → MayHaveFailed old left failed failed_now
failed_kept old rest left failed failed_now kept (inl sound) = inl sound
failed_kept old rest left failed failed_now kept (inr (rose, (front, gave, held))) =
    inr (rose, (front, (λ bytes told. gave bytes (kept bytes told)), λ bytes told. held bytes (kept bytes told)))

-- what is decoded is all that was left before
decodes_kept : (format : Format) (old rest left : Option (List ℕ)) (failed failed_now : ℕ) (taken taken_now : Option (List ℕ)) (faults faults_now : ℕ) (ends : Outcome) → IsKept old rest
    → DecodesSource format rest left failed failed_now taken taken_now faults faults_now ends → DecodesSource format old left failed failed_now taken taken_now faults faults_now ends
decodes_kept format old rest left failed failed_now taken taken_now faults faults_now outcome.Done kept h = (h.0, h.1, λ bytes told. h.2 bytes (kept bytes told))
decodes_kept format old rest left failed failed_now taken taken_now faults faults_now (outcome.Broken stop) kept h =
    (failed_kept old rest left failed failed_now kept h.0, h.1, (h.2.0, λ bytes told. h.2.1 bytes (kept bytes told)), λ bytes told. h.3 bytes (kept bytes told))
decodes_kept format old rest left failed failed_now taken taken_now faults faults_now outcome.ReadFault kept h =
    (h.0, h.1, (h.2.0, (λ bytes told. h.2.1 bytes (kept bytes told)), λ bytes told. h.2.2 bytes (kept bytes told)))
decodes_kept format old rest left failed failed_now taken taken_now faults faults_now outcome.WriteFault kept h =
    (failed_kept old rest left failed failed_now kept h.0, h.1, λ bytes told. h.2 bytes (kept bytes told))
decodes_kept format old rest left failed failed_now taken taken_now faults faults_now outcome.OutOfMemory kept h =
    (failed_kept old rest left failed failed_now kept h.0, h.1, λ bytes told. h.2 bytes (kept bytes told))

pub decodes_webm : (format : Format) (front : List ℕ) (old now left : Option (List ℕ)) (failed opened failed_now : ℕ) (taken taken_now : Option (List ℕ)) (faults faults_now : ℕ) (ends : Outcome)
    → IsBehind old now front → opened ≡ failed → DecodesSource format (all_of front 4 now) left opened failed_now taken taken_now faults faults_now ends
    → DecodesSource format old left failed failed_now taken taken_now faults faults_now ends
decodes_webm format front old now left failed opened failed_now taken taken_now faults faults_now ends looks same h =
    decodes_kept format old (all_of front 4 now) left failed failed_now taken taken_now faults faults_now ends (kept_whole old now front looks)
    (subst (λ (n : ℕ). DecodesSource format (all_of front 4 now) left n failed_now taken taken_now faults faults_now ends) same h)

pub decodes_ivf : {S : Type 0} (format : Format) (rest : S → Option (List ℕ)) (count : S → ℕ) (r : GroupReader S) (source : S) (front : List ℕ) (old left : Option (List ℕ)) (failed failed_now : ℕ)
    (taken taken_now : Option (List ℕ)) (faults faults_now : ℕ) (ends : Outcome) → source_of r ≡ source → begun_of r ≡ front → IsBehind old (rest source) front → count source ≡ failed
    → DecodesSource format (ahead rest r) left (count (source_of r)) failed_now taken taken_now faults faults_now ends
    → DecodesSource format old left failed failed_now taken taken_now faults faults_now ends
decodes_ivf format rest count r source front old left failed failed_now taken taken_now faults faults_now ends sources begun looks same h =
    decodes_kept format old (ahead rest r) left failed failed_now taken taken_now faults faults_now ends (kept_ahead rest r source front old sources begun looks)
    (subst (λ (n : ℕ). DecodesSource format (ahead rest r) left n failed_now taken taken_now faults faults_now ends) (ap count sources ∙ same) h)

---- Fewer than four bytes ----

no_output : (format : Format) (bytes : List ℕ) → length bytes < 4 → output_of format bytes ≡ ended (Some (0, IvfHeader))
unfolding output_of
no_output format bytes few = ap (walk (putting (form_from format (rate_of_file bytes)))) (no_file bytes few).0

adds_none : (format : Format) (bytes : List ℕ) (taken : Option (List ℕ)) → length bytes < 4 → Takes taken taken (output_of format bytes).adds
adds_none format bytes taken few =
    subst (λ (adds : List ℕ). Takes taken taken adds) (sym (ap (λ (w : Walked ℕ Rule). w.adds) (no_output format bytes few))) (takes_none taken)

writes_none : (format : Format) (bytes : List ℕ) (taken : Option (List ℕ)) → length bytes < 4 → WritesAll format bytes taken taken (Some (0, IvfHeader))
writes_none format bytes taken few = (ap (λ (w : Walked ℕ Rule). w.ending) (no_output format bytes few), adds_none format bytes taken few)

gave_short : (old now : Option (List ℕ)) → WhereTold old (λ bytes. (length bytes < 4) × (now ≡ Some [])) → (front : List ℕ) × Gave old now front
gave_short None now short = ([], λ bytes told. let no : ⊥ = cc in absurd no)
gave_short (Some all) now short = (all, λ bytes told. let same : bytes ≡ all = cc in ([], same ∙ sym (append-nil all), (short all refl).1))

-- the source has no more
pub decodes_short : (format : Format) (rest left : Option (List ℕ)) (failed failed_now : ℕ) (taken : Option (List ℕ)) (faults : ℕ)
    → WhereTold rest (λ bytes. (length bytes < 4) × (left ≡ Some [])) → failed_now ≡ failed
    → DecodesSource format rest left failed failed_now taken taken faults faults (outcome_at 0 IvfHeader)
decodes_short format rest left failed failed_now taken faults short same =
    (inl same, refl, gave_short rest left short, λ bytes told. writes_none format bytes taken (short bytes told).0)

breaks_none : (format : Format) (front : List ℕ) → length front < 4 → BreaksNoFrame format front
breaks_none format front few = λ f rule is.
    let same : Some (0, IvfHeader) ≡ Some (f, rule) = sym (ap (λ (w : Walked ℕ Rule). w.ending) (no_output format front few)) ∙ is in
    let none : length (frames_in (frames_of_file front)) ≡ 0 = ap (λ (x : FileFrames). length (frames_in x)) (no_file front few).0 in
    ended_at 0 (Some IvfHeader) f rule same ∙ sym none

taken_none : (format : Format) (bytes front : List ℕ) (taken : Option (List ℕ)) → length front < 4 → WritesTaken format bytes front taken taken
taken_none format bytes front taken few = elim (cases_Bool (is_webm bytes)) [
  | inl webm ↦ inr (webm, takes_none taken)
  | inr isnt ↦ inl (isnt, breaks_none format front few, adds_none format front taken few)
]

-- it failed
pub decodes_failed : (format : Format) (rest left : Option (List ℕ)) (failed failed_now : ℕ) (taken : Option (List ℕ)) (faults : ℕ)
    → (front : List ℕ) × Gave rest left front × (length front < 4) → failed < failed_now
    → DecodesSource format rest left failed failed_now taken taken faults faults outcome.ReadFault
decodes_failed format rest left failed failed_now taken faults (front, gave, few) rises =
    (rises, refl, (front, gave, λ bytes told. taken_none format bytes front taken few))
