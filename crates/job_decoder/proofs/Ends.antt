-- How a run by jobs ends.
use Rattle.std.proofs.Common.{◌≡◌, ℕ, List, Bool, true, subst, sym, inl, ◌+◌, ◌++◌, arith}
use Rattle.std.specs.Prelude.{Option}
use Rattle.frame_output.specs.declared.rendering.Format.{Format}
use Rattle.edge_io.specs.Putting.{Takes}
use Rattle.job_crew.specs.Runs.{IsDue, IsEnded}
use Rattle.job_order.specs.Truths.{IsFront}
use Rattle.job_crew.specs.declared.outlet.Ending.{Ending}
use Rattle.job_crew.specs.declared.outlet.Ending.TheVariants.{Whole, Refused}
use Rattle.vp9_types.specs.declared.outcome.Outcome.{Outcome}
use Rattle.job_rows.specs.seq_decoder.Outcomes.{Decodes}
use Rattle.job_rows.specs.seq_decoder.Outputs.{output_of}
use Rattle.vp9_types.specs.declared.rule.Rule.{Rule}
use Rattle.file_frames.specs.Walks.{Walked}
use Rattle.job_rows.specs.numbered_frames.FrameNumbers.{film_output, text}
use Rattle.job_rows.proofs.of_numbered_frames.Ways.{files_are_films}
use Rattle.vp9_types.specs.declared.job.JobName.TheVariants.{End, Write}
use Rattle.job_rows.proofs.of_job_results.Decoding.{decodes}
use Rattle.job_rows.proofs.of_job_results.GroupDue.{due_in_film}
use Rattle.job_rows.specs.job_results.Groups.{group_rules, group_truth}
use Rattle.job_rows.specs.job_results.Endings.{HasRefused, IsOutcome}
use Rattle.job_rows.specs.job_results.Meaning.{decode_rules, decode_truth, fails}
use Rattle.job_rows.specs.job_results.declared.result.JobResult.{JobResult}
use Rattle.job_rows.specs.job_results.declared.result.JobResult.TheVariants as result
use Rattle.job_rows.specs.job_results.JobResults.{IsEndResult, IsRight}
use Rattle.job_decoder.proofs.Groups.{same_texts}
use Rattle.job_decoder.specs.SinkOutputs.{HasRefusedSo, IsQuiet, TellsOutcome}
use Rattle.job_rows.specs.numbered_frames.Films.{Film, film_of}

pub end_tells : (format : Format) (film : Film) (f : ℕ) (x : JobResult) → IsEndResult format film f x → TellsOutcome (Whole f x)
end_tells format film f (result.Ended o) is = tt
end_tells format film f (result.Begun b) is = absurd is
end_tells format film f (result.Existing slot) is = absurd is
end_tells format film f (result.Column r) is = absurd is
end_tells format film f (result.Closed k) is = absurd is
end_tells format film f (result.Strip planes) is = absurd is
end_tells format film f (result.Filtered planes) is = absurd is
end_tells format film f result.Starved is = absurd is
end_tells format film f result.Written is = absurd is
end_tells format film f (result.Refused fault) is = absurd is

pub refusal_tells : (f : ℕ) (x : JobResult) → fails x ≡ true → TellsOutcome (Refused f x)
refusal_tells f (result.Refused fault) is = tt
refusal_tells f (result.Ended o) is = absurd cc
refusal_tells f (result.Begun b) is = absurd cc
refusal_tells f (result.Existing slot) is = absurd cc
refusal_tells f (result.Column r) is = absurd cc
refusal_tells f (result.Closed k) is = absurd cc
refusal_tells f (result.Strip planes) is = absurd cc
refusal_tells f (result.Filtered planes) is = absurd cc
refusal_tells f result.Starved is = absurd cc
refusal_tells f result.Written is = absurd cc

-- what is known of the sink at the end
pub record IsOver (format : Format) (film : Film) (old : Option (List ℕ)) (ending : Ending JobResult) (new : Option (List ℕ)) (may : Type 0) (faults now : ℕ) (grew grows : Bool) : Type 0 where
  pub tells : TellsOutcome ending
  pub ended : IsEnded (decode_rules format film) (decode_truth format film) old ending new (now ≡ faults) (HasRefused faults now)
  pub again : now ≡ faults → may
  pub same : grows ≡ grew

pub is_over : (format : Format) (film : Film) (old : Option (List ℕ)) (ending : Ending JobResult) (new : Option (List ℕ)) (may : Type 0) (faults now : ℕ) (grows grows_now : Bool)
    → IsEnded (decode_rules format film) (decode_truth format film) old ending new (IsQuiet may faults now grows grows_now) (HasRefusedSo may faults now grows grows_now)
    → IsOver format film old ending new may faults now grows grows_now
is_over format film old (Whole f x) new may faults now grows grows_now h = record {
  tells = end_tells format film f x h.1;
  ended = (h.0, h.1, h.2, h.3.1);
  again = λ same. h.3.0;
  same = h.3.2;
}
is_over format film old (Refused f x) new may faults now grows grows_now h = record {
  tells = refusal_tells f x h.2;
  ended = (h.0, h.1, h.2, h.3.0, h.4);
  again = h.3.1;
  same = h.3.2;
}

-- a run of the whole film, as its only group, is one of the film
of_film : (format : Format) (film : Film) (n : ℕ) (old : Option (List ℕ)) (ending : Ending JobResult) (new : Option (List ℕ)) (may : Type 0) (refused : JobResult → Type 0) → n ≡ 0
    → IsEnded (group_rules n format film) (group_truth n format film) old ending new may refused → IsEnded (decode_rules format film) (decode_truth format film) old ending new may refused
of_film format film n old (Whole f x) new may refused is h =
    let same : n + f ≡ f = omega (arith, is) in
    let texts = same_texts (text format film) n f is in (
      subst (λ k. IsDue (decode_rules format film) (decode_truth format film) (End k)) same (due_in_film n format film (End f) (inl is) h.0),
      subst (λ k. IsRight format film (End k) x) same h.1,
      subst (λ (t : List ℕ). Takes old new t) texts h.2,
      h.3,
    )
of_film format film n old (Refused f x) new may refused is h =
    let same : n + f ≡ f = omega (arith, is) in
    let texts = same_texts (text format film) n f is in (
      subst (λ k. IsDue (decode_rules format film) (decode_truth format film) (Write k)) same (due_in_film n format film (Write f) (inl is) h.0),
      h.1,
      h.2,
      h.3,
      (h.4.0, subst (λ k. IsFront h.4.0 (text format film k)) same h.4.1, subst (λ (t : List ℕ). Takes old new (t ++ h.4.0)) texts h.4.2),
    )

-- so the run is the decode, by what its marker names
pub decodes_so : (format own_format : Format) (film own_film : Film) (first : ℕ) (old own_old : Option (List ℕ)) (ending : Ending JobResult) (new : Option (List ℕ)) (may : Type 0) (faults own_faults now : ℕ) (grew grows : Bool) (o : Outcome)
    → own_format ≡ format → own_film ≡ film → first ≡ 0 → own_old ≡ old → own_faults ≡ faults
    → IsEnded (group_rules first own_format own_film) (group_truth first own_format own_film) own_old ending new (IsQuiet may own_faults now grew grows) (HasRefusedSo may own_faults now grew grows)
    → IsOutcome ending o → Decodes (film_output format film) old new faults now o
decodes_so format own_format film own_film first old own_old ending new may faults own_faults now grew grows o f b z t n h tells =
    let over = is_over own_format own_film own_old ending new may own_faults now grew grows (of_film own_format own_film first own_old ending new _ _ z h) in
    subst (λ (x : Format). Decodes (film_output x film) old new faults now o) f
    (subst (λ (x : Film). Decodes (film_output own_format x) old new faults now o) b
    (subst (λ (x : Option (List ℕ)). Decodes (film_output own_format own_film) x new faults now o) t
    (subst (λ (x : ℕ). Decodes (film_output own_format own_film) own_old new x now o) n
    (decodes own_format own_film ending o own_old new own_faults now over.ended tells))))

-- and that of the file whose film it is
pub decodes_file : (format : Format) (bytes : List ℕ) (old new : Option (List ℕ)) (faults now : ℕ) (o : Outcome) → Decodes (film_output format (film_of bytes)) old new faults now o
    → Decodes (output_of format bytes) old new faults now o
decodes_file format bytes old new faults now o h = subst (λ (w : Walked ℕ Rule). Decodes w old new faults now o) (sym (files_are_films format bytes)) h
