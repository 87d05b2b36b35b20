-- What is known of the sink at the end of the run of a group.
use Rattle.std.proofs.Common.{◌≡◌, ℕ, List, Bool}
use Rattle.std.specs.Prelude.{Option}
use Rattle.frame_output.specs.declared.rendering.Format.{Format}
use Rattle.job_crew.specs.Runs.{IsEnded}
use Rattle.job_crew.specs.declared.outlet.Ending.{Ending}
use Rattle.job_crew.specs.declared.outlet.Ending.TheVariants.{Whole, Refused}
use Rattle.vp9_types.specs.declared.outcome.Outcome.{Outcome}
use Rattle.job_rows.specs.numbered_frames.Films.{Film}
use Rattle.std.specs.Prelude.{None}
use Rattle.std.proofs.Common.{◌+◌, subst}
use Rattle.job_rows.specs.job_results.Endings.{HasRefused, IsOutcome}
use Rattle.job_rows.specs.job_results.Groups.{group_rules, group_truth}
use Rattle.job_rows.specs.job_results.declared.result.JobResult.{JobResult}
use Rattle.job_decoder.specs.Code.{HasRun}
use Rattle.job_decoder.specs.SinkOutputs.{HasRefusedSo, IsQuiet, TellsOutcome}
use Rattle.job_decoder.proofs.Ends.{end_tells, refusal_tells}
use Rattle.job_decoder.proofs.GroupEnds.{has_run}

pub record IsOverIn (n : ℕ) (format : Format) (film : Film) (old : Option (List ℕ)) (ending : Ending JobResult) (new : Option (List ℕ)) (may : Type 0) (faults now : ℕ) (grew grows : Bool) : Type 0 where
  pub tells : TellsOutcome ending
  pub ended : IsEnded (group_rules n format film) (group_truth n format film) old ending new (now ≡ faults) (HasRefused faults now)
  pub again : now ≡ faults → may
  pub same : grows ≡ grew

pub over_in : (n : ℕ) (format : Format) (film : Film) (old : Option (List ℕ)) (ending : Ending JobResult) (new : Option (List ℕ)) (may : Type 0) (faults now : ℕ) (grows grows_now : Bool)
    → IsEnded (group_rules n format film) (group_truth n format film) old ending new (IsQuiet may faults now grows grows_now) (HasRefusedSo may faults now grows grows_now)
    → IsOverIn n format film old ending new may faults now grows grows_now
over_in n format film old (Whole f x) new may faults now grows grows_now h = record {
  tells = end_tells format film (n + f) x h.1;
  ended = (h.0, h.1, h.2, h.3.1);
  again = λ same. h.3.0;
  same = h.3.2;
}
over_in n format film old (Refused f x) new may faults now grows grows_now h = record {
  tells = refusal_tells f x h.2;
  ended = (h.0, h.1, h.2, h.3.0, h.4);
  again = h.3.1;
  same = h.3.2;
}

-- by what the run's marker names
pub ran_so : (n : ℕ) (format : Format) (film : Film) (old own_old : Option (List ℕ)) (ending : Ending JobResult) (new : Option (List ℕ)) (may : Type 0) (faults own_faults now : ℕ) (grew grows : Bool) (o : Outcome)
    → film.ending ≡ None → own_old ≡ old → own_faults ≡ faults
    → IsEnded (group_rules n format film) (group_truth n format film) own_old ending new (IsQuiet may own_faults now grew grows) (HasRefusedSo may own_faults now grew grows)
    → IsOutcome ending o → HasRun format film n old new faults now o
ran_so n format film old own_old ending new may faults own_faults now grew grows o none t f h tells =
    let over = over_in n format film own_old ending new may own_faults now grew grows h in
    subst (λ (x : Option (List ℕ)). HasRun format film n x new faults now o) t
    (subst (λ (x : ℕ). HasRun format film n own_old new x now o) f
    (has_run format film none n own_old new own_faults now ending o over.ended tells))
