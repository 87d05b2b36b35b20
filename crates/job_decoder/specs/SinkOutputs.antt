-- What a sink is in a decode, and what the run's end tells.
use Rattle.std.specs.Prelude.{◌≡◌, ℕ, Bool, true, false}
use Rattle.vp9_types.specs.declared.outcome.Outcome.{Outcome}
use Rattle.vp9_types.specs.declared.outcome.Outcome.TheVariants as outcome
use Rattle.job_crew.specs.declared.outlet.Ending.{Ending}
use Rattle.job_crew.specs.declared.outlet.Ending.TheVariants.{Whole, Refused}
use Rattle.job_rows.specs.job_results.Endings.{HasRefused}
use Rattle.job_rows.specs.job_results.declared.result.JobResult.{JobResult}
use Rattle.job_rows.specs.job_results.declared.result.JobResult.TheVariants as result

-- it may be put to, its count of faults is that of the beginning, and it grows or doesn't as it did
abbrev pub IsQuiet : Type 0 → ℕ → ℕ → Bool → Bool → Type 0
IsQuiet may faults now grows grows_now = may × (now ≡ faults) × (grows_now ≡ grows)

-- it has refused a write so; where its count didn't rise it may be put to
abbrev pub HasRefusedSo : Type 0 → ℕ → ℕ → Bool → Bool → JobResult → Type 0
HasRefusedSo may faults now grows grows_now x = HasRefused faults now x × (now ≡ faults → may) × (grows_now ≡ grows)

-- an ending that tells an outcome
abbrev pub TellsOutcome : Ending JobResult → Type 0
TellsOutcome (Whole f (result.Ended told)) = Unit {0}
TellsOutcome (Whole f _) = ⊥
TellsOutcome (Refused f (result.Refused fault)) = Unit {0}
TellsOutcome (Refused f _) = ⊥

-- all is decoded
abbrev pub is_done : Outcome → Bool
is_done outcome.Done = true
is_done (outcome.Broken stop) = false
is_done outcome.ReadFault = false
is_done outcome.WriteFault = false
is_done outcome.OutOfMemory = false
