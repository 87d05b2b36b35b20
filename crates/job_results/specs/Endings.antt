-- How a run by jobs ends, as a decode.
use Rattle.std.specs.Prelude.{◌≡◌, ◌<◌, ℕ}
use Rattle.edge_io.specs.declared.sink.PutFault.TheVariants as refused
use Rattle.vp9_types.specs.declared.outcome.Outcome.{Outcome}
use Rattle.job_crew.specs.declared.outlet.Ending.{Ending}
use Rattle.job_crew.specs.declared.outlet.Ending.TheVariants.{Whole, Refused}
use Rattle.numbered_frames.specs.seq_decoder.Code.{refusal_outcome}
use Rattle.job_results.specs.declared.result.JobResult.{JobResult}
use Rattle.job_results.specs.declared.result.JobResult.TheVariants as result

-- the sink's count of faults, when the run began and at its end, where it refused a write
abbrev pub HasRefused : ℕ → ℕ → JobResult → Type 0
HasRefused faults now (result.Refused refused.Failed) = faults < now
HasRefused faults now (result.Refused refused.OutOfMemory) = now ≡ faults
HasRefused faults now _ = ⊥

-- the outcome that an ending tells
abbrev pub IsOutcome : Ending JobResult → Outcome → Type 0
IsOutcome (Whole f (result.Ended told)) o = o ≡ told
IsOutcome (Whole f _) o = ⊥
IsOutcome (Refused f (result.Refused fault)) o = o ≡ refusal_outcome fault
IsOutcome (Refused f _) o = ⊥
