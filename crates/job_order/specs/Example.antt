-- A run for which the rules are true: three frames of two columns and two superblock rows, each shown, of which the second and
-- the third read the one before them. Each result is the number of the job's frame.
use Rattle.std.specs.Prelude.{◌≡◌, ℕ, ◌+◌, ◌-◌, false, if◌then◌else◌, nat_lt, List, [], ◌∷◌, Option, Some, None, Contains}
use Rattle.vp9_types.specs.declared.job.JobName.{JobName}
use Rattle.vp9_types.specs.declared.job.JobName.TheVariants.{Rows, Write}
use Rattle.vp9_types.specs.declared.job.BandSpan.{BandSpan}
use Rattle.job_order.specs.declared.event.Done.{Done}
use Rattle.job_order.specs.Worlds.{Rules, Building}
use Rattle.job_order.specs.Truths.{Truth}
use Rattle.job_order.specs.Sound.{frame_of}

-- a write takes the result of the one before it
abbrev pub TakesWrite : JobName → List (Done ℕ) → Type 0
TakesWrite (Write f) uses = (g : ℕ) → f ≡ g + 1 → Contains uses (record { job = Write g; result = g })
TakesWrite _ uses = Unit {0}

-- both bands of the frame before
abbrev pub both_before : ℕ → Option BandSpan
both_before f = if nat_lt 0 f then Some (record { frame = f - 1; first = 0; last = 1 }) else None

abbrev pub reads_before : JobName → List (Option BandSpan)
reads_before (Rows f c r) = both_before f ∷ None ∷ None ∷ []
reads_before _ = None ∷ None ∷ None ∷ []

abbrev pub two_rows : ℕ → Option Building
two_rows f = Some (record { columns = 2; rows = 2; shown = Some (record { frame = f; bands = 2 }) })

abbrev pub example_rules : Rules ℕ
example_rules =
    record {
      does = λ job uses x. (x ≡ frame_of job) × TakesWrite job uses;
      parses = λ f. if nat_lt f 3 then Some 2 else None;
      builds = two_rows;
      reads = λ job results. reads_before job;
      puts = λ f x. x ∷ [];
      fails = λ f. false;
    }

abbrev pub example_truth : Truth ℕ
example_truth =
    record {
      right = λ job x. x ≡ frame_of job;
      bands = λ f. 2;
      slots = λ f. if nat_lt 0 f then (f - 1) ∷ [] else [];
      text = λ f. f ∷ [];
    }
