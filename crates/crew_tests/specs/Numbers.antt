-- A run in memory: each result is the number of the job's frame, and a frame's text is that number.
use Rattle.std.specs.Prelude.{◌≡◌, ℕ, ◌==◌, ◌⊎◌, if◌then◌else◌, nat_lt, [], ◌∷◌, Some, None}
use Rattle.vp9_types.specs.declared.job.JobName.{JobName}
use Rattle.vp9_types.specs.declared.job.JobName.TheVariants.{Head, Write}
use Rattle.job_order.specs.Worlds.{Rules, Building}
use Rattle.job_order.specs.Truths.{Truth}
use Rattle.job_order.specs.Sound.{frame_of}

-- what a refused write answers, and a head that has no memory
abbrev pub refusal : ℕ
refusal = 18446744073709551615

abbrev pub IsRightNumber : JobName → ℕ → Type 0
IsRightNumber (Head f) x = (x ≡ f) ⊎ (x ≡ refusal)
IsRightNumber (Write f) x = (x ≡ f) ⊎ (x ≡ refusal)
IsRightNumber job x = x ≡ frame_of job

abbrev pub building_of : ℕ → ℕ → ℕ → Building
building_of columns rows f = record { columns = columns; rows = rows; shown = Some (record { frame = f; bands = rows }) }

abbrev pub number_rules : ℕ → ℕ → ℕ → Rules ℕ
number_rules frames columns rows =
    record {
      does = λ job uses x. IsRightNumber job x;
      parses = λ f. if nat_lt f frames then Some columns else None;
      builds = λ f. Some (building_of columns rows f);
      reads = λ job results. [];
      puts = λ f x. if x == refusal then [] else x ∷ [];
      fails = λ x. x == refusal;
    }

abbrev pub number_truth : ℕ → Truth ℕ
number_truth rows = record { right = IsRightNumber; bands = λ f. rows; slots = λ f. []; text = λ f. f ∷ [] }
