-- How a decode ends, and what the sink has taken then.
use Rattle.std.specs.Prelude.{◌≡◌, ℕ, ◌<◌, List, take, Option, Some, None}
use Rattle.edge_io.specs.Putting.{Takes}
use Rattle.vp9_types.specs.declared.outcome.Outcome.{Outcome}
use Rattle.vp9_types.specs.declared.outcome.Outcome.TheVariants as outcome
use Rattle.vp9_types.specs.declared.rule.Rule.{Rule}
use Rattle.file_frames.specs.Walks.{Walked}

-- what is to be written ends so, all of it is written, and the sink's count of faults didn't rise
pub record Completes (output : Walked ℕ Rule) (old new : Option (List ℕ)) (faults faults_now : ℕ) (ending : Option (ℕ × Rule)) : Type 0 where
  pub ends : output.ending ≡ ending
  pub writes : Takes old new output.adds
  pub quiet : faults_now ≡ faults

-- a front of it is written
abbrev pub WritesFront : Walked ℕ Rule → Option (List ℕ) → Option (List ℕ) → Type 0
WritesFront output old new = (n : ℕ) × Takes old new (take n output.adds)

-- what is to be written and how that ends, what the sink had and has taken, its count of faults before and now, and the outcome
abbrev pub Decodes : Walked ℕ Rule → Option (List ℕ) → Option (List ℕ) → ℕ → ℕ → Outcome → Type 0
Decodes output old new faults faults_now outcome.Done = Completes output old new faults faults_now None
Decodes output old new faults faults_now (outcome.Broken stop) = Completes output old new faults faults_now (Some (stop.frame, stop.rule))
Decodes output old new faults faults_now outcome.WriteFault = (faults < faults_now) × WritesFront output old new
Decodes output old new faults faults_now outcome.OutOfMemory = (faults_now ≡ faults) × WritesFront output old new
Decodes output old new faults faults_now outcome.ReadFault = ⊥

-- how a decode ends at a frame that breaks a rule
abbrev pub outcome_at : ℕ → Rule → Outcome
outcome_at frame rule = outcome.Broken (record { frame = frame; rule = rule })
