-- A trial: the file that is made from a number is decoded.
use Rattle.std.specs.Prelude.{◌≡◌, ℕ, List, Option, Some, None}
use Rattle.vp9_types.specs.declared.outcome.Stop.{Stop}
use Rattle.vp9_types.specs.declared.rule.Rule.{Rule}
use Rattle.frame_output.specs.declared.rendering.Format.TheVariants.{Raw}
use Rattle.job_decoder.specs.seq_decoder.Outputs.{output_of}
use Rattle.stream_forge.specs.MadeFiles.{made}
use Rattle.stream_trial.specs.TrialLines.{shown_count, trial_line}

-- the output of the file of so many frames that is made from the number ends so
abbrev pub MadeEnds : ℕ → ℕ → Option (ℕ × Rule) → Type 0
MadeEnds number count ending = (output_of Raw (made number count)).ending ≡ ending

-- the file breaks a rule at this frame
abbrev pub BreaksAt : ℕ → ℕ → Stop → Type 0
BreaksAt number count stop = MadeEnds number count (Some (stop.frame, stop.rule))

-- the line of the file
abbrev pub made_line : ℕ → ℕ → List ℕ
made_line number count = trial_line (shown_count (made number count)) (output_of Raw (made number count)).adds

-- it breaks no rule, and this is its line
pub record IsTrialLine (number count : ℕ) (line : List ℕ) : Type 0 where
  pub ends : MadeEnds number count None
  pub told : line ≡ made_line number count
