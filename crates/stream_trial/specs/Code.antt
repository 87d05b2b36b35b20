-- What the calls answer.
use Rattle.std.specs.Prelude.{◌≡◌, ℕ, List, length, Some, None, Result, Ok, Err}
use Rattle.vp9_types.specs.declared.outcome.Outcome.{Outcome}
use Rattle.vp9_types.specs.declared.outcome.Outcome.TheVariants as outcome
use Rattle.vp9_types.specs.declared.rule.Rule.{Rule}
use Rattle.file_frames.specs.Walks.{Walked}
use Rattle.frame_headers.specs.declared.persist.Persist.{Persist}
use Rattle.job_decoder.specs.seq_decoder.After.{Stepped, step}
use Rattle.job_decoder.specs.seq_decoder.Runs.{shown_list}
use Rattle.job_decoder.specs.seq_decoder.DecoderState.{State, persist_of}
use Rattle.stream_trial.specs.declared.trial.NoLine.{NoLine}
use Rattle.stream_trial.specs.declared.trial.NoLine.TheVariants.{Broken, OutOfMemory}
use Rattle.stream_trial.specs.declared.trial.Sum.{Sum}
use Rattle.stream_trial.specs.TrialLines.{sum_of}
use Rattle.stream_trial.specs.Trials.{BreaksAt}

-- what headers read before a frame that breaks no rule and behind it, and how many frames it shows
abbrev pub IsCounted : List ℕ → Persist → Persist → ℕ → Type 0
IsCounted frame old new shown =
    (number : ℕ) (state : State) (next : Stepped) → old ≡ persist_of state → step number state frame ≡ Ok next
    → (new ≡ persist_of next.state) × (shown ≡ length (shown_list next.shown))

-- a decode into a sink that never fails ends by no fault
abbrev pub IsNoFault : Outcome → Type 0
IsNoFault outcome.ReadFault = ⊥
IsNoFault outcome.WriteFault = ⊥
IsNoFault other = Unit {0}

abbrev pub IsSumOf : List ℕ → Sum → Type 0
IsSumOf text s = (s.bytes ≡ length text) × (s.sum ≡ sum_of text)

-- the sum of a text that was written whole, or how the decode ended
abbrev pub Sums : Outcome → List ℕ → Result Sum NoLine → Type 0
Sums ended text (Ok s) = (ended ≡ outcome.Done) × IsSumOf text s
Sums ended text (Err (Broken stop)) = ended ≡ outcome.Broken stop
Sums ended text (Err OutOfMemory) = Unit {0}

-- the sum of an output that ends at the file's end, or the rule that is broken. Want of memory has no cause
abbrev pub Tells : Walked ℕ Rule → Result Sum NoLine → Type 0
Tells output (Ok s) = (output.ending ≡ None) × IsSumOf output.adds s
Tells output (Err (Broken stop)) = output.ending ≡ Some (stop.frame, stop.rule)
Tells output (Err OutOfMemory) = Unit {0}

-- why a trial has no line. Want of memory has no cause
abbrev pub HasNoLine : ℕ → ℕ → NoLine → Type 0
HasNoLine number count (Broken stop) = BreaksAt number count stop
HasNoLine number count OutOfMemory = Unit {0}
