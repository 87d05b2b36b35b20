-- Walks over the frames of a file, in order: what each frame adds, and the state behind it.
use Rattle.std.specs.Prelude.{ℕ, ◌+◌, List, [], ◌∷◌, ◌++◌, Option, Some, None, Result, Ok, Err}
use Rattle.vp9_types.specs.declared.rule.Rule.{Rule}
use Rattle.file_frames.specs.FileFrames.{FileFrames, frames_in}

-- what a frame adds, and the state behind it
pub record Added (S A : Type 0) : Type 0 where
  pub state : S
  pub adds : List A

-- What a frame of this number and these bytes makes of the state before it, or the fault at which the walk ends; and the
-- fault where a rule of the container is broken.
pub record Walk (S A E : Type 0) : Type 0 where
  pub start : S
  pub step : ℕ → S → List ℕ → Result (Added S A) E
  pub broken : Rule → E

-- all that was added, and the number of the frame that has a fault, with the fault, or None at the end of the file
pub record Walked (A E : Type 0) : Type 0 where
  pub adds : List A
  pub ending : Option (ℕ × E)

abbrev pub ended : {A E : Type 0} → Option (ℕ × E) → Walked A E
ended ending = record { adds = []; ending = ending }

abbrev pub adding : {A E : Type 0} → List A → Walked A E → Walked A E
adding adds more = record { adds = adds ++ more.adds; ending = more.ending }

abbrev pub followed : {S A E : Type 0} → ℕ → Result (Added S A) E → (S → Walked A E) → Walked A E
followed number (Ok added) more = adding added.adds (more added.state)
followed number (Err fault) more = ended (Some (number, fault))

-- frames in order, the first of this number and in this state, and behind them the end of the file or a broken rule
abbrev pub walk_from : {S A E : Type 0} → Walk S A E → ℕ → S → List (List ℕ) → Option Rule → Walked A E
walk_from w number state [] None = ended None
walk_from w number state [] (Some rule) = ended (Some (number, w.broken rule))
walk_from w number state (frame ∷ frames) rule = followed number (w.step number state frame) (λ next. walk_from w (number + 1) next frames rule)

abbrev pub walk : {S A E : Type 0} → Walk S A E → FileFrames → Walked A E
walk w file = walk_from w 0 w.start (frames_in file) file.ending
