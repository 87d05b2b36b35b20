-- The frames of a file, one after another.
use Rattle.std.specs.Prelude.{◌≡◌, ℕ, List, Option}
use Rattle.vp9_types.specs.declared.rule.Rule.{Rule}
use Rattle.file_frames.specs.FileFrames.{frames_in, frames_of_file}

-- these are the frames of a file, and how it ends behind them
pub record AreFrames (bytes : List ℕ) (frames : List (List ℕ)) (ending : Option Rule) : Type 0 where
  pub frames_are : frames ≡ frames_in (frames_of_file bytes)
  pub ending_is : ending ≡ (frames_of_file bytes).ending
