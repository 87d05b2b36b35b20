-- What is decoded: frames, and how they end, whatever they are taken from.
use Rattle.std.specs.Prelude.{◌≡◌, ℕ, List, [], ◌++◌, Option, None}
use Rattle.vp9_types.specs.declared.rule.Rule.{Rule}
use Rattle.file_frames.specs.Containers.{rate_of_file}
use Rattle.file_frames.specs.FileFrames.{frames_in, frames_of_file}

-- how many frames a second are told, the bytes of the frames in order, and the rule that is broken behind them, if one is
pub record Film : Type 0 where
  pub rate : ℕ × ℕ
  pub frames : List (List ℕ)
  pub ending : Option Rule

-- what a file holds
abbrev pub film_of : List ℕ → Film
film_of bytes = record { rate = rate_of_file bytes; frames = frames_in (frames_of_file bytes); ending = (frames_of_file bytes).ending }

abbrev pub no_film : Film
no_film = record { rate = (0, 0); frames = []; ending = None }

-- the second has the frames of the first and more behind them, or none
pub record GoesOn (film more : Film) : Type 0 where
  pub rate : more.rate ≡ film.rate
  pub behind : List (List ℕ)
  pub frames : more.frames ≡ film.frames ++ behind
