-- What is kept of frames that are decoded, for those that come behind them.
use Rattle.std.specs.Prelude.{◌≡◌, ◌<◌, ℕ, zero, suc, List, [], ◌∷◌, ◌++◌, length, map, None, All}
use Rattle.vp9_types.specs.declared.job.JobName.TheVariants.{Head}
use Rattle.frame_output.specs.declared.rendering.Format.{Format}
use Rattle.job_crew.specs.Left.{HasRightResults}
use Rattle.job_crew.specs.Runs.{IsDue}
use Rattle.job_crew.specs.declared.left.FrameResults.{FrameResults}
use Rattle.job_rows.specs.numbered_frames.Films.{Film}
use Rattle.job_rows.specs.numbered_frames.FrameNumbers.{EndsAt}
use Rattle.job_rows.specs.job_results.Meaning.{decode_rules, decode_truth}
use Rattle.job_rows.specs.job_results.declared.result.JobResult.{JobResult}
use Rattle.job_decoder.specs.declared.past.Past.{Past}

---- Frames as numbers ----

-- each byte and one more, and a 0 behind each frame
abbrev pub numbers_of : List (List ℕ) → List ℕ
numbers_of [] = []
numbers_of (frame ∷ frames) = map (λ b. suc b) frame ++ 0 ∷ numbers_of frames

abbrev pub with_byte : ℕ → List (List ℕ) → List (List ℕ)
with_byte b [] = (b ∷ []) ∷ []
with_byte b (frame ∷ frames) = (b ∷ frame) ∷ frames

-- the frames that have these numbers
abbrev pub frames_by : List ℕ → List (List ℕ)
frames_by [] = []
frames_by (zero ∷ numbers) = [] ∷ frames_by numbers
frames_by (suc b ∷ numbers) = with_byte b (frames_by numbers)

---- The past ----

-- the frames that are decoded
abbrev pub frames_behind : Past → List (List ℕ)
frames_behind p = frames_by p.frames.numbers

-- a film of these frames, with nothing behind them
abbrev pub film_with : ℕ × ℕ → List (List ℕ) → Film
film_with rate frames = record { rate = rate; frames = frames; ending = None }

-- these are right results of a frame of the film
pub record IsKept (format : Format) (film : Film) (results : FrameResults JobResult) : Type 0 where
  pub right : HasRightResults (decode_truth format film) results
  pub within : results.frame < length film.frames

-- All these frames are decoded, none breaks a rule, and what is kept of them is right.
pub record IsPast (format : Format) (rate : ℕ × ℕ) (p : Past) : Type 0 where
  pub numbers : p.frames.numbers ≡ numbers_of (frames_behind p)
  pub count : p.count ≡ length (frames_behind p)
  pub decoded : EndsAt format (film_with rate (frames_behind p)) p.count None
  pub kept : All (IsKept format (film_with rate (frames_behind p))) p.kept.items
  pub due : IsDue (decode_rules format (film_with rate (frames_behind p))) (decode_truth format (film_with rate (frames_behind p))) (Head p.count)
