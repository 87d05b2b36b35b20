-- What a run of a group of frames leaves.
use Rattle.std.specs.Prelude.{◌≡◌, ◌⊎◌, ℕ, List, length, Option, None, nat_lt, if◌then◌else◌}
use Rattle.edge_io.specs.Putting.{Takes}
use Rattle.vp9_types.specs.declared.outcome.Outcome.{Outcome}
use Rattle.vp9_types.specs.declared.outcome.Outcome.TheVariants as outcome
use Rattle.frame_output.specs.declared.rendering.Format.{Format}
use Rattle.job_crew.specs.declared.left.FrameResults.{FrameResults}
use Rattle.job_order.specs.Sound.{texts_below}
use Rattle.job_rows.specs.seq_decoder.Outcomes.{Decodes}
use Rattle.job_rows.specs.numbered_frames.Films.{Film, GoesOn}
use Rattle.job_rows.specs.numbered_frames.FrameNumbers.{EndsAt, film_output, text}
use Rattle.job_crew.specs.Events.{HasEvents}
use Rattle.job_crew.specs.declared.outlet.Ending.{Ending}
use Rattle.job_rows.specs.job_results.Endings.{IsOutcome}
use Rattle.job_rows.specs.job_results.Groups.{group_rules}
use Rattle.job_rows.specs.job_results.declared.result.JobResult.{JobResult}

-- how many frames are at work at once, as asked for: from 2 to 16
abbrev pub frames_at_once : ℕ → ℕ
frames_at_once window = if nat_lt window 2 then 2 else (if nat_lt 16 window then 16 else window)

-- Events that were allowed one after another lead to a world in which a run has ended that tells this outcome; or memory was wanting to begin.
abbrev pub TellsEvents : ℕ → Format → Film → ℕ → Outcome → Type 0
TellsEvents n format film window o = (o ≡ outcome.OutOfMemory) ⊎ ((ending : Ending JobResult) × HasEvents (group_rules n format film) window ending × IsOutcome ending o)

-- the results as those of a frame of this number
abbrev pub renumbered : ℕ → FrameResults JobResult → FrameResults JobResult
renumbered number results = record { frame = number; close = results.close; filters = results.filters }

-- a sink that has taken the texts of a film's frames below one takes those below another
abbrev pub TakesOn : (ℕ → List ℕ) → ℕ → ℕ → Option (List ℕ) → Option (List ℕ) → Type 0
TakesOn text n k old new = (begun : Option (List ℕ)) → Takes begun old (texts_below text n) → Takes begun new (texts_below text k)

-- the decode of each film that goes on so has stopped
abbrev pub Stops : Format → Film → ℕ → Option (List ℕ) → Option (List ℕ) → ℕ → ℕ → Outcome → Type 0
Stops format film n old new faults now o =
    (more : Film) (begun : Option (List ℕ)) → GoesOn film more → Takes begun old (texts_below (text format film) n) → Decodes (film_output format more) begun new faults now o

-- The frames of a film from one on were decoded by a run: all of them are decoded and written, or the decode has stopped in them.
abbrev pub HasRun : Format → Film → ℕ → Option (List ℕ) → Option (List ℕ) → ℕ → ℕ → Outcome → Type 0
HasRun format film n old new faults now outcome.Done =
    EndsAt format film (length film.frames) None × (now ≡ faults) × TakesOn (text format film) n (length film.frames) old new
HasRun format film n old new faults now (outcome.Broken stop) = Stops format film n old new faults now (outcome.Broken stop)
HasRun format film n old new faults now outcome.ReadFault = ⊥
HasRun format film n old new faults now outcome.WriteFault = Stops format film n old new faults now outcome.WriteFault
HasRun format film n old new faults now outcome.OutOfMemory = Stops format film n old new faults now outcome.OutOfMemory
