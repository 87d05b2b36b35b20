-- Where a decode stands behind a group of frames.
use Rattle.std.specs.Prelude.{◌≡◌, ℕ, List, ◌++◌, Option}
use Rattle.edge_io.specs.Putting.{Takes}
use Rattle.vp9_types.specs.declared.outcome.Outcome.{Outcome}
use Rattle.vp9_types.specs.declared.outcome.Outcome.TheVariants as outcome
use Rattle.frame_output.specs.declared.rendering.Format.{Format}
use Rattle.job_order.specs.Sound.{texts_below}
use Rattle.job_rows.specs.seq_decoder.Outcomes.{Decodes}
use Rattle.job_rows.specs.numbered_frames.Films.{Film, GoesOn}
use Rattle.job_rows.specs.numbered_frames.FrameNumbers.{film_output, text}
use Rattle.job_decoder.specs.declared.group.Reached.{Reached}
use Rattle.job_decoder.specs.declared.group.Reached.TheVariants.{Further, Ended}
use Rattle.job_decoder.specs.declared.past.Past.{Past}
use Rattle.job_decoder.specs.Pasts.{IsPast, film_with, frames_behind}

-- an outcome by which a decode stops before the end of its film
abbrev pub IsStop : Outcome → Type 0
IsStop outcome.Done = ⊥
IsStop (outcome.Broken stop) = Unit {0}
IsStop outcome.ReadFault = ⊥
IsStop outcome.WriteFault = Unit {0}
IsStop outcome.OutOfMemory = Unit {0}

-- the texts of all frames that are decoded
abbrev pub past_texts : Format → ℕ × ℕ → Past → List ℕ
past_texts format rate p = texts_below (text format (film_with rate (frames_behind p))) p.count

abbrev pub sink_of : {K : Type 0} → Reached K → K
sink_of (Further past sink) = sink
sink_of (Ended decoded) = decoded.sink

-- Behind the past these frames are decoded too, and a sink that has taken the texts of the past has taken theirs; or the decode has
-- stopped in them. It has stopped so whatever comes behind them. Of the sink: what it had and has taken, and its count of faults.
abbrev pub HasReached : {K : Type 0} → Format → ℕ × ℕ → Past → List (List ℕ) → Option (List ℕ) → ℕ → (K → Option (List ℕ)) → (K → ℕ) → Reached K → Type 0
HasReached format rate past frames old faults taken faults_of (Further p sink) =
    IsPast format rate p × (frames_behind p ≡ frames_behind past ++ frames) × (faults_of sink ≡ faults)
    × ((begun : Option (List ℕ)) → Takes begun old (past_texts format rate past) → Takes begun (taken sink) (past_texts format rate p))
HasReached format rate past frames old faults taken faults_of (Ended decoded) =
    IsStop decoded.outcome
    × ((film : Film) (begun : Option (List ℕ)) → GoesOn (film_with rate (frames_behind past ++ frames)) film → Takes begun old (past_texts format rate past)
    → Decodes (film_output format film) begun (taken decoded.sink) faults (faults_of decoded.sink) decoded.outcome)
