-- How a decode ends that takes its source as it goes.
use Rattle.std.specs.Prelude.{◌≡◌, ◌⊎◌, ℕ, ◌<◌, true, false, List, [], length, Option, Some, None}
use Rattle.edge_io.specs.Filling.{WhereTold}
use Rattle.edge_io.specs.Putting.{Takes}
use Rattle.edge_io.specs.SourceReading.{Gave}
use Rattle.vp9_types.specs.declared.outcome.Outcome.{Outcome}
use Rattle.vp9_types.specs.declared.outcome.Outcome.TheVariants as outcome
use Rattle.vp9_types.specs.declared.rule.Rule.{Rule}
use Rattle.frame_output.specs.declared.rendering.Format.{Format}
use Rattle.file_frames.specs.Containers.{is_webm}
use Rattle.file_frames.specs.FileFrames.{frames_in, frames_of_file}
use Rattle.job_decoder.specs.seq_decoder.Outcomes.{WritesFront}
use Rattle.job_decoder.specs.seq_decoder.Outputs.{output_of}

-- what is written of bytes ends so, and all of it is written
abbrev pub WritesAll : Format → List ℕ → Option (List ℕ) → Option (List ℕ) → Option (ℕ × Rule) → Type 0
WritesAll format bytes old new ending = ((output_of format bytes).ending ≡ ending) × Takes old new (output_of format bytes).adds

-- No frame of these bytes breaks a rule: if one is broken, it is that of a file which stops behind its frames.
abbrev pub BreaksNoFrame : Format → List ℕ → Type 0
BreaksNoFrame format bytes = (f : ℕ) (rule : Rule) → (output_of format bytes).ending ≡ Some (f, rule) → f ≡ length (frames_in (frames_of_file bytes))

-- A front of these bytes was taken before the source failed. No frame of its whole packets breaks a rule, and what they show is written;
-- of a WebM file nothing.
abbrev pub WritesTaken : Format → List ℕ → List ℕ → Option (List ℕ) → Option (List ℕ) → Type 0
WritesTaken format bytes front old new =
    ((is_webm bytes ≡ false) × BreaksNoFrame format front × Takes old new (output_of format front).adds) ⊎ ((is_webm bytes ≡ true) × Takes old new [])

-- The source didn't fail. Or it did, behind a front of a file that isn't a WebM file, and that front holds frames: the decode has ended
-- in these, by a rule that one of them breaks or for another cause.
abbrev pub MayHaveFailed : Option (List ℕ) → Option (List ℕ) → ℕ → ℕ → Type 0
MayHaveFailed rest left failed failed_now =
    (failed_now ≡ failed)
    ⊎ ((failed < failed_now) × ((front : List ℕ) × Gave rest left front × WhereTold rest (λ bytes. (is_webm bytes ≡ false) × (frames_in (frames_of_file front) ≡ [] → ⊥))))

-- Of a source: what it had and has left, where it tells that, and its count of faults before and now. Of a sink: what it had and has
-- taken, and its count of faults before and now. And the outcome.
abbrev pub DecodesSource : Format → Option (List ℕ) → Option (List ℕ) → ℕ → ℕ → Option (List ℕ) → Option (List ℕ) → ℕ → ℕ → Outcome → Type 0
DecodesSource format rest left failed failed_now old new faults faults_now outcome.Done =
    (failed_now ≡ failed) × (faults_now ≡ faults) × WhereTold rest (λ bytes. WritesAll format bytes old new None × (left ≡ Some []))
DecodesSource format rest left failed failed_now old new faults faults_now (outcome.Broken stop) =
    MayHaveFailed rest left failed failed_now × (faults_now ≡ faults) × ((front : List ℕ) × Gave rest left front)
    × WhereTold rest (λ bytes. WritesAll format bytes old new (Some (stop.frame, stop.rule)))
DecodesSource format rest left failed failed_now old new faults faults_now outcome.ReadFault =
    (failed < failed_now) × (faults_now ≡ faults) × ((front : List ℕ) × Gave rest left front × WhereTold rest (λ bytes. WritesTaken format bytes front old new))
DecodesSource format rest left failed failed_now old new faults faults_now outcome.WriteFault =
    MayHaveFailed rest left failed failed_now × (faults < faults_now) × WhereTold rest (λ bytes. WritesFront (output_of format bytes) old new)
DecodesSource format rest left failed failed_now old new faults faults_now outcome.OutOfMemory =
    MayHaveFailed rest left failed failed_now × (faults_now ≡ faults) × WhereTold rest (λ bytes. WritesFront (output_of format bytes) old new)
