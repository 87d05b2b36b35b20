-- Frames of a film from one on, decoded by a run of their own, which numbers them from 0.
use Rattle.std.specs.Prelude.{ℕ, ◌+◌, ◌-◌, ◌<◌, ◌≤◌, List, [], ◌∷◌, map, nat_lt, Option, Some, None, if◌then◌else◌}
use Rattle.vp9_types.specs.Shapes.{mi_rows}
use Rattle.vp9_types.specs.Sizes.{superblocks_along}
use Rattle.vp9_types.specs.declared.job.BandSpan.{BandSpan}
use Rattle.vp9_types.specs.declared.job.JobName.{JobName}
use Rattle.vp9_types.specs.declared.job.JobName.TheVariants.{Head, Column, Close, Rows, Filter, Write, End}
use Rattle.frame_output.specs.declared.rendering.Format.{Format}
use Rattle.job_order.specs.Sound.{frame_of}
use Rattle.job_order.specs.Truths.{Truth}
use Rattle.job_order.specs.Worlds.{Building, Rules}
use Rattle.job_order.specs.declared.segment.Shown.{Shown}
use Rattle.numbered_frames.specs.Films.{Film}
use Rattle.numbered_frames.specs.FrameNumbers.{before, text}
use Rattle.numbered_frames.specs.NumberedPictures.{pictures}
use Rattle.job_results.specs.Meaning.{FollowsWrite, fails, parses, rows_of, text_put}
use Rattle.job_results.specs.RowReads.{reads_of}
use Rattle.job_results.specs.Slots.{slots_of}
use Rattle.job_results.specs.JobResults.{IsRight}
use Rattle.job_results.specs.declared.result.JobResult.{JobResult}
use Rattle.job_results.specs.declared.result.JobResult.TheVariants as result
use Rattle.job_results.specs.declared.result.ShownFrame.{ShownFrame}

-- the job of this kind of another frame
abbrev pub numbered : ℕ → JobName → JobName
numbered f (Head g) = Head f
numbered f (Column g c) = Column f c
numbered f (Close g) = Close f
numbered f (Rows g c r) = Rows f c r
numbered f (Filter g r) = Filter f r
numbered f (Write g) = Write f
numbered f (End g) = End f

-- the job of a frame of the group, by the frame's number in the film; the group begins with frame n
abbrev pub in_film : ℕ → JobName → JobName
in_film n job = numbered (n + frame_of job) job

-- what is shown, where that is a frame of the group. One before it is there already.
abbrev pub shown_in : ℕ → Option ShownFrame → Option Shown
shown_in n None = None
shown_in n (Some s) = if nat_lt s.frame n then None else Some (record { frame = s.frame - n; bands = rows_of s })

-- bands of a frame of the group. Those of one before it are there already.
abbrev pub span_in : ℕ → Option BandSpan → Option BandSpan
span_in n None = None
span_in n (Some s) = if nat_lt s.frame n then None else Some (record { frame = s.frame - n; first = s.first; last = s.last })

abbrev pub spans_in : ℕ → List (Option BandSpan) → List (Option BandSpan)
spans_in n spans = map (span_in n) spans

abbrev pub builds_in : ℕ → JobResult → Option Building
builds_in n (result.Closed k) = Some (record { columns = k.value.columns; rows = k.value.rows; shown = shown_in n k.value.shown })
builds_in n _ = None

abbrev pub group_rules : ℕ → Format → Film → Rules JobResult
group_rules n format film = record {
  does = λ job uses x. IsRight format film (in_film n job) x × FollowsWrite job uses;
  parses = parses;
  builds = builds_in n;
  reads = λ job results. spans_in n (reads_of format film (in_film n job));
  puts = λ f x. text_put (text format film (n + f)) x;
  fails = fails;
}

-- the frames of the group among these
abbrev pub numbers_in : ℕ → List ℕ → List ℕ
numbers_in n [] = []
numbers_in n (f ∷ frames) = if nat_lt f n then numbers_in n frames else (f - n) ∷ numbers_in n frames

abbrev pub group_truth : ℕ → Format → Film → Truth JobResult
group_truth n format film = record {
  right = λ job x. IsRight format film (in_film n job) x;
  bands = λ f. superblocks_along (mi_rows (pictures format film (n + f)).shape);
  slots = λ f. numbers_in n (slots_of (before format film (n + f)));
  text = λ f. text format film (n + f);
}

-- a job of a frame that the film has; a head may also be the one behind the last frame, and an end is anywhere
abbrev pub IsCounted : ℕ → JobName → Type 0
IsCounted count (Head f) = f ≤ count
IsCounted count (End f) = Unit {0}
IsCounted count job = frame_of job < count

-- the job is no end
abbrev pub IsNoEnd : JobName → Type 0
IsNoEnd (End f) = ⊥
IsNoEnd job = Unit {0}
