-- The meaning of a decode: what results say, and what they are to be.
use Rattle.std.specs.Prelude.{◌≡◌, ℕ, ◌+◌, ◌^◌, Bool, true, false, List, [], nat_lt, Option, Some, None, Contains, if◌then◌else◌}
use Rattle.vp9_types.specs.Shapes.{mi_rows}
use Rattle.vp9_types.specs.Sizes.{superblocks_along}
use Rattle.frame_output.specs.declared.rendering.Format.{Format}
use Rattle.job_order.specs.Truths.{Truth}
use Rattle.job_order.specs.Worlds.{Building, Rules}
use Rattle.job_order.specs.declared.event.Done.{Done}
use Rattle.job_order.specs.declared.segment.Shown.{Shown}
use Rattle.vp9_types.specs.declared.job.JobName.{JobName}
use Rattle.vp9_types.specs.declared.job.JobName.TheVariants.{Write}
use Rattle.numbered_frames.specs.FrameNumbers.{before, text}
use Rattle.numbered_frames.specs.NumberedPictures.{pictures}
use Rattle.job_results.specs.RowReads.{reads_of}
use Rattle.job_results.specs.Slots.{slots_of}
use Rattle.job_results.specs.JobResults.{IsRight}
use Rattle.job_results.specs.declared.result.JobResult.{JobResult}
use Rattle.job_results.specs.declared.result.JobResult.TheVariants as result
use Rattle.job_results.specs.declared.result.ShownFrame.{ShownFrame}
use Rattle.numbered_frames.specs.Films.{Film}

-- so many tile columns, of which a frame has no more than 256
abbrev pub columns_by : ℕ → Option ℕ
columns_by log2 = if nat_lt log2 9 then Some (2 ^ log2) else None

-- a frame that shows a slot has no tile columns
abbrev pub parses : JobResult → Option ℕ
parses (result.Begun b) = columns_by b.value.setting.header.params.tiles.columns_log2
parses (result.Existing slot) = Some 0
parses _ = None

abbrev pub rows_of : ShownFrame → ℕ
rows_of s = superblocks_along (mi_rows s.shape)

abbrev pub shown_as : Option ShownFrame → Option Shown
shown_as None = None
shown_as (Some s) = Some (record { frame = s.frame; bands = rows_of s })

abbrev pub builds : JobResult → Option Building
builds (result.Closed k) = Some (record { columns = k.value.columns; rows = k.value.rows; shown = shown_as k.value.shown })
builds _ = None

abbrev pub fails : JobResult → Bool
fails (result.Refused fault) = true
fails _ = false

-- What the write of a frame has put: the frame's text. Of a refused one nothing is counted, since its result doesn't tell how much it had put.
abbrev pub text_put : List ℕ → JobResult → List ℕ
text_put text x = if fails x then [] else text

-- a write that isn't the first comes behind one that wasn't refused
abbrev pub FollowsWrite : JobName → List (Done JobResult) → Type 0
FollowsWrite (Write f) uses = (g : ℕ) → f ≡ g + 1 → (x : JobResult) × (fails x ≡ false) × Contains uses (record { job = Write g; result = x })
FollowsWrite _ uses = Unit {0}

abbrev pub decode_rules : Format → Film → Rules JobResult
decode_rules format film = record {
  does = λ job uses x. IsRight format film job x × FollowsWrite job uses;
  parses = parses;
  builds = builds;
  reads = λ job results. reads_of format film job;
  puts = λ f x. text_put (text format film f) x;
  fails = fails;
}

abbrev pub decode_truth : Format → Film → Truth JobResult
decode_truth format film = record {
  right = IsRight format film;
  bands = λ f. superblocks_along (mi_rows (pictures format film f).shape);
  slots = λ f. slots_of (before format film f);
  text = text format film;
}
