-- When the result of a job is right: it is what the definition of the decode has there, or want of memory where memory is taken.
use Rattle.std.specs.Prelude.{◌≡◌, ◌<◌, ◌⊎◌, ℕ, suc, ◌^◌, List, [], Option, Some, None, Result, Ok, Err, Contains}
use Rattle.vp9_types.specs.Shapes.{mi_rows}
use Rattle.vp9_types.specs.Sizes.{superblocks_along}
use Rattle.vp9_types.specs.declared.job.JobName.{JobName}
use Rattle.vp9_types.specs.declared.job.JobName.TheVariants as job
use Rattle.vp9_types.specs.declared.outcome.Outcome.{Outcome}
use Rattle.vp9_types.specs.declared.outcome.Outcome.TheVariants as outcome
use Rattle.vp9_types.specs.declared.rule.Rule.{Rule}
use Rattle.frame_headers.specs.Header.{head_of}
use Rattle.frame_headers.specs.HeaderState.{shape_of}
use Rattle.frame_headers.specs.declared.header.FrameHead.TheVariants as head
use Rattle.frame_output.specs.Formats.{output_text}
use Rattle.frame_output.specs.declared.rendering.Format.{Format}
use Rattle.counting_reader.specs.Counting.{Settled}
use Rattle.planes.specs.declared.frame_planes.FramePlanes.{FramePlanes}
use Rattle.numbered_frames.specs.frame_state.ColumnPlans.{ColumnRead, plan_of, tile_bytes}
use Rattle.numbered_frames.specs.frame_state.FrameReading.{FrameRead, all_blocks, blocks_read}
use Rattle.numbered_frames.specs.frame_state.Sources.{adapts}
use Rattle.numbered_frames.specs.frame_decoder.DecodedFrames.{raw, rebuilding}
use Rattle.loop_edges.specs.Cells.{setting_of}
use Rattle.frame_steps.specs.column_order.ColumnStrips.{column_from, column_to}
use Rattle.frame_steps.specs.recon_rows.OwnStrips.{HoldsStrip}
use Rattle.filter_rows.specs.Buffer.{HasFiltered}
use Rattle.frame_steps.specs.frame_close.Code.{GivesColumn}
use Rattle.frame_steps.specs.tile_syntax.declared.plans.Unplanned.{Unplanned}
use Rattle.numbered_frames.specs.seq_decoder.Outcomes.{outcome_at}
use Rattle.numbered_frames.specs.seq_decoder.Outputs.{Putting, is_first}
use Rattle.numbered_frames.specs.seq_decoder.DecoderState.{persist_of}
use Rattle.frame_steps.specs.StepResults.{AreRowNeeds, BeginsIn, IsSound, counts_of, sources_by}
use Rattle.frame_steps.specs.Kept.{MayFollow, StandsFor}
use Rattle.frame_steps.specs.declared.beginning.BegunFrame.{BegunFrame}
use Rattle.frame_steps.specs.declared.columns.PlannedColumn.{PlannedColumn}
use Rattle.numbered_frames.specs.Coded.{CodedFrame, coded, read_of, references}
use Rattle.numbered_frames.specs.FrameNumbers.{EndsAt, before, frame_at, text}
use Rattle.numbered_frames.specs.NumberedPictures.{pictures}
use Rattle.job_results.specs.ResultPlanes.{Keeps}
use Rattle.job_results.specs.RowReads.{kept_spans, reads_from}
use Rattle.job_results.specs.Slots.{slots_of}
use Rattle.job_results.specs.declared.any_planes.AnyPlanes.{AnyPlanes}
use Rattle.job_results.specs.declared.any_planes.AnyPlanes.TheVariants.{Bytes, Words}
use Rattle.job_results.specs.declared.result.ClosedFrame.{ClosedFrame}
use Rattle.job_results.specs.declared.result.JobResult.{JobResult}
use Rattle.job_results.specs.declared.result.JobResult.TheVariants as result
use Rattle.job_results.specs.declared.result.ShownFrame.{ShownFrame}
use Rattle.numbered_frames.specs.Films.{Film}
use Rattle.frame_steps.specs.tile_syntax.Code.{IsPlanAsRead}

---- The end of a run ----

abbrev pub outcome_of : Option (ℕ × Rule) → Outcome
outcome_of None = outcome.Done
outcome_of (Some stop) = outcome_at stop.0 stop.1

-- the run ends so at the frame, or memory is wanting
abbrev pub IsEnd : Format → Film → ℕ → Outcome → Type 0
IsEnd format film f o = (o ≡ outcome.OutOfMemory) ⊎ ((ending : Option (ℕ × Rule)) × EndsAt format film f ending × (o ≡ outcome_of ending))

---- Heads ----

-- the coded frame has begun
pub record IsBegunAs (c : CodedFrame) (b : BegunFrame) : Type 0 where
  pub sound : IsSound b
  pub bytes : b.bytes.now ≡ c.bytes
  pub header : b.setting.header ≡ c.header
  pub compressed : b.compressed ≡ c.compressed
  pub sources : sources_by b ≡ c.by
  pub begins : BeginsIn c.kept.state b

-- the frame shows what a slot holds
pub record ShowsSlot (format : Format) (film : Film) (f slot : ℕ) : Type 0 where
  pub kept : Putting
  pub reached : before format film f ≡ Some kept
  pub frame : List ℕ
  pub there : frame_at film f ≡ Some frame
  pub head : head_of (persist_of kept.state) frame ≡ Ok (head.ShowExisting slot)

abbrev pub IsHead : Format → Film → ℕ → JobResult → Type 0
IsHead format film f (result.Begun b) = (c : CodedFrame) × (coded format film f ≡ Some c) × IsBegunAs c b.value
IsHead format film f (result.Existing slot) = ShowsSlot format film f slot
IsHead format film f (result.Ended o) = IsEnd format film f o
IsHead format film f _ = ⊥

---- Tile columns ----

-- a tile column that is planned is so as it is read, and the bands are known that its rows need
abbrev pub IsPlannedAs : CodedFrame → ℕ → Result PlannedColumn Unplanned → Type 0
IsPlannedAs c k (Ok p) = IsPlanAsRead c.by (tile_bytes c.bytes c.spans) k p.plan × AreRowNeeds c.header p.plan.column.grid.blocks p.needs.items
IsPlannedAs c k (Err e) = Unit {0}

abbrev pub IsColumnAs : CodedFrame → ℕ → Result PlannedColumn Unplanned → Type 0
IsColumnAs c k r = GivesColumn (adapts c.header) (plan_of c.by (tile_bytes c.bytes c.spans) k) (counts_of r) × IsPlannedAs c k r

abbrev pub IsColumn : Format → Film → ℕ → ℕ → JobResult → Type 0
IsColumn format film f k (result.Column r) = (c : CodedFrame) × (coded format film f ≡ Some c) × IsColumnAs c k r
IsColumn format film f k _ = ⊥

---- Closes ----

-- what it shows has this text
abbrev pub shown_text : Format → Film → ClosedFrame → Option ShownFrame → List ℕ
shown_text format film k None = []
shown_text format film k (Some s) = output_text k.form.format k.form.rate (is_first k.form.first) s.shape (pictures format film s.frame).map

-- frame f is coded, and its tiles are all read
abbrev pub IsReadFrame : Format → Film → ℕ → Type 0
IsReadFrame format film f = (c : CodedFrame) × (coded format film f ≡ Some c) × ((read : FrameRead) × (read_of c ≡ Ok read))

-- it shows a frame as that was decoded
abbrev pub IsShown : Format → Film → Option ShownFrame → Type 0
IsShown format film None = Unit {0}
IsShown format film (Some s) = IsReadFrame format film s.frame × (s.shape ≡ (pictures format film s.frame).shape)

-- it is frame f itself, or one that a slot holds
abbrev pub IsNamed : Format → Film → ℕ → Option ShownFrame → Type 0
IsNamed format film f None = Unit {0}
IsNamed format film f (Some s) = (s.frame ≡ f) ⊎ Contains (slots_of (before format film f)) s.frame

-- it is of as many tile columns and rows of superblocks as the frame; of none where that shows a slot
abbrev pub IsBuiltAs : Option CodedFrame → ClosedFrame → Type 0
IsBuiltAs None k = (k.columns ≡ 0) × (k.rows ≡ 0)
IsBuiltAs (Some c) k = (k.columns ≡ 2 ^ c.header.params.tiles.columns_log2) × (k.rows ≡ superblocks_along (mi_rows (shape_of c.header)))
    × ((read : FrameRead) × (read_of c ≡ Ok read))

-- it has what each of its rows reads of other frames
abbrev pub HasReads : Option CodedFrame → ClosedFrame → Type 0
HasReads o k = (column row : ℕ) → column < k.columns → row < k.rows → kept_spans k.reads column row ≡ Some (reads_from o column row)

pub record IsClosedAs (format : Format) (film : Film) (f : ℕ) (k : ClosedFrame) : Type 0 where
  pub next : Putting
  pub reached : before format film (suc f) ≡ Some next
  pub stands : StandsFor k.kept next.state
  pub form : k.kept.form ≡ next.form
  pub may : MayFollow k.kept
  pub built : IsBuiltAs (coded format film f) k
  pub reads : HasReads (coded format film f) k
  pub shown : IsShown format film k.shown
  pub named : IsNamed format film f k.shown
  pub puts : text format film f ≡ shown_text format film k k.shown

abbrev pub IsClose : Format → Film → ℕ → JobResult → Type 0
IsClose format film f (result.Closed k) = IsClosedAs format film f k.value
IsClose format film f (result.Ended o) = IsEnd format film f o
IsClose format film f _ = ⊥

---- Rows of superblocks ----

-- planes hold a row of superblocks of the k-th tile column before the loop filter
pub record IsStripAs {X : Type 0} (c : CodedFrame) (k r : ℕ) (f : FramePlanes X) : Type 0 where
  pub read : Settled ColumnRead
  pub reads : plan_of c.by (tile_bytes c.bytes c.spans) k ≡ Ok read
  pub holds : HoldsStrip (rebuilding c.header (references c)) (column_from c.header k) (column_to c.header k) r read.value.column.blocks f

abbrev pub IsAnyStrip : CodedFrame → ℕ → ℕ → AnyPlanes → Type 0
IsAnyStrip c k r (Bytes f) = IsStripAs c k r f
IsAnyStrip c k r (Words f) = IsStripAs c k r f

abbrev pub IsStrip : Format → Film → ℕ → ℕ → ℕ → JobResult → Type 0
IsStrip format film f k r (result.Strip planes) = (c : CodedFrame) × (coded format film f ≡ Some c) × Keeps c.header.color.depth planes × IsAnyStrip c k r planes
IsStrip format film f k r result.Starved = Unit {0}
IsStrip format film f k r _ = ⊥

-- planes hold the rows that a row of superblocks leaves when it is filtered
pub record IsFilteredAs {X : Type 0} (c : CodedFrame) (r : ℕ) (f : FramePlanes X) : Type 0 where
  pub read : FrameRead
  pub reads : read_of c ≡ Ok read
  pub holds : HasFiltered (setting_of c.header) (all_blocks (blocks_read read)) (raw (rebuilding c.header (references c)) read.blocks) r f

abbrev pub IsAnyFiltered : CodedFrame → ℕ → AnyPlanes → Type 0
IsAnyFiltered c r (Bytes f) = IsFilteredAs c r f
IsAnyFiltered c r (Words f) = IsFilteredAs c r f

abbrev pub IsFiltered : Format → Film → ℕ → ℕ → JobResult → Type 0
IsFiltered format film f r (result.Filtered planes) = (c : CodedFrame) × (coded format film f ≡ Some c) × Keeps c.header.color.depth planes × IsAnyFiltered c r planes
IsFiltered format film f r result.Starved = Unit {0}
IsFiltered format film f r _ = ⊥

---- All jobs ----

abbrev pub IsWrite : JobResult → Type 0
IsWrite result.Written = Unit {0}
IsWrite (result.Refused fault) = Unit {0}
IsWrite _ = ⊥

abbrev pub IsEndResult : Format → Film → ℕ → JobResult → Type 0
IsEndResult format film f (result.Ended o) = IsEnd format film f o
IsEndResult format film f _ = ⊥

abbrev pub IsRight : Format → Film → JobName → JobResult → Type 0
IsRight format film (job.Head f) x = IsHead format film f x
IsRight format film (job.Column f k) x = IsColumn format film f k x
IsRight format film (job.Close f) x = IsClose format film f x
IsRight format film (job.Rows f k r) x = IsStrip format film f k r x
IsRight format film (job.Filter f r) x = IsFiltered format film f r x
IsRight format film (job.Write f) x = IsWrite x
IsRight format film (job.End f) x = IsEndResult format film f x
