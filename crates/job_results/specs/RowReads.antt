-- The bands of other frames that a row of superblocks is predicted from.
use Rattle.std.specs.Prelude.{ℕ, List, [], ◌∷◌, map, slice_get, slice_index_or, Option, Some, None, Result, Ok, Err, Vec}
use Rattle.std.specs.declared.alloc.Global.{Global}
use Rattle.vp9_types.specs.declared.job.BandSpan.{BandSpan}
use Rattle.vp9_types.specs.declared.job.JobName.{JobName}
use Rattle.vp9_types.specs.declared.job.JobName.TheVariants.{Rows}
use Rattle.vp9_types.specs.declared.rule.Rule.{Rule}
use Rattle.frame_headers.specs.declared.header.FrameKind.{FrameKind}
use Rattle.frame_headers.specs.declared.header.FrameKind.TheVariants.{Key, IntraOnly, Inter}
use Rattle.frame_headers.specs.declared.header.References.{References}
use Rattle.frame_output.specs.declared.rendering.Format.{Format}
use Rattle.counting_reader.specs.Counting.{Settled}
use Rattle.band_needs.specs.declared.ranges.BandNeeds.{BandNeeds}
use Rattle.band_needs.specs.declared.ranges.BandRange.{BandRange}
use Rattle.numbered_frames.specs.frame_state.ColumnPlans.{ColumnRead, plan_of, tile_bytes}
use Rattle.numbered_frames.specs.frame_state.FrameReading.{infos}
use Rattle.frame_steps.specs.Kept.{number_in}
use Rattle.frame_steps.specs.StepResults.{row_needs_of}
use Rattle.numbered_frames.specs.Coded.{CodedFrame, coded}
use Rattle.numbered_frames.specs.Films.{Film}
use Rattle.job_results.specs.declared.reads.RowReads.{RowReads}

---- By the numbers of the frames that slots hold ----

-- some bands of the frame that a slot holds
abbrev pub span_of : Option ℕ → Option BandRange → Option BandSpan
span_of None bands = None
span_of (Some frame) None = None
span_of (Some frame) (Some bands) = Some (record { frame = frame; first = bands.first; last = bands.last })

-- those of the last, the golden and the altref reference
abbrev pub spans_of : List (Option ℕ) → References → BandNeeds → List (Option BandSpan)
spans_of numbers refs needs =
    span_of (slice_index_or numbers refs.last.slot None) needs.last
    ∷ span_of (slice_index_or numbers refs.golden.slot None) needs.golden
    ∷ span_of (slice_index_or numbers refs.altref.slot None) needs.altref ∷ []

abbrev pub no_spans : List (Option BandSpan)
no_spans = None ∷ None ∷ None ∷ []

-- a frame that isn't inter refers to no other one
abbrev pub spans_by : List (Option ℕ) → FrameKind → BandNeeds → List (Option BandSpan)
spans_by numbers Key needs = no_spans
spans_by numbers IntraOnly needs = no_spans
spans_by numbers (Inter fields) needs = spans_of numbers fields.references needs

---- Of a coded frame ----

-- what its row r of superblocks reads in a tile column that is read so
abbrev pub row_spans : CodedFrame → ℕ → Result (Settled ColumnRead) (ℕ × Rule) → List (Option BandSpan)
row_spans c r (Err stop) = no_spans
row_spans c r (Ok read) = spans_by (map number_in c.kept.state.slots) c.header.kind (row_needs_of c.header r (infos read.value.column.blocks))

-- in the k-th tile column: the bands that its blocks there are predicted from, of the frames that its references are
unfoldable pub row_reads : CodedFrame → ℕ → ℕ → List (Option BandSpan)
row_reads c k r = row_spans c r (plan_of c.by (tile_bytes c.bytes c.spans) k)

---- Of a job ----

abbrev pub reads_from : Option CodedFrame → ℕ → ℕ → List (Option BandSpan)
reads_from None k r = []
reads_from (Some c) k r = row_reads c k r

abbrev pub reads_of : Format → Film → JobName → List (Option BandSpan)
reads_of format film (Rows f k r) = reads_from (coded format film f) k r
reads_of format film _ = []

---- As the code keeps them ----

abbrev pub row_in : Option (Vec (List (Option BandSpan)) Global) → ℕ → Option (List (Option BandSpan))
row_in None r = None
row_in (Some rows) r = slice_get rows.items r

-- what is kept of a row of a tile column
abbrev pub kept_spans : RowReads → ℕ → ℕ → Option (List (Option BandSpan))
kept_spans reads k r = row_in (slice_get reads.columns.items k) r
