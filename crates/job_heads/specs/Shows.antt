-- What a frame shows, and what is kept behind its close.
use Rattle.std.specs.Prelude.{◌≡◌, ℕ, Bool, true, Option, Some, None, if◌then◌else◌}
use Rattle.vp9_types.specs.declared.outcome.Outcome.TheVariants as outcome
use Rattle.vp9_types.specs.declared.shape.Shape.{Shape}
use Rattle.frame_headers.specs.HeaderState.{shape_of}
use Rattle.frame_headers.specs.declared.header.Header.{Header}
use Rattle.job_results.specs.frame_steps.declared.kept.Kept.{Kept}
use Rattle.job_results.specs.seq_decoder.Outputs.{first_of, fits_format}
use Rattle.job_results.specs.seq_decoder.declared.form.OutputForm.{OutputForm}
use Rattle.job_results.specs.declared.reads.RowReads.{RowReads}
use Rattle.job_results.specs.declared.result.ClosedFrame.{ClosedFrame}
use Rattle.job_results.specs.declared.result.JobResult.{JobResult}
use Rattle.job_results.specs.declared.result.JobResult.TheVariants as result
use Rattle.job_results.specs.declared.result.ShownFrame.{ShownFrame}

-- it can be put next
abbrev pub admits_it : OutputForm → Option ShownFrame → Bool
admits_it form None = true
admits_it form (Some s) = fits_format form.format form.first s.shape

-- how the next frame is put behind it
abbrev pub form_behind : OutputForm → Option ShownFrame → OutputForm
form_behind form None = form
form_behind form (Some s) = record form { first = Some (first_of form.first s.shape) }

-- what a slot holds, by the number of its frame and its shape
abbrev pub held_in : Option ℕ → Option Shape → Option ShownFrame
held_in None shape = None
held_in (Some frame) None = None
held_in (Some frame) (Some shape) = Some (record { frame = frame; shape = shape })

-- what a coded frame of this number shows
abbrev pub shown_by : ℕ → Header → Option ShownFrame
shown_by number header = if header.show_frame then Some (record { frame = number; shape = shape_of header }) else None

-- the same with another form
abbrev pub with_form : Kept → OutputForm → Kept
with_form kept form = record kept { form = form }

-- a closed frame of so many tile columns and rows, which reads this of other frames, shows this and leaves that
abbrev pub closed_by : Kept → ℕ → ℕ → RowReads → Option ShownFrame → ClosedFrame
closed_by kept columns rows reads shown =
    record { kept = with_form kept (form_behind kept.form shown); columns = columns; rows = rows; reads = reads; shown = shown; form = kept.form }

-- the frame is closed so, or memory is wanting
abbrev pub IsClosing : Kept → ℕ → ℕ → RowReads → Option ShownFrame → JobResult → Type 0
IsClosing kept columns rows reads shown (result.Closed k) = k.value ≡ closed_by kept columns rows reads shown
IsClosing kept columns rows reads shown (result.Ended o) = o ≡ outcome.OutOfMemory
IsClosing kept columns rows reads shown _ = ⊥
