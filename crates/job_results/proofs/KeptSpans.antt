-- What is kept of a row is found where it stands; there are three spans of each row.
use Rattle.std.proofs.Common.{◌≡◌, ◌∙◌, ◌<◌, ℕ, List, length, map, get_or, inl, inr, refl, sym, ap, subst}
use Rattle.std.specs.Prelude.{IsSome, Option, Some, None, Result, Ok, Err, Vec, slice_get}
use Rattle.std.specs.declared.alloc.Global.{Global}
use Rattle.std.proofs.lemmas.Bool.{cases_lt}
use Rattle.std.proofs.lemmas.Option.{slice_get-get_or, slice_get_past}
use Rattle.vp9_types.specs.declared.job.BandSpan.{BandSpan}
use Rattle.vp9_types.specs.declared.rule.Rule.{Rule}
use Rattle.band_needs.specs.declared.ranges.BandNeeds.{BandNeeds}
use Rattle.counting_reader.specs.Counting.{Settled}
use Rattle.frame_headers.specs.declared.header.FrameKind.{FrameKind}
use Rattle.frame_headers.specs.declared.header.FrameKind.TheVariants.{Key, IntraOnly, Inter}
use Rattle.numbered_frames.specs.frame_state.ColumnPlans.{ColumnRead, plan_of, tile_bytes}
use Rattle.numbered_frames.specs.frame_state.FrameReading.{infos}
use Rattle.frame_steps.specs.Kept.{number_in}
use Rattle.frame_steps.specs.StepResults.{row_needs_of}
use Rattle.numbered_frames.specs.Coded.{CodedFrame}
use Rattle.job_results.specs.RowReads.{kept_spans, row_in, row_reads, row_spans, spans_by}
use Rattle.job_results.specs.declared.reads.RowReads.{RowReads}

not_none : {Y : Type 0} (o : Option Y) → o ≡ None → IsSome o → ⊥
not_none None is some = absurd cc
not_none (Some y) is some = absurd cc

low_by : {X Y : Type 0} (f : Option X → Option Y) (xs : List X) (k : ℕ) → f None ≡ None → IsSome (f (slice_get xs k)) → k < length xs
low_by f xs k none some = elim (cases_lt k (length xs)) [
  | inl low ↦ low
  | inr past ↦ absurd (not_none (f (slice_get xs k)) (ap f (slice_get_past xs k past) ∙ none) some)
]

pub column_low : (reads : RowReads) (k r : ℕ) → IsSome (kept_spans reads k r) → k < length reads.columns.items
column_low reads k r some = low_by (λ o. row_in o r) reads.columns.items k refl some

there : (reads : RowReads) (k r : ℕ) (rows : Vec (List (Option BandSpan)) Global) → IsSome (kept_spans reads k r) → rows ≡ get_or reads.columns.items k rows → kept_spans reads k r ≡ slice_get rows.items r
there reads k r rows some is = ap (λ o. row_in o r) (slice_get-get_or reads.columns.items k rows (column_low reads k r some) ∙ ap Some (sym is))

pub row_low : (reads : RowReads) (k r : ℕ) (rows : Vec (List (Option BandSpan)) Global) → IsSome (kept_spans reads k r) → rows ≡ get_or reads.columns.items k rows → r < length rows.items
row_low reads k r rows some is = low_by (λ o. o) rows.items r refl (subst IsSome (there reads k r rows some is) some)

pub spans_at : (reads : RowReads) (k r : ℕ) (rows : Vec (List (Option BandSpan)) Global) (spans : List (Option BandSpan)) → IsSome (kept_spans reads k r) → rows ≡ get_or reads.columns.items k rows
    → spans ≡ get_or rows.items r spans → kept_spans reads k r ≡ Some spans
spans_at reads k r rows spans some is at = there reads k r rows some is ∙ slice_get-get_or rows.items r spans (row_low reads k r rows some is) ∙ ap Some (sym at)

---- There are three ----

kind_spans : (numbers : List (Option ℕ)) (kind : FrameKind) (needs : BandNeeds) → length (spans_by numbers kind needs) ≡ 3
kind_spans numbers Key needs = refl
kind_spans numbers IntraOnly needs = refl
kind_spans numbers (Inter fields) needs = refl

plan_spans : (c : CodedFrame) (r : ℕ) (read : Result (Settled ColumnRead) (ℕ × Rule)) → length (row_spans c r read) ≡ 3
plan_spans c r (Ok read) = kind_spans (map number_in c.kept.state.slots) c.header.kind (row_needs_of c.header r (infos read.value.column.blocks))
plan_spans c r (Err stop) = refl

pub three_spans : (c : CodedFrame) (k r : ℕ) → length (row_reads c k r) ≡ 3
unfolding row_reads
three_spans c k r = plan_spans c r (plan_of c.by (tile_bytes c.bytes c.spans) k)
