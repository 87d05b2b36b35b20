-- What the code answers.
use Rattle.std.specs.Prelude.{◌≡◌, ℕ, ◌+◌, ◌-◌, ◌*◌, ◌<◌, ◌≤◌, ◌^◌, length, take, slice_get, if◌then◌else◌, nat_lt, ◌⊎◌, List, [], ◌∷◌, Option, Some, None}
use Rattle.vp9_types.specs.declared.job.JobName.{JobName}
use Rattle.vp9_types.specs.declared.job.JobName.TheVariants.{Column, Rows, Filter}
use Rattle.vp9_types.specs.declared.job.BandSpan.{BandSpan}
use Rattle.job_order.specs.declared.segment.Segment.{Segment}
use Rattle.job_order.specs.declared.segment.Segment.TheVariants.{Parse, Build}
use Rattle.job_order.specs.declared.segment.Shown.{Shown}
use Rattle.job_order.specs.declared.needs.JobSpan.{JobSpan}
use Rattle.job_order.specs.declared.needs.JobSpan.TheVariants.{One, Columns, RowOf}
use Rattle.job_order.specs.declared.needs.Needs.{Needs}
use Rattle.job_order.specs.declared.order.Mark.{Mark}
use Rattle.job_order.specs.Needs.{HasBand, Publishes}
use Rattle.job_order.specs.JobSegments.{jobs_in}

-- the number of the next frame fits
abbrev pub HasNext : Segment → Type 0
HasNext (Build f columns rows shown) = f + 1 < 2 ^ 64
HasNext _ = Unit {0}

-- what is parsed of a frame is published, and how it is built
abbrev pub IsParsed : List Segment → ℕ → Type 0
IsParsed segments f = (columns : ℕ) × (slice_get segments (2 * f + 1) ≡ Some (Parse f columns))

abbrev pub IsBuilt : List Segment → ℕ → Type 0
IsBuilt segments f = (columns : ℕ) × (rows : ℕ) × (shown : Option Shown) × (slice_get segments (2 * f + 2) ≡ Some (Build f columns rows shown))

-- the job is one of the span
abbrev pub IsIn : JobSpan → JobName → Type 0
IsIn (One job) need = need ≡ job
IsIn (Columns f columns) (Column g c) = (g ≡ f) × (c < columns)
IsIn (RowOf f row columns) (Rows g c r) = (g ≡ f) × (r ≡ row) × (c < columns)
IsIn _ need = ⊥

abbrev pub IsInIf : Option JobSpan → JobName → Type 0
IsInIf None need = ⊥
IsInIf (Some span) need = IsIn span need

-- it is one of some spans
abbrev pub IsInOne : List (Option JobSpan) → JobName → Type 0
IsInOne [] need = ⊥
IsInOne (span ∷ more) need = IsInIf span need ⊎ IsInOne more need

-- the job of this kind so many frames, or rows, before
abbrev pub job_before : (ℕ → JobName) → ℕ → ℕ → Option JobSpan
job_before kind n back = if nat_lt n back then None else Some (One (kind (n - back)))

-- the first n bands of a frame
abbrev pub first_bands : ℕ → ℕ → Option BandSpan
first_bands f n = if nat_lt 0 n then Some (record { frame = f; first = 0; last = n - 1 }) else None

abbrev pub shown_bands : Option Shown → Option BandSpan
shown_bands None = None
shown_bands (Some shown) = first_bands shown.frame shown.bands

-- these jobs, and these bands
abbrev pub needs : Option JobSpan → Option JobSpan → List (Option BandSpan) → Needs
needs first second bands = record { jobs = first ∷ second ∷ []; bands = bands }

abbrev pub no_bands : List (Option BandSpan)
no_bands = None ∷ None ∷ None ∷ []

-- the job publishes a band of the spans
abbrev pub PublishesOne : List Segment → List (Option BandSpan) → JobName → Type 0
PublishesOne segments bands (Filter g row) = (band : ℕ) × HasBand bands g band × Publishes segments g row band
PublishesOne segments bands _ = ⊥

-- the job is named, or it publishes a band that is
abbrev pub Names : List Segment → Needs → JobName → Type 0
Names segments needs need = IsInOne needs.jobs need ⊎ PublishesOne segments needs.bands need

-- the mark stands at the first ticket of a segment, or behind them all
abbrev pub IsMark : List Segment → Mark → Type 0
IsMark segments mark = (mark.segment ≤ length segments) × (mark.ticket ≡ length (jobs_in (take mark.segment segments)))
