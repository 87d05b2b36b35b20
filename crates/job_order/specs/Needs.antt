-- What each job needs of other jobs.
use Rattle.std.specs.Prelude.{◌≡◌, ℕ, ◌+◌, ◌≤◌, ◌<◌, ◌⊎◌, List, [], ◌∷◌, Option, Some, None}
use Rattle.vp9_types.specs.declared.job.JobName.{JobName}
use Rattle.vp9_types.specs.declared.job.JobName.TheVariants.{Head, Column, Close, Rows, Filter, Write, End}
use Rattle.vp9_types.specs.declared.job.BandSpan.{BandSpan}
use Rattle.job_order.specs.declared.segment.Segment.{Segment}
use Rattle.job_order.specs.declared.segment.Segment.TheVariants.{Build}
use Rattle.job_order.specs.declared.segment.Shown.{Shown}
use Rattle.job_order.specs.JobSegments.{IsListed, IsPublished}

abbrev pub IsLastRow : List Segment → ℕ → ℕ → Type 0
IsLastRow segments f row = (columns : ℕ) × (shown : Option Shown) × IsPublished segments (Build f columns (row + 1) shown)

-- The filter of a row publishes the band before it, since it changes that band's last samples; the last one also its own.
abbrev pub Publishes : List Segment → ℕ → ℕ → ℕ → Type 0
Publishes segments f row band = IsListed segments (Filter f row) × ((row ≡ band + 1) ⊎ ((row ≡ band) × IsLastRow segments f row))

-- the band is in the span
abbrev pub IsInSpan : Option BandSpan → ℕ → ℕ → Type 0
IsInSpan None f band = ⊥
IsInSpan (Some span) f band = (span.frame ≡ f) × (span.first ≤ band) × (band ≤ span.last)

-- it is in one of the spans
abbrev pub HasBand : List (Option BandSpan) → ℕ → ℕ → Type 0
HasBand [] f band = ⊥
HasBand (span ∷ more) f band = IsInSpan span f band ⊎ HasBand more f band

-- frame f shows a frame that has this band
abbrev pub ShowsBand : List Segment → ℕ → ℕ → ℕ → Type 0
ShowsBand segments f g band =
    (columns : ℕ) × (rows : ℕ) × (shown : Shown) × IsPublished segments (Build f columns rows (Some shown)) × (shown.frame ≡ g) × (band < shown.bands)

-- frame f has this band
abbrev pub HasOwnBand : List Segment → ℕ → ℕ → Type 0
HasOwnBand segments f band = (columns : ℕ) × (rows : ℕ) × (shown : Option Shown) × IsPublished segments (Build f columns rows shown) × (band < rows)

-- a band of frame g that the job needs; `reads` is what a job of a superblock row of a column reads of other frames
abbrev pub NeedsBand : List Segment → List (Option BandSpan) → JobName → ℕ → ℕ → Type 0
NeedsBand segments reads (Rows f c r) g band = HasBand reads g band
NeedsBand segments reads (Write f) g band = ((g ≡ f) × HasOwnBand segments f band) ⊎ ShowsBand segments f g band
NeedsBand segments reads _ g band = ⊥

-- The first job needs the second: by name, or since the second publishes a band that the first needs.
abbrev pub IsNeed : List Segment → ℕ → List (Option BandSpan) → JobName → JobName → Type 0
IsNeed segments window reads (Head f) (Close g) = f ≡ g + 1
IsNeed segments window reads (Head f) (Write g) = f ≡ g + window
IsNeed segments window reads (Column f c) (Head g) = g ≡ f
IsNeed segments window reads (Close f) (Head g) = g ≡ f
IsNeed segments window reads (Close f) (Column g c) = (g ≡ f) × IsListed segments (Column g c)
IsNeed segments window reads (Rows f c r) (Close g) = g ≡ f
IsNeed segments window reads (Rows f c r) (Rows g d q) = (g ≡ f) × (d ≡ c) × (r ≡ q + 1)
IsNeed segments window reads (Rows f c r) (Filter g q) = (band : ℕ) × NeedsBand segments reads (Rows f c r) g band × Publishes segments g q band
IsNeed segments window reads (Filter f r) (Rows g c q) = (g ≡ f) × (q ≡ r) × IsListed segments (Rows g c q)
IsNeed segments window reads (Filter f r) (Filter g q) = (g ≡ f) × (r ≡ q + 1)
IsNeed segments window reads (Write f) (Close g) = g ≡ f
IsNeed segments window reads (Write f) (Filter g q) = (band : ℕ) × NeedsBand segments reads (Write f) g band × Publishes segments g q band
IsNeed segments window reads (Write f) (Write g) = f ≡ g + 1
IsNeed segments window reads (End f) (Write g) = f ≡ g + 1
IsNeed segments window reads _ _ = ⊥
