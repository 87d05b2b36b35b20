-- The jobs of a decode in ticket order. They are published in segments: first the head of frame 0; then of each frame what
-- parses it, as its head says, and what builds it, as its close says.
use Rattle.std.specs.Prelude.{◌≡◌, ℕ, ◌+◌, ◌*◌, ◌≤◌, ◌<◌, ◌⊎◌, List, [], ◌∷◌, ◌++◌, length, map, flat_map, slice_get, Option, Some}
use Rattle.std.specs.List.{range_with_len}
use Rattle.vp9_types.specs.declared.job.JobName.{JobName}
use Rattle.vp9_types.specs.declared.job.JobName.TheVariants.{Head, Column, Close, Rows, Filter, Write, End}
use Rattle.job_order.specs.declared.segment.Segment.{Segment}
use Rattle.job_order.specs.declared.segment.Segment.TheVariants.{Opening, Parse, Build, Last}
use Rattle.job_order.specs.declared.segment.Shown.{Shown}

-- a superblock row in each column, and its filter
abbrev pub row_jobs : ℕ → ℕ → ℕ → List JobName
row_jobs f columns r = map (λ c. Rows f c r) (range_with_len 0 columns) ++ Filter f r ∷ []

abbrev pub jobs_of : Segment → List JobName
jobs_of Opening = Head 0 ∷ []
jobs_of (Parse f columns) = map (λ c. Column f c) (range_with_len 0 columns) ++ Close f ∷ []
jobs_of (Build f columns rows shown) = Head (f + 1) ∷ (flat_map (λ r. row_jobs f columns r) (range_with_len 0 rows) ++ Write f ∷ [])
jobs_of (Last f) = End f ∷ []

-- all jobs of the segments, in ticket order
abbrev pub jobs_in : List Segment → List JobName
jobs_in segments = flat_map jobs_of segments

-- the job of a ticket
abbrev pub job_at : List Segment → ℕ → Option JobName
job_at segments ticket = slice_get (jobs_in segments) ticket

-- the job has a ticket
abbrev pub IsListed : List Segment → JobName → Type 0
IsListed segments job = (ticket : ℕ) × (job_at segments ticket ≡ Some job)

-- it has one below this number
abbrev pub IsBelow : List Segment → ℕ → JobName → Type 0
IsBelow segments tickets job = (ticket : ℕ) × (ticket < tickets) × (job_at segments ticket ≡ Some job)

-- the segment is one of them
abbrev pub IsPublished : List Segment → Segment → Type 0
IsPublished segments s = (place : ℕ) × (slice_get segments place ≡ Some s)

-- where a segment stands: the opening one first, then of frame 0, of frame 1 and so on what parses it and what builds it.
-- The end of the run may stand in the place of either
abbrev pub StandsAt : ℕ → Segment → Type 0
StandsAt place Opening = place ≡ 0
StandsAt place (Parse f columns) = place ≡ 2 * f + 1
StandsAt place (Build f columns rows shown) = place ≡ 2 * f + 2
StandsAt place (Last f) = (place ≡ 2 * f + 1) ⊎ (place ≡ 2 * f + 2)

-- segments in ticket order. Nothing stands behind the end of the run, and a frame shows itself or one before it
pub record InOrder (segments : List Segment) : Type 0 where
  pub places : (place : ℕ) (s : Segment) → slice_get segments place ≡ Some s → StandsAt place s
  pub last : (place f : ℕ) → slice_get segments place ≡ Some (Last f) → place + 1 ≡ length segments
  pub shown : (f columns rows : ℕ) (shown : Shown) → IsPublished segments (Build f columns rows (Some shown)) → shown.frame ≤ f
