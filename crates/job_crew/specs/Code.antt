-- What the crew keeps of the jobs and of its seats.
use Rattle.std.specs.Prelude.{◌≡◌, ℕ, ◌+◌, ◌<◌, ◌≤◌, ◌⊎◌, Bool, true, false, List, [], ◌∷◌, ◌++◌, length, map, Option, Some, None, All, slice_get, slice_set, nat_eq, nat_lt, if◌then◌else◌}
use Rattle.std.specs.List.{find, remove, filter, list_any}
use Rattle.std.specs.Option.{option_eq}
use Rattle.vp9_types.specs.declared.job.JobName.{JobName}
use Rattle.vp9_types.specs.declared.job.JobName.TheVariants.{Head, Column, Close, Rows, Filter, Write, End}
use Rattle.job_order.specs.declared.segment.Segment.{Segment}
use Rattle.job_order.specs.declared.segment.Segment.TheVariants.{Build, Last}
use Rattle.job_order.specs.declared.segment.Shown.{Shown}
use Rattle.job_order.specs.declared.order.Mark.{Mark}
use Rattle.job_order.specs.JobSegments.{jobs_of, jobs_in, job_at, InOrder, IsListed, StandsAt}
use Rattle.job_order.specs.Worlds.{Rules, and_published}
use Rattle.job_order.specs.Truths.{Truth}
use Rattle.job_order.specs.Code.{IsMark}
use Rattle.progress_board.specs.Code.{BoardParts, SeatParts}
use Rattle.job_crew.specs.Runs.{IsDue}
use Rattle.job_crew.specs.Events.{IsDoneBy}

-- each job of a segment is due
abbrev pub AreDue : {X : Type 0} → Rules X → Truth X → Segment → Type 0
AreDue m t s = (place : ℕ) (job : JobName) → slice_get (jobs_of s) place ≡ Some job → IsDue m t job

-- the segment may stand behind these
pub record Fits (segments : List Segment) (s : Segment) : Type 0 where
  pub at : StandsAt (length segments) s
  pub shown : (f columns rows : ℕ) (shown : Shown) → s ≡ Build f columns rows (Some shown) → shown.frame ≤ f
  pub goes_on : (place f : ℕ) → place + 1 ≡ length segments → slice_get segments place ≡ Some (Last f) → ⊥

-- the result of the job is asked for by jobs of its own frame, and of later frames by those of the next one alone
abbrev pub HasHeadCell : JobName → Type 0
HasHeadCell (Head f) = Unit {0}
HasHeadCell (Column f c) = ⊥
HasHeadCell (Close f) = Unit {0}
HasHeadCell (Rows f c r) = ⊥
HasHeadCell (Filter f r) = ⊥
HasHeadCell (Write f) = ⊥
HasHeadCell (End f) = ⊥

-- a frame of so many superblock rows keeps the result of the job as long as jobs of any later frame may ask for it
abbrev pub HasRowCell : ℕ → JobName → Type 0
HasRowCell rows (Head f) = ⊥
HasRowCell rows (Column f c) = ⊥
HasRowCell rows (Close f) = ⊥
HasRowCell rows (Rows f c r) = ⊥
HasRowCell rows (Filter f r) = r < rows
HasRowCell rows (Write f) = Unit {0}
HasRowCell rows (End f) = ⊥

-- it keeps the result of the job in one of these ways
abbrev pub HasLastingCell : ℕ → JobName → Type 0
HasLastingCell rows job = HasHeadCell job ⊎ HasRowCell rows job

-- what is kept by superblock row and may still be asked for when the job is finished: once a row is filtered, that row, unless it is the last one,
-- and all below it
abbrev pub StripsStay : {A : Type 0} → JobName → List A → List A → Type 0
StripsStay (Filter f r) old new = (k : ℕ) → r ≤ k → k + 1 < length old → slice_get new k ≡ slice_get old k
StripsStay job old new = new ≡ old

-- one of them goes, if there is one of this number
abbrev pub gone_at : {A : Type 0} → Option ℕ → List (Option A) → List (Option A)
gone_at None strips = strips
gone_at (Some r) strips = if nat_lt r (length strips) then slice_set strips r None else strips

-- tile columns stay until the frame is written
abbrev pub ColumnsStay : {A : Type 0} → JobName → A → A → Type 0
ColumnsStay (Write f) old new = Unit {0}
ColumnsStay job old new = new ≡ old

-- how many frames may be at work, what is published, the jobs that were drawn and not begun, how many were drawn, which of these are
-- finished (those below a base, and those with a mark), how many names it has room for, and whether the run is over
pub record PoolParts : Type 0 where
  pub window : ℕ
  pub segments : List Segment
  pub names : List JobName
  pub drawn : ℕ
  pub base : ℕ
  pub marks : List Bool
  pub room : ℕ
  pub over : Bool

pub record IsPool {X : Type 0} (m : Rules X) (t : Truth X) (segments : List Segment) (names : List JobName) (mark : Mark) (published drawn : ℕ) : Type 0 where
  pub order : InOrder segments
  pub marked : IsMark segments mark
  pub later : mark.ticket ≤ drawn
  pub tickets : published ≡ length (jobs_in segments)
  pub listed : All (IsListed segments) names
  pub due : (job : JobName) → IsListed segments job → IsDue m t job

-- the job is finished
abbrev pub IsDone : PoolParts → JobName → Type 0
IsDone pool job = IsDoneBy pool.segments pool.base pool.marks job

-- the segment is put behind the others, with its first ticket, if there is one
abbrev pub HasPut : List Segment → List ℕ → ℕ → Option Segment → List Segment → List ℕ → ℕ → Type 0
HasPut segments starts published None new_segments new_starts new_published =
    (new_segments ≡ segments) × (new_starts ≡ starts) × (new_published ≡ published)
HasPut segments starts published (Some s) new_segments new_starts new_published =
    Fits segments s × (new_segments ≡ segments ++ s ∷ []) × (new_starts ≡ starts ++ published ∷ []) × (new_published ≡ published + length (jobs_of s))

-- the job of the next ticket is put in, as the last
abbrev pub Puts : PoolParts → ℕ → JobName → PoolParts → Type 0
Puts old ticket job new =
    (ticket ≡ old.drawn) × (job_at old.segments ticket ≡ Some job) × (new ≡ record old { names = old.names ++ job ∷ []; drawn = ticket + 1; marks = old.marks ++ false ∷ [] })

-- The job, which was drawn and not finished, is finished. What it publishes comes next, and the run is over, if so.
abbrev pub Finishes : PoolParts → JobName → Option Segment → Bool → PoolParts → Type 0
Finishes old job publishes ends new =
    (at : ℕ) × (job_at old.segments (old.base + at) ≡ Some job) × (slice_get old.marks at ≡ Some false) × ((s : Segment) → publishes ≡ Some s → Fits old.segments s)
    × (new ≡ record old { segments = and_published old.segments publishes; marks = slice_set old.marks at true; over = ends })

-- the job at this place is taken out
abbrev pub TakesOut : PoolParts → ℕ → JobName → PoolParts → Type 0
TakesOut old at job new = (slice_get old.names at ≡ Some job) × (new ≡ record old { names = remove old.names at })

-- the seat is of the board, and has no slot
abbrev pub IsSeated : BoardParts → SeatParts → Type 0
IsSeated board seat = (seat.board ≡ board.board) × (seat.view.has ≡ [])

-- and after a call it is so still, and leads as it did
abbrev pub IsSeatedStill : SeatParts → SeatParts → Type 0
IsSeatedStill old new = (new.board ≡ old.board) × (new.view.has ≡ []) × (new.view.leads ≡ old.view.leads) × (new.view.out ≡ old.view.out)

-- after it has taken the outlet
abbrev pub IsAway : SeatParts → SeatParts → Type 0
IsAway old new = (new.board ≡ old.board) × (new.view.has ≡ 1 ∷ []) × (new.view.leads ≡ old.view.leads) × (new.view.out ≡ old.view.out)

-- what f is of each, the list first, which tells the type of what f takes
abbrev pub mapped : {A B : Type 0} → List A → (A → B) → List B
mapped xs f = map f xs

-- the frame is named as live
abbrev pub is_named : List (Option ℕ) → ℕ → Bool
is_named live frame = list_any (λ name. option_eq nat_eq name (Some frame)) live

abbrev pub kept : List (Option ℕ) → List ℕ → List ℕ
kept live frames = filter (is_named live) frames

-- the first of them, and of the others those that are named
unfoldable pub narrowed : List (Option ℕ) → List ℕ → List ℕ
narrowed named [] = []
narrowed named (n ∷ frames) = n ∷ kept named frames

-- the first of these that has the number
abbrev pub numbered : {A : Type 0} → List A → (A → ℕ) → ℕ → Option A
numbered xs number n = find (λ x. nat_eq (number x) n) xs
