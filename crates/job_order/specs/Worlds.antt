-- The world of jobs: what has happened so far, and what may happen next.
use Rattle.std.specs.Prelude.{◌≡◌, ℕ, ◌+◌, ◌⊎◌, Bool, true, false, List, [], ◌∷◌, ◌++◌, Option, Some, None, All, Contains}
use Rattle.vp9_types.specs.declared.job.JobName.{JobName}
use Rattle.vp9_types.specs.declared.job.JobName.TheVariants.{Head, Close, Filter}
use Rattle.vp9_types.specs.declared.job.BandSpan.{BandSpan}
use Rattle.job_order.specs.declared.segment.Segment.{Segment}
use Rattle.job_order.specs.declared.segment.Segment.TheVariants.{Opening, Parse, Build, Last}
use Rattle.job_order.specs.declared.segment.Shown.{Shown}
use Rattle.job_order.specs.declared.event.Done.{Done}
use Rattle.job_order.specs.declared.event.BandName.{BandName}
use Rattle.job_order.specs.declared.event.Event.{Event}
use Rattle.job_order.specs.declared.event.Event.TheVariants.{Draw, Finish, Announce, Stop}
use Rattle.job_order.specs.JobSegments.{IsBelow}
use Rattle.job_order.specs.Needs.{IsNeed, Publishes}

-- how a frame is built: its columns, its superblock rows, and the frame that it shows
pub record Building : Type 0 where
  pub columns : ℕ
  pub rows : ℕ
  pub shown : Option Shown

-- What jobs do, and what their results say.
pub record Rules (X : Type 0) : Type 1 where
  -- the job may have this result, from these results of other jobs
  pub does : JobName → List (Done X) → X → Type 0
  -- what a head's result says: how many columns are to be parsed, or nothing where the run ends
  pub parses : X → Option ℕ
  -- what a close's result says: how the frame is built, or nothing where the run ends
  pub builds : X → Option Building
  -- the bands of other frames that a job of a superblock row of a column reads, from the results so far
  pub reads : JobName → List (Done X) → List (Option BandSpan)
  -- what the write of a frame has put, and whether it was refused
  pub puts : ℕ → X → List ℕ
  pub fails : X → Bool

pub record WorldState (X : Type 0) : Type 0 where
  pub window : ℕ
  -- what is published, in ticket order
  pub segments : List Segment
  -- how many tickets are drawn
  pub drawn : ℕ
  -- the finished jobs with their results, the latest first
  pub finished : List (Done X)
  -- the bands that are announced
  pub announced : List BandName
  pub stopped : Bool

abbrev pub opening : {X : Type 0} → ℕ → WorldState X
opening window = record { window = window; segments = Opening ∷ []; drawn = 0; finished = []; announced = []; stopped = false }

-- the job has this result
abbrev pub HasResult : {X : Type 0} → List (Done X) → JobName → X → Type 0
HasResult [] job x = ⊥
HasResult (d ∷ earlier) job x = ((d.job ≡ job) × (d.result ≡ x)) ⊎ HasResult earlier job x

abbrev pub IsFinished : {X : Type 0} → List (Done X) → JobName → Type 0
IsFinished {X} finished job = (x : X) × HasResult finished job x

-- the segment that a job's result publishes
abbrev pub parsed : ℕ → Option ℕ → Segment
parsed f (Some columns) = Parse f columns
parsed f None = Last f

abbrev pub built : ℕ → Option Building → Segment
built f (Some b) = Build f b.columns b.rows b.shown
built f None = Last f

abbrev pub published : {X : Type 0} → Rules X → JobName → X → Option Segment
published m (Head f) x = Some (parsed f (m.parses x))
published m (Close f) x = Some (built f (m.builds x))
published m _ x = None

abbrev pub and_published : List Segment → Option Segment → List Segment
and_published segments None = segments
and_published segments (Some s) = segments ++ s ∷ []

-- the opening segment, and those of the finished heads and closes
abbrev pub segments_of : {X : Type 0} → Rules X → List (Done X) → List Segment
segments_of m [] = Opening ∷ []
segments_of m (d ∷ earlier) = and_published (segments_of m earlier) (published m d.job d.result)

-- the world after an event
abbrev pub after : {X : Type 0} → Rules X → WorldState X → Event X → WorldState X
after m w Draw = record w { drawn = w.drawn + 1 }
after m w (Finish job x publishes) =
    record w { finished = record { job = job; result = x } ∷ w.finished; segments = and_published w.segments (published m job x) }
after m w (Announce f band) = record w { announced = record { frame = f; band = band } ∷ w.announced }
after m w Stop = record w { stopped = true }

-- and after one event after another
abbrev pub run : {X : Type 0} → Rules X → WorldState X → List (Event X) → WorldState X
run m w [] = w
run m w (e ∷ events) = run m (after m w e) events

-- the ticket of the job is drawn
abbrev pub IsDrawn : {X : Type 0} → WorldState X → JobName → Type 0
IsDrawn w job = IsBelow w.segments w.drawn job

-- a job needs another as this world stands
abbrev pub NeedsIn : {X : Type 0} → Rules X → WorldState X → JobName → JobName → Type 0
NeedsIn m w job need = IsNeed w.segments w.window (m.reads job w.finished) job need

-- a need of the job, or a need of those in turn
pub data IsBehind {X : Type 0} (m : Rules X) (w : WorldState X) : JobName → JobName → Type 0 where
  direct : (job need : JobName) → NeedsIn m w job need → IsBehind m w job need
  further : (job need other : JobName) → NeedsIn m w job need → IsBehind m w need other → IsBehind m w job other

-- the job's result is made of results of its needs, and of the needs of these in turn
abbrev pub Does : {X : Type 0} → Rules X → WorldState X → JobName → X → Type 0
Does {X} m w job x = (uses : List (Done X)) × All (λ d. HasResult w.finished d.job d.result × IsBehind m w job d.job) uses × m.does job uses x

-- the job is drawn, it isn't finished, and its needs are
pub record IsReady {X : Type 0} (m : Rules X) (w : WorldState X) (job : JobName) : Type 0 where
  pub drawn : IsDrawn w job
  pub unfinished : ¬ IsFinished w.finished job
  pub needs : (need : JobName) → NeedsIn m w job need → IsFinished w.finished need

-- a finished filter has published the band, and it isn't announced yet
pub record CanAnnounce {X : Type 0} (w : WorldState X) (f band : ℕ) : Type 0 where
  pub is_published : (row : ℕ) × IsFinished w.finished (Filter f row) × Publishes w.segments f row band
  pub is_new : ¬ Contains w.announced (record { frame = f; band = band })

-- what may happen in a world
abbrev pub IsAllowed : {X : Type 0} → Rules X → WorldState X → Event X → Type 0
IsAllowed m w Draw = Unit {0}
IsAllowed m w (Finish job x publishes) = IsReady m w job × Does m w job x × (publishes ≡ published m job x)
IsAllowed m w (Announce f band) = CanAnnounce w f band
IsAllowed m w Stop = Unit {0}

-- and each of these events after those before it
abbrev pub AreAllowed : {X : Type 0} → Rules X → WorldState X → List (Event X) → Type 0
AreAllowed m w [] = Unit {0}
AreAllowed m w (e ∷ events) = IsAllowed m w e × AreAllowed m (after m w e) events

-- Events that were allowed one after another lead to this world.
abbrev pub IsReached : {X : Type 0} → Rules X → ℕ → WorldState X → Type 0
IsReached {X} m window w = (events : List (Event X)) × AreAllowed m (opening window) events × (w ≡ run m (opening window) events)
