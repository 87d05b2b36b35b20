-- Which jobs are finished, as the crew has it: the world of jobs that its events have led to, and how a run ends in it.
use Rattle.std.specs.Prelude.{◌≡◌, ◌↔◌, ◌⊎◌, ℕ, ◌+◌, ◌≤◌, Bool, true, false, List, [], ◌∷◌, length, take, Option, Some, None, slice_get}
use Rattle.vp9_types.specs.declared.job.JobName.{JobName}
use Rattle.vp9_types.specs.declared.job.JobName.TheVariants.{Head, Close, Rows, Filter, Write, End}
use Rattle.vp9_types.specs.declared.job.BandSpan.{BandSpan}
use Rattle.job_order.specs.declared.segment.Segment.{Segment}
use Rattle.job_order.specs.declared.event.Done.{Done}
use Rattle.job_order.specs.JobSegments.{jobs_in, job_at, IsListed}
use Rattle.job_order.specs.Needs.{HasBand}
use Rattle.job_order.specs.Worlds.{Rules, WorldState, HasResult, IsFinished, IsReady, IsReached}
use Rattle.job_order.specs.Truths.{Truth}
use Rattle.job_crew.specs.Runs.{IsNoWrite}
use Rattle.job_crew.specs.declared.outlet.Ending.{Ending}
use Rattle.job_crew.specs.declared.outlet.Ending.TheVariants.{Whole, Refused}

-- A right result may come from no other results, that of a write behind another from the other's, which wasn't refused.
abbrev pub CanDo : {X : Type 0} → Rules X → Truth X → Type 0
CanDo {X} m t =
    ((job : JobName) (x : X) → IsNoWrite job → t.right job x → m.does job [] x) × ((x : X) → t.right (Write 0) x → m.does (Write 0) [] x)
    × ((f : ℕ) (x y : X) → m.fails x ≡ false → t.right (Write (f + 1)) y → m.does (Write (f + 1)) (record { job = Write f; result = x } ∷ []) y)

-- whatever results there are, these bands have all that the job reads
abbrev pub Covers : {X : Type 0} → Rules X → JobName → List (Option BandSpan) → Type 0
Covers {X} m (Rows f c r) reads = (results : List (Done X)) (g band : ℕ) → HasBand (m.reads (Rows f c r) results) g band → HasBand reads g band
Covers m _ reads = Unit {0}

-- the job's result is no refused write
abbrev pub HasPassed : {X : Type 0} → Rules X → JobName → X → Type 0
HasPassed m (Write f) x = m.fails x ≡ false
HasPassed m _ x = Unit {0}

-- the ticket stands below the base, or its mark is set
abbrev pub IsMarked : ℕ → List Bool → ℕ → Type 0
IsMarked base marks ticket = (n : ℕ) → ticket ≡ base + n → slice_get marks n ≡ Some true

-- the job's ticket is marked
abbrev pub IsDoneBy : List Segment → ℕ → List Bool → JobName → Type 0
IsDoneBy segments base marks job = (ticket : ℕ) × (job_at segments ticket ≡ Some job) × IsMarked base marks ticket

-- of each segment the first ticket
abbrev pub AreStarts : List Segment → List ℕ → Type 0
AreStarts segments starts =
    (length starts ≡ length segments) × ((place start : ℕ) → slice_get starts place ≡ Some start → start ≡ length (jobs_in (take place segments)))

-- The world was reached by events that were allowed. Its segments and tickets are these, and the marked jobs are those that are finished.
pub record IsWorld {X : Type 0} (m : Rules X) (own : ℕ) (published : List Segment) (tickets base : ℕ) (marks : List Bool) (over : Bool) (w : WorldState X) : Type 0 where
  pub reached : IsReached m own w
  pub window : w.window ≡ own
  pub segments : w.segments ≡ published
  pub drawn : w.drawn ≡ tickets
  pub listed : (job : JobName) → IsFinished w.finished job → IsListed published job
  pub done : (ticket : ℕ) (job : JobName) → job_at published ticket ≡ Some job → IsFinished w.finished job ↔ IsMarked base marks ticket
  -- filters of a frame are finished in order, and until the run is over no write was refused
  pub chain : (f r : ℕ) → IsFinished w.finished (Filter f (r + 1)) → IsFinished w.finished (Filter f r)
  pub passed : over ≡ false → (f : ℕ) (x : X) → HasResult w.finished (Write f) x → m.fails x ≡ false

-- what lies under the lock tells of such a world
pub record IsShop {X : Type 0} (m : Rules X) (t : Truth X) (own : ℕ) (published : List Segment) (starts : List ℕ) (tickets base : ℕ) (marks : List Bool) (over : Bool) : Type 0 where
  pub can : CanDo m t
  pub begins : AreStarts published starts
  pub few : tickets ≤ length (jobs_in published)
  pub long : base + length marks ≡ tickets
  pub world : (w : WorldState X) × IsWorld m own published tickets base marks over w

-- In a world that was reached by events that were allowed the job is ready.
abbrev pub MayBegin : {X : Type 0} → Rules X → ℕ → JobName → Type 0
MayBegin {X} m window job = (w : WorldState X) × IsReached m window w × IsReady m w job

-- and in such a world the job has this result.
abbrev pub IsLogged : {X : Type 0} → Rules X → ℕ → JobName → X → Type 0
IsLogged {X} m window job x = (w : WorldState X) × IsReached m window w × HasResult w.finished job x

-- in this world the run's last job has the result by which it ended
abbrev pub EndsIn : {X : Type 0} → WorldState X → Ending X → Type 0
EndsIn w (Whole f x) = HasResult w.finished (End f) x
EndsIn w (Refused f x) = HasResult w.finished (Write f) x

-- and so it is with as many frames at once as the run may have.
abbrev pub HasHappened : {X : Type 0} → Rules X → JobName → X → Type 0
HasHappened {X} m job x = (window : ℕ) × IsLogged m window job x

-- The frame's head or its close has happened with this result, which says that the run ends there.
abbrev pub HasEndedBy : {X : Type 0} → Rules X → ℕ → X → Type 0
HasEndedBy m f x = (HasHappened m (Head f) x × (m.parses x ≡ None)) ⊎ (HasHappened m (Close f) x × (m.builds x ≡ None))

-- Events that were allowed one after another lead to a world in which the run has ended so.
abbrev pub HasEvents : {X : Type 0} → Rules X → ℕ → Ending X → Type 0
HasEvents {X} m window ending = (w : WorldState X) × IsReached m window w × EndsIn w ending
