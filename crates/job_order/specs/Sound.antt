-- What holds of a world that was reached by events that were allowed.
use Rattle.std.specs.Prelude.{◌≡◌, ℕ, zero, suc, ◌+◌, ◌≤◌, ◌<◌, ◌⊎◌, true, List, [], ◌∷◌, ◌++◌, length, Some, All, Contains}
use Rattle.vp9_types.specs.declared.job.JobName.{JobName}
use Rattle.vp9_types.specs.declared.job.JobName.TheVariants.{Head, Column, Close, Rows, Filter, Write, End}
use Rattle.job_order.specs.declared.event.Done.{Done}
use Rattle.job_order.specs.declared.event.Event.{Event}
use Rattle.job_order.specs.JobSegments.{job_at, IsBelow, InOrder}
use Rattle.job_order.specs.Needs.{IsNeed, NeedsBand, Publishes}
use Rattle.job_order.specs.Worlds.{Rules, WorldState, HasResult, IsFinished, IsReady, IsDrawn, NeedsIn, Does, IsAllowed, after, segments_of}
use Rattle.job_order.specs.Truths.{Truth, IsFront}

-- no job was finished twice
abbrev pub AreOnce : {X : Type 0} → List (Done X) → Type 0
AreOnce [] = Unit {0}
AreOnce (d ∷ earlier) = ¬ IsFinished earlier d.job × AreOnce earlier

-- each job was finished after its needs, as they were then
abbrev pub AreAfterNeeds : {X : Type 0} → Rules X → ℕ → List (Done X) → Type 0
AreAfterNeeds m window [] = Unit {0}
AreAfterNeeds m window (d ∷ earlier) =
    ((need : JobName) → IsNeed (segments_of m earlier) window (m.reads d.job earlier) d.job need → IsFinished earlier need) × AreAfterNeeds m window earlier

-- the texts of what the frames below k show, in order
abbrev pub texts_below : (ℕ → List ℕ) → ℕ → List ℕ
texts_below text zero = []
texts_below text (suc k) = texts_below text k ++ text k

-- what a job has put
abbrev pub put_by : {X : Type 0} → Rules X → JobName → X → List ℕ
put_by m (Write f) x = m.puts f x
put_by m _ x = []

-- what the writes have put, one after another
abbrev pub written : {X : Type 0} → Rules X → List (Done X) → List ℕ
written m [] = []
written m (d ∷ earlier) = written m earlier ++ put_by m d.job d.result

-- a write was refused
abbrev pub HasFailed : {X : Type 0} → Rules X → List (Done X) → Type 0
HasFailed {X} m finished = (f : ℕ) × (x : X) × HasResult finished (Write f) x × (m.fails x ≡ true)

-- A job of frame f may read frame g: its own, or one that a slot holds.
abbrev pub MayRead : {X : Type 0} → Truth X → ℕ → ℕ → Type 0
MayRead t f g = (g ≡ f) ⊎ Contains (t.slots f) g

-- The frame's head is finished or may run, so its memory is taken, and a frame that isn't written yet may read it.
abbrev pub CanBeRead : {X : Type 0} → Rules X → Truth X → WorldState X → ℕ → Type 0
CanBeRead m t w g = (IsFinished w.finished (Head g) ⊎ IsReady m w (Head g)) × ((f : ℕ) × ¬ IsFinished w.finished (Write f) × MayRead t f g)

-- the frame of a job
abbrev pub frame_of : JobName → ℕ
frame_of (Head f) = f
frame_of (Column f c) = f
frame_of (Close f) = f
frame_of (Rows f c r) = f
frame_of (Filter f r) = f
frame_of (Write f) = f
frame_of (End f) = f

pub record IsSound {X : Type 0} (m : Rules X) (t : Truth X) (w : WorldState X) : Type 0 where
  -- each finished job was drawn, once, after its needs, and the segments are those of the finished heads and closes
  pub drawn : (job : JobName) (x : X) → HasResult w.finished job x → IsDrawn w job
  pub once : AreOnce w.finished
  pub after_needs : AreAfterNeeds m w.window w.finished
  pub segments : w.segments ≡ segments_of m w.finished
  pub order : InOrder w.segments
  -- each result is right
  pub right : (job : JobName) (x : X) → HasResult w.finished job x → t.right job x
  -- the finished writes are those of the frames below k, and have put their texts, or a front of them where one was refused
  pub texts : (k : ℕ) × ((f : ℕ) → f < k → IsFinished w.finished (Write f)) × ((f : ℕ) → IsFinished w.finished (Write f) → f < k)
      × ((¬ HasFailed m w.finished × (written m w.finished ≡ texts_below t.text k)) ⊎ (HasFailed m w.finished × IsFront (written m w.finished) (texts_below t.text k)))
  -- each announced band is published
  pub announced : All (λ band. (row : ℕ) × IsFinished w.finished (Filter band.frame row) × Publishes w.segments band.frame row band.band) w.announced
  -- at most window + 8 frames can still be read
  pub readable : (frames : List ℕ) × (length frames ≤ w.window + 8) × ((g : ℕ) → CanBeRead m t w g → Contains frames g)
  -- each job has a smaller ticket than those that need it
  pub smaller : (ticket : ℕ) (job need : JobName) → job_at w.segments ticket ≡ Some job → NeedsIn m w job need → IsBelow w.segments ticket need
  -- each band that a job needs is published by a filter, and is of a frame that the job may read
  pub bands : (ticket : ℕ) (job : JobName) (g band : ℕ) → job_at w.segments ticket ≡ Some job → NeedsBand w.segments (m.reads job w.finished) job g band
      → ((row : ℕ) × Publishes w.segments g row band) × MayRead t (frame_of job) g

-- a job that isn't finished, all jobs with smaller tickets being so
pub record IsLeast {X : Type 0} (w : WorldState X) (ticket : ℕ) (job : JobName) : Type 0 where
  pub at : job_at w.segments ticket ≡ Some job
  pub unfinished : ¬ IsFinished w.finished job
  pub before : (n : ℕ) (earlier : JobName) → n < ticket → job_at w.segments n ≡ Some earlier → IsFinished w.finished earlier

-- a job that is ready in a sound world has some result
abbrev pub AreTotal : {X : Type 0} → Rules X → Truth X → Type 0
AreTotal {X} m t = (w : WorldState X) (job : JobName) → IsSound m t w → IsReady m w job → (x : X) × Does m w job x

-- once a frame's close is finished in a sound world, no event changes what the jobs of the frame's superblock rows read
abbrev pub AreSettled : {X : Type 0} → Rules X → Truth X → Type 0
AreSettled {X} m t =
    (w : WorldState X) (e : Event X) (f c r : ℕ) → IsSound m t w → IsAllowed m w e → IsFinished w.finished (Close f) → m.reads (Rows f c r) (after m w e).finished ≡ m.reads (Rows f c r) w.finished

-- one worker at its n-th job: the jobs of the tickets below n are finished, and no others
pub record IsInTurn {X : Type 0} (w : WorldState X) (n : ℕ) : Type 0 where
  pub drawn : w.drawn ≡ n
  pub all : (ticket : ℕ) (job : JobName) → ticket < n → job_at w.segments ticket ≡ Some job → IsFinished w.finished job
  pub only : (job : JobName) → IsFinished w.finished job → IsBelow w.segments n job
