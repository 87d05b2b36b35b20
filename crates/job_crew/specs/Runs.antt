-- What right results say of a run: which jobs it has, and how it ended.
use Rattle.std.specs.Prelude.{◌≡◌, ℕ, ◌+◌, ◌<◌, ◌⊎◌, true, List, ◌++◌, Option, Some, None}
use Rattle.vp9_types.specs.declared.job.JobName.{JobName}
use Rattle.vp9_types.specs.declared.job.JobName.TheVariants.{Head, Column, Close, Rows, Filter, Write, End}
use Rattle.job_order.specs.Worlds.{Rules, Building}
use Rattle.job_order.specs.Truths.{Truth, IsFront}
use Rattle.job_order.specs.Sound.{texts_below}
use Rattle.edge_io.specs.Putting.{Takes}
use Rattle.job_crew.specs.declared.outlet.Ending.{Ending}
use Rattle.job_crew.specs.declared.outlet.Ending.TheVariants.{Whole, Refused}

-- a right result of the frame's head says that it has these columns; one of its close, that it is built so
abbrev pub IsParsedSo : {X : Type 0} → Rules X → Truth X → ℕ → ℕ → Type 0
IsParsedSo {X} m t f columns = (x : X) × t.right (Head f) x × (m.parses x ≡ Some columns)

abbrev pub IsBuiltSo : {X : Type 0} → Rules X → Truth X → ℕ → Building → Type 0
IsBuiltSo {X} m t f b = (x : X) × t.right (Close f) x × (m.builds x ≡ Some b)

-- a right result says that the run ends at the frame
abbrev pub IsLast : {X : Type 0} → Rules X → Truth X → ℕ → X → Type 0
IsLast m t f x = (t.right (Head f) x × (m.parses x ≡ None)) ⊎ (t.right (Close f) x × (m.builds x ≡ None))

abbrev pub IsLastOne : {X : Type 0} → Rules X → Truth X → ℕ → Type 0
IsLastOne {X} m t f = (x : X) × IsLast m t f x

-- the run doesn't end by this result
abbrev pub GoesOn : {X : Type 0} → Rules X → JobName → X → Type 0
GoesOn m (Head f) x = (columns : ℕ) × (m.parses x ≡ Some columns)
GoesOn m (Close f) x = (b : Building) × (m.builds x ≡ Some b)
GoesOn m _ x = Unit {0}

-- Right results say that the job is one of the run.
abbrev pub IsDue : {X : Type 0} → Rules X → Truth X → JobName → Type 0
IsDue m t (Head f) = (f ≡ 0) ⊎ ((g : ℕ) × (f ≡ g + 1) × ((b : Building) × IsBuiltSo m t g b))
IsDue m t (Column f c) = (columns : ℕ) × IsParsedSo m t f columns × (c < columns)
IsDue m t (Close f) = (columns : ℕ) × IsParsedSo m t f columns
IsDue m t (Rows f c r) = (b : Building) × IsBuiltSo m t f b × (c < b.columns) × (r < b.rows)
IsDue m t (Filter f r) = (b : Building) × IsBuiltSo m t f b × (r < b.rows)
IsDue m t (Write f) = (b : Building) × IsBuiltSo m t f b
IsDue m t (End f) = IsLastOne m t f

-- the job is no write
abbrev pub IsNoWrite : JobName → Type 0
IsNoWrite (Write f) = ⊥
IsNoWrite job = Unit {0}

-- The run has ended so, and the output, which had taken `before`, has taken what it was to take: the texts of the frames below the one at
-- which it ends, and may be written to; or these and a front of the text of the frame whose write it refused. Of the output as it is then:
-- what it has taken, whether it may be written to, and how it has refused a write that has a result.
abbrev pub IsEnded : {X : Type 0} → Rules X → Truth X → Option (List ℕ) → Ending X → Option (List ℕ) → Type 0 → (X → Type 0) → Type 0
IsEnded m t before (Whole f x) taken may_put has_refused =
    IsDue m t (End f) × t.right (End f) x × Takes before taken (texts_below t.text f) × may_put
IsEnded m t before (Refused f x) taken may_put has_refused =
    IsDue m t (Write f) × t.right (Write f) x × (m.fails x ≡ true) × has_refused x
    × ((front : List ℕ) × IsFront front (t.text f) × Takes before taken (texts_below t.text f ++ front))
