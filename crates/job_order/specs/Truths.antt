-- What the results are to be, and what the rules owe so that they are.
use Rattle.std.specs.Prelude.{◌≡◌, ℕ, ◌+◌, ◌≤◌, ◌<◌, ◌⊎◌, Bool, true, false, List, [], ◌++◌, length, Some, All, Contains}
use Rattle.vp9_types.specs.declared.job.JobName.{JobName}
use Rattle.vp9_types.specs.declared.job.JobName.TheVariants.{Close, Rows, Write}
use Rattle.job_order.specs.declared.segment.Shown.{Shown}
use Rattle.job_order.specs.declared.event.Done.{Done}
use Rattle.job_order.specs.Needs.{HasBand}
use Rattle.job_order.specs.Worlds.{Rules, Building, HasResult}

-- What a run is by its definition.
pub record Truth (X : Type 0) : Type 1 where
  -- this result of the job is the definition's, or one of those that are excepted
  pub right : JobName → X → Type 0
  -- how many bands a frame has
  pub bands : ℕ → ℕ
  -- the frames that the slots hold before a frame
  pub slots : ℕ → List ℕ
  -- the text of what a frame shows, nothing where it is hidden
  pub text : ℕ → List ℕ

abbrev pub AreRight : {X : Type 0} → Truth X → List (Done X) → Type 0
AreRight t results = All (λ d. t.right d.job d.result) results

-- a front of the text
abbrev pub IsFront : List ℕ → List ℕ → Type 0
IsFront text whole = (rest : List ℕ) × (text ++ rest ≡ whole)

-- There are eight slots, and a frame changes them to itself alone.
pub record AreSlots (slots : ℕ → List ℕ) : Type 0 where
  pub eight : (f : ℕ) → length (slots f) ≤ 8
  pub earlier : (f g : ℕ) → Contains (slots f) g → g < f
  pub next : (f g : ℕ) → Contains (slots (f + 1)) g → (g ≡ f) ⊎ Contains (slots f) g

-- A frame shows itself or what a slot holds, with its bands.
abbrev pub IsRightBuilding : {X : Type 0} → Truth X → ℕ → Building → Type 0
IsRightBuilding t f b =
    (b.rows ≡ t.bands f) × ((shown : Shown) → b.shown ≡ Some shown → ((shown.frame ≡ f) ⊎ Contains (t.slots f) shown.frame) × (shown.bands ≡ t.bands shown.frame))

-- all of the text, or a front of it where the write is refused
abbrev pub IsRightText : Bool → List ℕ → List ℕ → Type 0
IsRightText false put text = put ≡ text
IsRightText true put text = IsFront put text

-- the write of frame f, after a refused one, puts nothing and is refused too
abbrev pub HandsOn : {X : Type 0} → Rules X → ℕ → X → X → Type 0
HandsOn m f x y = m.fails x ≡ true → (m.fails y ≡ true) × (m.puts f y ≡ [])

-- What the rules owe: from right results they make right ones, and right results say what is right.
pub record AreTrue {X : Type 0} (m : Rules X) (t : Truth X) : Type 0 where
  pub slots : AreSlots t.slots
  pub right : (job : JobName) (uses : List (Done X)) (x : X) → AreRight t uses → m.does job uses x → t.right job x
  pub builds : (f : ℕ) (x : X) (b : Building) → t.right (Close f) x → m.builds x ≡ Some b → IsRightBuilding t f b
  pub reads : (f c r : ℕ) (results : List (Done X)) (g band : ℕ) → ((job : JobName) (x : X) → HasResult results job x → t.right job x)
      → HasBand (m.reads (Rows f c r) results) g band → Contains (t.slots f) g × (band < t.bands g)
  pub text : (f : ℕ) (x : X) → t.right (Write f) x → IsRightText (m.fails x) (m.puts f x) (t.text f)
  pub hands_on : (f : ℕ) (uses : List (Done X)) (y : X) → m.does (Write (f + 1)) uses y → (x : X) × Contains uses (record { job = Write f; result = x }) × HandsOn m (f + 1) x y
