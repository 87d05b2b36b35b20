-- What reading a source to its end gives, by cases on the answer.
use Rattle.std.specs.Prelude.{◌≡◌, ℕ, ◌<◌, List, [], ◌++◌, Option, Some, Result, Ok, Err, Vec}
use Rattle.std.specs.declared.alloc.Global.{Global}
use Rattle.edge_io.specs.declared.read.ReadError.{ReadError}
use Rattle.edge_io.specs.declared.read.ReadError.TheVariants as refused
use Rattle.edge_io.specs.Filling.{WhereTold}

-- these bytes went from the front of what was left
abbrev pub Gave : Option (List ℕ) → Option (List ℕ) → List ℕ → Type 0
Gave old new front = WhereTold old (λ bytes. (rest : List ℕ) × (bytes ≡ front ++ rest) × (new ≡ Some rest))

-- these bytes are all that were left, and none is left now
abbrev pub GaveAll : Option (List ℕ) → Option (List ℕ) → List ℕ → Type 0
GaveAll old new all = WhereTold old (λ bytes. (all ≡ bytes) × (new ≡ Some []))

-- all that were left were read, or before a refusal a front of them was given
abbrev pub ReadsAll : Option (List ℕ) → Option (List ℕ) → Result (Vec ℕ Global) ReadError → Type 0
ReadsAll old new (Ok all) = GaveAll old new all.items
ReadsAll old new (Err e) = (front : List ℕ) × Gave old new front

-- the source's count of faults, before and after: it rises exactly where the answer is a fault
abbrev pub CountsReadFaults : {A : Type 0} → ℕ → ℕ → Result A ReadError → Type 0
CountsReadFaults before now (Ok x) = now ≡ before
CountsReadFaults before now (Err refused.Failed) = before < now
CountsReadFaults before now (Err refused.OutOfMemory) = now ≡ before
