-- What a sink takes, by cases on its answer.
use Rattle.std.specs.Prelude.{◌≡◌, ℕ, ◌<◌, ◌≤◌, Bool, IsTrue, List, ◌++◌, length, take, Option, Some, None, Result, Ok, Err}
use Rattle.edge_io.specs.declared.sink.PutFault.{PutFault}
use Rattle.edge_io.specs.declared.sink.PutFault.TheVariants as refused
use Rattle.edge_io.specs.Filling.{WhereTold, IsKept}

-- what was taken before, and then these bytes
abbrev pub Takes : Option (List ℕ) → Option (List ℕ) → List ℕ → Type 0
Takes old new more = WhereTold old (λ bytes. new ≡ Some (bytes ++ more))

-- a front of the piece was taken
abbrev pub TakesFront : Option (List ℕ) → Option (List ℕ) → List ℕ → Type 0
TakesFront old new piece = (n : ℕ) × (n ≤ length piece) × Takes old new (take n piece)

-- What a call of put takes of the piece. A sink that failed may have taken a front of it; one that had no memory took nothing.
abbrev pub Puts : Option (List ℕ) → Option (List ℕ) → List ℕ → Result ℕ PutFault → Type 0
Puts old new piece (Ok n) = (n ≤ length piece) × (0 < length piece → 0 < n) × Takes old new (take n piece)
Puts old new piece (Err refused.Failed) = TakesFront old new piece
Puts old new piece (Err refused.OutOfMemory) = IsKept old new

-- the whole piece is taken, or after a refusal a front of it
abbrev pub PutsAll : {A : Type 0} → Option (List ℕ) → Option (List ℕ) → List ℕ → Result A PutFault → Type 0
PutsAll old new piece (Ok x) = Takes old new piece
PutsAll old new piece (Err e) = TakesFront old new piece

-- the sink's count of faults, before and after: it rises exactly where the answer is a fault. Only a sink that grows wants memory.
abbrev pub CountsPutFaults : {A : Type 0} → Bool → ℕ → ℕ → Result A PutFault → Type 0
CountsPutFaults grows before now (Ok x) = now ≡ before
CountsPutFaults grows before now (Err refused.Failed) = before < now
CountsPutFaults grows before now (Err refused.OutOfMemory) = (now ≡ before) × IsTrue grows

-- what a write takes of a piece: at least a byte of it, or nothing
abbrev pub WritesSome : Option (List ℕ) → Option (List ℕ) → List ℕ → Option ℕ → Type 0
WritesSome old new piece (Some n) = (n ≤ length piece) × (0 < n) × Takes old new (take n piece)
WritesSome old new piece None = IsKept old new
