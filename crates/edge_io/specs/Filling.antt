-- What a source gives, by cases on its answer.
use Rattle.std.specs.Prelude.{◌≡◌, ℕ, ◌+◌, ◌<◌, ◌≤◌, List, [], ◌++◌, length, take, drop, Option, Some, Result, Ok, Err}

-- what is told has the property; where nothing is told, nothing is said
abbrev pub WhereTold : Option (List ℕ) → (List ℕ → Type 0) → Type 0
WhereTold told P = (bytes : List ℕ) → told ≡ Some bytes → P bytes

-- what is told begins with these bytes
abbrev pub BeginsWith : Option (List ℕ) → List ℕ → Type 0
BeginsWith told front = WhereTold told (λ bytes. (more : List ℕ) × (bytes ≡ front ++ more))

-- what was told is told still
abbrev pub IsKept : Option (List ℕ) → Option (List ℕ) → Type 0
IsKept old new = WhereTold old (λ bytes. new ≡ Some bytes)

-- n bytes went from the front of what was left to the front of the buffer. None went only at the end, or where there was no room.
abbrev pub Moves : ℕ → List ℕ → List ℕ → Option (List ℕ) → Type 0
Moves n buf bytes new = (n ≤ length bytes) × (take n buf ≡ take n bytes) × (new ≡ Some (drop n bytes)) × (n ≡ 0 → 0 < length buf → bytes ≡ [])

-- what a call of fill makes of the bytes that are left and of the buffer
abbrev pub Fills : {E : Type 0} → Option (List ℕ) → Option (List ℕ) → List ℕ → Result ℕ E → Type 0
Fills old new buf (Ok n) = (n ≤ length buf) × WhereTold old (λ bytes. Moves n buf bytes new)
Fills old new buf (Err e) = IsKept old new

-- how many bytes were given, before a call of fill and after it
abbrev pub CountsGiven : {E : Type 0} → ℕ → ℕ → Result ℕ E → Type 0
CountsGiven before now (Ok n) = now ≡ before + n
CountsGiven before now (Err e) = now ≡ before

-- a count of faults, before a call and after it: it rises exactly where the call fails
abbrev pub CountsFaults : {A E : Type 0} → ℕ → ℕ → Result A E → Type 0
CountsFaults before now (Ok x) = now ≡ before
CountsFaults before now (Err e) = before < now
