-- A source with bytes put back in front of it.
use Rattle.std.specs.Prelude.{ℕ, ◌-◌, List, ◌++◌, drop, Option, Some, None}
use Rattle.edge_io.specs.declared.prefixed.Prefixed.{Prefixed}

-- the last so many of four bytes, and then those of the source, where it tells them
abbrev pub all_of : List ℕ → ℕ → Option (List ℕ) → Option (List ℕ)
all_of front left None = None
all_of front left (Some bytes) = Some (drop (4 - left) front ++ bytes)

abbrev pub front_of : {S : Type 0} → Prefixed S → List ℕ
front_of p = p.front

-- how many of them weren't taken
abbrev pub left_of : {S : Type 0} → Prefixed S → ℕ
left_of p = p.left

abbrev pub source_of : {S : Type 0} → Prefixed S → S
source_of p = p.source
