-- A source of whose bytes some are at hand.
use Rattle.std.specs.Prelude.{List, ℕ, ◌++◌, slice_range, Option, Some, None}
use Rattle.edge_io.specs.declared.buffered.Buffered.{Buffered}

-- the bytes at hand, and then those of the source, where it tells them
abbrev pub all_ahead : List ℕ → Option (List ℕ) → Option (List ℕ)
all_ahead held None = None
all_ahead held (Some bytes) = Some (held ++ bytes)

abbrev pub held_by : {S : Type 0} → Buffered S → List ℕ
held_by b = slice_range b.piece.items b.from b.to

abbrev pub source_of : {S : Type 0} → Buffered S → S
source_of b = b.source
