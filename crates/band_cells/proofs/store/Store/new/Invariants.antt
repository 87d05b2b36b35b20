use Rattle.std.proofs.Common.{◌≡◌, ◌≤◌, map, length}
use Rattle.std.specs.List.{range_with_len}
use Rattle.band_cells.specs.Code.{name_of}
use Rattle.band_cells.proofs.store.Store.new.Given as goal

abbrev pub invariant-loop-index : goal.invariant-loop-index
invariant-loop-index g l = (length l.cells.items ≡ l.index) × (l.bands ≤ l.cells.cap) × (map (λ c. c.name) l.cells.items ≡ map (name_of l.frame) (range_with_len 0 l.index))
