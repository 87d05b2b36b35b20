use Rattle.std.proofs.Common.{◌≡◌, ◌≤◌, ◌-◌, Some, map, vec_len, vec_capacity}
use Rattle.std.specs.List.{range_with_len}
use Rattle.band_cells.specs.Code.{name_of}
use Rattle.band_cells.proofs.store.Store.look_up.Given as goal

abbrev pub invariant-loop-index : goal.invariant-loop-index
invariant-loop-index g l =
    (l.fn.span.first ≤ l.index)
    × (l.index - l.fn.span.first ≤ l.end - l.fn.span.first)
    × (vec_len l.bands ≡ l.index - l.fn.span.first)
    × (l.end - l.fn.span.first ≤ vec_capacity l.bands)
    × (vec_capacity l.initial.bands ≤ vec_capacity l.bands)
    × (map (λ b. b.now) l.bands.items ≡ map (λ index. Some (name_of l.fn.span.frame index)) (range_with_len l.fn.span.first (l.index - l.fn.span.first)))
