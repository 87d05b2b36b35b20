-- The least id of a part of a map.
use Rattle.std.proofs.Common.{◌≡◌, ℕ, ◌≤◌, List, [], ◌∷◌, arith, min}
use Rattle.std.specs.List.{fold}
use Rattle.vp9_types.specs.Maps.{Map}
use Rattle.block_geometry.specs.declared.parts.Part.{Part}
use Rattle.block_plan.specs.SegmentMaps.{least_id, ids_in}

below : (most a : ℕ) (ids : List ℕ) → a ≤ most → fold min a ids ≤ most
below most a [] low = low
below most a (id ∷ ids) low = below most (min a id) ids (omega arith)

pub least_below : (ids : Map) (part : Part) → least_id ids part ≤ 7
unfolding least_id
least_below ids part = below 7 7 (ids_in ids part) (omega arith)
