use Rattle.std.proofs.Common.{◌≡◌, ℕ, ◌+◌, ◌*◌, ◌<◌, ◌&&◌, slice_index_or, if◌then◌else◌}
use Rattle.vp9_types.specs.Maps.{is_within}
use Rattle.block_geometry.proofs.parts.fill_part.Given as goal

abbrev pub invariant-loop-i : goal.invariant-loop-i
invariant-loop-i g l = (r c : ℕ) → c < l.width → slice_index_or l.places (r * l.width + c) l.value
    ≡ (if is_within l.part.row l.i r && is_within l.part.col l.part.cols c then l.value else slice_index_or l.initial.places (r * l.width + c) l.value)
