use Rattle.std.proofs.Common.{◌≡◌, ℕ, ◌-◌, slice_index_or, if◌then◌else◌}
use Rattle.vp9_types.specs.Maps.{is_within}
use Rattle.block_geometry.proofs.parts.fill_run.Given as goal

abbrev pub invariant-loop-k : goal.invariant-loop-k
invariant-loop-k g l = (k : ℕ) → slice_index_or l.places k l.value ≡ (if is_within l.from (l.k - l.from) k then l.value else slice_index_or l.initial.places k l.value)
