use Rattle.std.proofs.Common.{◌+◌, ◌*◌, ◌/◌, get_or, map}
use Rattle.vp9_types.specs.Maps.{HoldsRows}
use Rattle.vp9_tables.specs.Filters.{taps_of}
use Rattle.tap_filter.specs.Filter.{filtered}
use Rattle.inter_places.specs.Axes.{offset, phase}
use Rattle.inter_predict.proofs.down.scale_down.Given as goal

abbrev pub invariant-loop-i : goal.invariant-loop-i
invariant-loop-i g l = HoldsRows (map g.P.Sample.value l.out) l.n l.i
    (λ i j. filtered l.down.most (taps_of l.down.kind (phase l.down.axis i)) (λ k. get_or (map g.P.Sample.value l.lines) ((offset l.down.axis i / 16 + k) * l.n + j) 0))
