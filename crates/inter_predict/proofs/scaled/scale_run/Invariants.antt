use Rattle.std.proofs.Common.{◌≡◌, ◌<◌, ◌≤◌, ◌+◌, ◌/◌, ℕ, get_or, map}
use Rattle.vp9_tables.specs.Filters.{taps_of}
use Rattle.tap_filter.specs.Filter.{filtered}
use Rattle.inter_places.specs.Axes.{offset, phase}
use Rattle.inter_predict.proofs.scaled.scale_run.Given as goal

abbrev pub invariant-loop-j : goal.invariant-loop-j
invariant-loop-j g l = record {
  value : (j : ℕ) → j < l.j → get_or (map g.P.Sample.value l.out) j 0
      ≡ filtered l.filter.most (taps_of l.filter.kind (phase l.filter.axis j)) (λ k. get_or (map g.Q.Sample.value l.samples) (l.from + offset l.filter.axis j / 16 + k) 0);
  after : (j : ℕ) → l.j ≤ j → get_or (map g.P.Sample.value l.out) j 0 ≡ get_or (map g.P.Sample.value l.initial.out) j 0;
}
