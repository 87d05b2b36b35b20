use Rattle.std.proofs.Common.{◌≡◌, ◌<◌, ◌≤◌, ◌+◌, ◌*◌, ◌/◌, ℕ, get_or, map}
use Rattle.vp9_tables.specs.Filters.{taps_of}
use Rattle.tap_filter.specs.Filter.{filtered}
use Rattle.inter_places.specs.Axes.{offset, phase}
use Rattle.inter_predict.proofs.down.scale_rest.Given as goal

abbrev pub invariant-loop-j : goal.invariant-loop-j
invariant-loop-j g l = record {
  row : (j : ℕ) → 16 * (l.n / 16) ≤ j → j < l.j → get_or (map g.P.Sample.value l.out) (l.i * l.n + j) 0
      ≡ filtered l.down.most (taps_of l.down.kind (phase l.down.axis l.i)) (λ k. get_or (map g.P.Sample.value l.lines) ((offset l.down.axis l.i / 16 + k) * l.n + j) 0);
  before : (k : ℕ) → k < l.i * l.n + 16 * (l.n / 16) → get_or (map g.P.Sample.value l.out) k 0 ≡ get_or (map g.P.Sample.value l.initial.out) k 0;
}
