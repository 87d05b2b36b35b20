use Rattle.std.proofs.Common.{◌≡◌, ℕ, ◌+◌, ◌*◌, ◌/◌, ◌∙◌, ap, sym, arith, get_or, map, List, ℤ}
use Rattle.vp9_tables.specs.Filters.{taps_of}
use Rattle.tap_filter.specs.Filter.{filtered}
use Rattle.inter_places.specs.Axes.{phase, offset}
use Rattle.inter_predict.proofs.Agree.{filtered_same, phase_straight, offset_straight, lines_enough}
use Rattle.inter_predict.proofs.Blocks.{place_below, fours_are}
use Rattle.inter_predict.proofs.down.filter_down.Goals as goal

pub filter_down-requires-clause-sixteens : goal.filter_down-requires-clause-sixteens
filter_down-requires-clause-sixteens g c = fours_are c.args.rows c.args.n c.requires.rows c.requires.columns

pub filter_down-requires-clause-enough : goal.filter_down-requires-clause-enough
filter_down-requires-clause-enough g c = lines_enough c.args.down.now.axis c.args.rows c.args.n _ c.if-is_unscaled.ensures c.requires.some c.requires.enough

pub returns-then-is_unscaled : goal.returns-then-is_unscaled
returns-then-is_unscaled g c = λ i j high low. let a = c.args in let f = a.down.now in
    let step = c.if-is_unscaled.ensures in
    c.filter_down.ensures.value (i * a.n + j) (place_below a.n a.rows i j high low)
    ∙ ap (λ (ts : List ℤ). filtered f.most ts (λ (k : ℕ). get_or (map g.P.Sample.value a.lines.now) (0 + k * a.n + (i * a.n + j)) 0))
    (c.requires.filter.taps ∙ ap (taps_of f.kind) (sym (phase_straight f.axis i step)))
    ∙ filtered_same f.most (taps_of f.kind (phase f.axis i)) (λ (k : ℕ). get_or (map g.P.Sample.value a.lines.now) (0 + k * a.n + (i * a.n + j)) 0)
    (λ (k : ℕ). get_or (map g.P.Sample.value a.lines.now) ((offset f.axis i / 16 + k) * a.n + j) 0) (λ k few.
    ap (λ (z : ℕ). get_or (map g.P.Sample.value a.lines.now) z 0) (moved i k a.n j ∙ ap (λ (r : ℕ). (r + k) * a.n + j) (sym (offset_straight f.axis i step))))
  where
    moved : (i k n j : ℕ) → 0 + k * n + (i * n + j) ≡ (i + k) * n + j
    moved i k n j = omega arith
