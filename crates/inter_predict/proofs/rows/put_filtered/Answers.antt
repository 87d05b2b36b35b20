use Rattle.std.proofs.Common.{◌≡◌, ℕ, ◌+◌, ◌*◌, ◌-◌, ◌∙◌, ap, arith, get_or, map, List, ℤ}
use Rattle.tap_filter.specs.Filter.{filtered}
use Rattle.inter_places.specs.Axes.{straight}
use Rattle.inter_predict.proofs.Agree.{along_straight, filtered_same}
use Rattle.inter_predict.proofs.Values.{part_here, part_before}
use Rattle.inter_predict.proofs.rows.put_filtered.Goals as goal

pub returns-clause-row : goal.returns-clause-row
returns-clause-row g c = λ j low. let a = c.args in let f = a.across.now in let n = g.row.N in
    let run = c.requires.run in
    part_here g.P.Sample.value (a.i * n) (a.i * n + n - a.i * n) a.lines.now c.filter_along.new.out j (omega arith) (omega (arith, low))
    ∙ c.filter_along.ensures.value j low
    ∙ filtered_same f.most (g.P.FilterSample.stand_for f.taps) (λ (k : ℕ). get_or (map g.P.Sample.value a.row.now) (a.from + (j + k)) 0) (λ (k : ℕ). get_or (map g.P.Sample.value a.row.now) (straight f.axis (j + k)) 0)
    (λ k few. let at = run.inside.places (j + k) (omega (arith, low, few)) in
    let same : a.from + (j + k) ≡ straight f.axis (j + k) = omega (arith, at, c.requires.from) in ap (λ (z : ℕ). get_or (map g.P.Sample.value a.row.now) z 0) same)
    ∙ ap (λ (ts : List ℤ). filtered f.most ts (λ (k : ℕ). get_or (map g.P.Sample.value a.row.now) (straight f.axis (j + k)) 0)) c.requires.filter.taps
    ∙ along_straight f.most f.kind f.axis (λ (k : ℕ). get_or (map g.P.Sample.value a.row.now) k 0) j run.step

pub returns-clause-before : goal.returns-clause-before
returns-clause-before g c = λ k low. let a = c.args in let n = g.row.N in
    part_before g.P.Sample.value (a.i * n) (a.i * n + n - a.i * n) a.lines.now c.filter_along.new.out k (omega arith) low
