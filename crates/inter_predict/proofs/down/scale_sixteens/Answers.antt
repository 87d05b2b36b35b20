use Rattle.std.proofs.Common.{◌≡◌, ◌+◌, ◌*◌, ◌-◌, ◌/◌, ◌%◌, ◌∙◌, ℕ, ℤ, List, ap, arith, get_or, map}
use Rattle.vp9_tables.specs.Filters.{taps_of}
use Rattle.tap_filter.specs.Filter.{filtered}
use Rattle.inter_places.specs.Axes.{offset, phase}
use Rattle.inter_predict.proofs.Agree.{filtered_same}
use Rattle.inter_predict.proofs.Values.{part_here, part_before}
use Rattle.inter_predict.proofs.down.scale_sixteens.Goals as goal

pub returns-clause-row : goal.returns-clause-row
returns-clause-row g c = λ j low. let a = c.args in let f = a.down.now in let whole : ℕ = 16 * (a.n / 16) in let lines : List ℕ = map g.P.Sample.value a.lines.now in
    part_here g.P.Sample.value (a.i * a.n) (a.i * a.n + whole - a.i * a.n) a.out.now c.filter_down.new.out j (omega arith) (omega arith)
    ∙ c.filter_down.ensures.value j low
    ∙ ap (λ (ts : List ℤ). filtered f.most ts (λ (k : ℕ). get_or lines (c.offset_of-offset.result / 16 * a.n + k * a.n + j) 0)) (c.taps_of-row_taps.ensures.taps ∙ c.taps.ensures.row)
    ∙ ap (λ (o : ℕ). filtered f.most (taps_of f.kind (o % 16)) (λ (k : ℕ). get_or lines (o / 16 * a.n + k * a.n + j) 0)) c.offset_of-offset.ensures.value
    ∙ filtered_same f.most (taps_of f.kind (phase f.axis a.i)) (λ (k : ℕ). get_or lines (offset f.axis a.i / 16 * a.n + k * a.n + j) 0) (λ (k : ℕ). get_or lines ((offset f.axis a.i / 16 + k) * a.n + j) 0)
    (λ k few. ap (λ (z : ℕ). get_or lines z 0) (moved (offset f.axis a.i / 16) k a.n j))
  where
    moved : (o k n j : ℕ) → o * n + k * n + j ≡ (o + k) * n + j
    moved o k n j = omega arith

pub returns-clause-before : goal.returns-clause-before
returns-clause-before g c = λ k low. let a = c.args in
    part_before g.P.Sample.value (a.i * a.n) (a.i * a.n + 16 * (a.n / 16) - a.i * a.n) a.out.now c.filter_down.new.out k (omega arith) low
