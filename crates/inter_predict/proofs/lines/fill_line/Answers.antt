use Rattle.std.proofs.Common.{ℕ, ◌+◌, ◌∙◌, ap, get_or, map, List, ℤ}
use Rattle.tap_filter.specs.Filter.{filtered}
use Rattle.inter_places.specs.Axes.{straight}
use Rattle.inter_predict.proofs.Agree.{along_whole, along_straight}
use Rattle.inter_predict.proofs.lines.fill_line.Goals as goal

pub returns-then-is_whole-clause-value : goal.returns-then-is_whole-clause-value
returns-then-is_whole-clause-value g c = λ j low. let a = c.args in let f = a.filter.now in
    c.read_places.ensures.value j low
    ∙ along_whole f.most f.kind f.axis (λ (k : ℕ). get_or (map g.P.Sample.value a.row.now) k 0) j c.if-is_whole.ensures.step c.if-is_whole.ensures.phase c.requires.samples

pub returns-then-is_unscaled-clause-value : goal.returns-then-is_unscaled-clause-value
returns-then-is_unscaled-clause-value g c = λ j low. let a = c.args in let f = a.filter.now in
    c.filter_places.ensures.value j low
    ∙ ap (λ (ts : List ℤ). filtered f.most ts (λ (k : ℕ). get_or (map g.P.Sample.value a.row.now) (straight f.axis (j + k)) 0)) c.requires.filter.taps
    ∙ along_straight f.most f.kind f.axis (λ (k : ℕ). get_or (map g.P.Sample.value a.row.now) k 0) j c.if-is_unscaled.ensures
