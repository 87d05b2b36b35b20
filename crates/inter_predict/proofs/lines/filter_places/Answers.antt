use Rattle.std.proofs.Common.{◌+◌, ◌*◌, ◌/◌, ◌∙◌, ℕ, arith, get_or, map, inl, inr}
use Rattle.std.proofs.lemmas.Bool.{cases_lt}
use Rattle.inter_places.specs.Axes.{straight}
use Rattle.inter_predict.proofs.Agree.{filtered_same}
use Rattle.inter_predict.proofs.Values.{zeros}
use Rattle.inter_predict.proofs.lines.filter_places.Goals as goal

pub filter_numbers-requires-clause-small : goal.filter_numbers-requires-clause-small
filter_numbers-requires-clause-small g c = λ k. elim (cases_lt k (16 * ((c.args.n + 15) / 16) + 7)) [
  | inl low ↦ rw (c.read_numbers.ensures.value k low) (c.requires.samples (straight c.args.filter.now.axis k))
  | inr past ↦ rw (c.read_numbers.ensures.after k past, zeros 71 k) (omega arith)
]

pub returns-clause-value : goal.returns-clause-value
returns-clause-value g c = λ j low. let a = c.args in let f = a.filter.now in
    c.filter_numbers.ensures.value j low
    ∙ filtered_same f.most (g.P.FilterSample.stand_for f.taps) (λ (k : ℕ). get_or c.read_numbers.new.out (j + k) 0) (λ (k : ℕ). get_or (map g.P.Sample.value a.row.now) (straight f.axis (j + k)) 0)
    (λ k few. c.read_numbers.ensures.value (j + k) (omega arith))
