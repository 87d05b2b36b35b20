use Rattle.std.proofs.Common.{◌≡◌, ◌+◌, ◌*◌, ◌/◌, ◌%◌, ◌∙◌, ℕ, ap, arith, get_or, map}
use Rattle.vp9_tables.specs.Filters.{taps_of}
use Rattle.inter_predict.proofs.Agree.{filtered_same}
use Rattle.inter_predict.proofs.scaled.value_below.Goals as goal

pub eight_of-eight-requires-clause-samples : goal.eight_of-eight-requires-clause-samples
eight_of-eight-requires-clause-samples g c = λ k. let f = c.args.filter.now in
    omega (arith, c.requires.samples k, g.met.P.FilterSample.are_few f.most c.requires.filter.most)

pub returns : goal.returns
returns g c = let a = c.args in let f = a.filter.now in let v = g.P.Sample.value in
    c.filtered_eight.ensures ∙ filtered_same f.most (taps_of f.kind (a.offset % 16)) (λ (k : ℕ). get_or c.eight_of-eight.result (0 + k) 0)
    (λ (k : ℕ). get_or (map v a.lines.now) ((a.offset / 16 + k) * a.n + a.j) 0)
    (λ k few. ap (λ (z : ℕ). get_or c.eight_of-eight.result z 0) (from_zero k) ∙ c.eight_of-eight.ensures.value k few
    ∙ ap (λ (z : ℕ). get_or (map v a.lines.now) z 0) (moved (a.offset / 16) k a.n a.j))
  where
    from_zero : (n : ℕ) → 0 + n ≡ n
    from_zero n = omega arith

    moved : (o k n j : ℕ) → o * n + j + k * n ≡ (o + k) * n + j
    moved o k n j = omega arith
