use Rattle.std.proofs.Common.{◌∙◌, ◌≡◌, ◌+◌, ℕ, ap, arith, get_or, map, sym}
use Rattle.inter_places.specs.Axes.{straight}
use Rattle.inter_predict.proofs.Pieces.{in_pieces}
use Rattle.inter_predict.proofs.Values.{itself, itself_same}
use Rattle.inter_predict.proofs.lines.read_numbers.Goals as goal

pub returns-clause-value : goal.returns-clause-value
returns-clause-value g c = λ t few. let a = c.args in let v = g.P.Sample.value in
    in_pieces a.a.now 0 a.n c.span_of-span.result (λ (k : ℕ). get_or (map v a.row.now) k 0)
    (λ (k : ℕ). get_or c.fill_part.new.out k 0) (λ (k : ℕ). get_or c.widen_part.new.out k 0) (λ (k : ℕ). get_or c.fill_part-2.new.out k 0)
    c.span_of-span.ensures
    (λ t low. sym (itself c.fill_part.new.out t) ∙ c.fill_part.ensures.put t (omega arith) low ∙ c.widen.ensures ∙ c.sample_at.ensures)
    c.widen_part.ensures.put c.widen_part.ensures.before
    (λ t past low. sym (itself c.fill_part-2.new.out t) ∙ c.fill_part-2.ensures.put t past low ∙ c.widen-2.ensures ∙ c.sample_at-2.ensures)
    (λ t low. itself_same c.fill_part-2.new.out c.widen_part.new.out t (c.fill_part-2.ensures.before t low))
    t few
    ∙ ap (λ (u : ℕ). get_or (map v a.row.now) (straight a.a.now u) 0) (from_zero t)
  where
    from_zero : (n : ℕ) → 0 + n ≡ n
    from_zero n = omega arith

pub returns-clause-after : goal.returns-clause-after
returns-clause-after g c = λ t past. let a = c.args in let s = c.span_of-span.ensures in
    itself_same c.fill_part-2.new.out c.widen_part.new.out t (c.fill_part-2.ensures.after t past)
    ∙ c.widen_part.ensures.after t (omega (arith, past, s.order, s.few))
    ∙ itself_same c.fill_part.new.out a.out.now t (c.fill_part.ensures.after t (omega (arith, past, s.order, s.few)))
