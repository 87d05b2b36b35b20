use Rattle.std.proofs.Common.{◌∙◌, ℕ, arith, get_or, map}
use Rattle.inter_predict.proofs.Pieces.{in_pieces}
use Rattle.inter_predict.proofs.lines.read_places.Goals as goal

pub returns-clause-value : goal.returns-clause-value
returns-clause-value g c = let a = c.args in let v = g.P.Sample.value in
    in_pieces a.a.now a.first a.n c.span_of-span.result (λ (k : ℕ). get_or (map v a.row.now) k 0)
    (λ (k : ℕ). get_or (map v c.fill_part.new.out) k 0) (λ (k : ℕ). get_or (map v c.copy_part.new.out) k 0) (λ (k : ℕ). get_or (map v c.fill_part-2.new.out) k 0)
    c.span_of-span.ensures
    (λ t low. c.fill_part.ensures.put t (omega arith) low ∙ c.sample_at.ensures)
    c.copy_part.ensures.put c.copy_part.ensures.before
    (λ t past low. c.fill_part-2.ensures.put t past low ∙ c.sample_at-2.ensures) c.fill_part-2.ensures.before
