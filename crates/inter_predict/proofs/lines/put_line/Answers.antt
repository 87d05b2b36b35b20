use Rattle.std.proofs.Common.{◌+◌, ◌*◌, ◌-◌, ◌∙◌, arith}
use Rattle.inter_predict.proofs.Values.{part_here, part_before}
use Rattle.inter_predict.proofs.lines.put_line.Goals as goal

pub returns-clause-row : goal.returns-clause-row
returns-clause-row g c = λ j low. let a = c.args in
    part_here g.P.Sample.value (a.i * a.n) (a.i * a.n + a.n - a.i * a.n) a.lines.now c.fill_line.new.out j (omega arith) (omega arith) ∙ c.fill_line.ensures.value j low

pub returns-clause-before : goal.returns-clause-before
returns-clause-before g c = λ k low. let a = c.args in
    part_before g.P.Sample.value (a.i * a.n) (a.i * a.n + a.n - a.i * a.n) a.lines.now c.fill_line.new.out k (omega arith) low
