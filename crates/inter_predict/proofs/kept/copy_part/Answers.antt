use Rattle.std.proofs.Common.{◌+◌, ◌-◌, ◌∙◌, arith}
use Rattle.inter_predict.proofs.Values.{part_here, part_before, part_after, copied_is}
use Rattle.inter_predict.proofs.kept.copy_part.Goals as goal

pub returns-clause-put : goal.returns-clause-put
returns-clause-put g c = λ k low. let a = c.args in
    part_here g.P.Sample.value a.at (a.at + a.n - a.at) a.out.now c.copy_from_slice.new.self k (omega arith) (omega (arith, low))
    ∙ copied_is g.P.Sample.value a.samples.now c.copy_from_slice.new.self a.from a.n k c.copy_from_slice.ensures.after low

pub returns-clause-before : goal.returns-clause-before
returns-clause-before g c = λ k low. let a = c.args in
    part_before g.P.Sample.value a.at (a.at + a.n - a.at) a.out.now c.copy_from_slice.new.self k (omega arith) low

pub returns-clause-after : goal.returns-clause-after
returns-clause-after g c = λ k past. let a = c.args in
    part_after g.P.Sample.value a.at (a.at + a.n - a.at) a.out.now c.copy_from_slice.new.self k (omega arith) (omega arith) (omega (arith, past))
