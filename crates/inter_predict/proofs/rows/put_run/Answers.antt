use Rattle.std.proofs.Common.{◌+◌, ◌*◌, ◌-◌, ◌∙◌, refl, arith, drop, length-drop}
use Rattle.std.proofs.lemmas.List.{length-take}
use Rattle.inter_predict.proofs.Values.{part_here, part_before, copied_is}
use Rattle.inter_predict.proofs.rows.put_run.Goals as goal

pub returns-clause-row : goal.returns-clause-row
returns-clause-row g c = λ j low. let a = c.args in let n = g.row.N in
    part_here g.P.Sample.value (a.i * n) (a.i * n + n - a.i * n) a.lines.now c.copy_short-2.new.to j (omega arith)
    (omega (arith, low, c.copy_short-2.auto.to, c.requires.room, length-take (a.i * n + n - a.i * n) (drop (a.i * n) a.lines.now), length-drop (a.i * n) a.lines.now))
    ∙ (c.copy_short-2.ensures j low
    ∙ (c.copy_short.ensures j low
    ∙ copied_is g.P.Sample.value a.row.now _ a.from n j refl low))

pub returns-clause-before : goal.returns-clause-before
returns-clause-before g c = λ k low. let a = c.args in let n = g.row.N in
    part_before g.P.Sample.value (a.i * n) (a.i * n + n - a.i * n) a.lines.now c.copy_short-2.new.to k (omega arith) low
