use Rattle.std.proofs.Common.{◌∙◌, ℕ, arith, ap}
use Rattle.inter_predict.proofs.RowLemmas.{kept_long, row_entry, row_small}
use Rattle.inter_predict.proofs.rows.read_row.Goals as goal

pub returns-clause-long : goal.returns-clause-long
returns-clause-long g c = let a = c.args in let p = a.place.now in
    omega (arith, c.requires.wide, kept_long g.P.Sample.value c.row.result.now (g.S.Samples.map a.view.now p.plane) c.straight.result (g.S.Samples.width a.view.now p.plane) c.row.ensures)

pub returns-clause-samples : goal.returns-clause-samples
returns-clause-samples g c = λ k. let a = c.args in let p = a.place.now in
    rw c.row.ensures (row_small (g.S.Samples.map a.view.now p.plane) a.most c.straight.result (g.S.Samples.width a.view.now p.plane) k c.requires.samples)

pub returns-clause-row : goal.returns-clause-row
returns-clause-row g c = λ k low. let a = c.args in let p = a.place.now in
    rw c.row.ensures (row_entry (g.S.Samples.map a.view.now p.plane) c.straight.result (g.S.Samples.width a.view.now p.plane) k (omega (arith, low, c.requires.wide)))
    ∙ ap (λ (y : ℕ). g.S.Samples.map a.view.now p.plane y k) c.straight.ensures.value
