use Rattle.std.proofs.Common.{◌+◌, ◌*◌, ◌/◌, ◌∙◌, arith, inl, inr}
use Rattle.std.proofs.lemmas.Bool.{cases_lt}
use Rattle.inter_predict.proofs.down.scale_row.Goals as goal

pub returns-clause-row : goal.returns-clause-row
returns-clause-row g c = λ j low. let a = c.args in elim (cases_lt j (16 * (a.n / 16))) [
  | inl whole ↦ c.scale_rest.ensures.before (a.i * a.n + j) (omega (arith, whole)) ∙ c.scale_sixteens.ensures.row j whole
  | inr rest ↦ c.scale_rest.ensures.row j rest low
]
