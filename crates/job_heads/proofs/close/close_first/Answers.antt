use Rattle.std.proofs.Common.{refl}
use Rattle.job_heads.proofs.HeadSteps.{kept_first}
use Rattle.job_heads.proofs.close.close_first.Goals as goal

pub close_behind-requires : goal.close_behind-requires
close_behind-requires g c = λ k. (
  (refl, (refl, tt)),
  kept_first g.B.DecodeRun.format g.B.DecodeRun.film c.form-form.result c.in-Ok.start c.form-form.ensures c.in-Ok.ensures.stands c.in-Ok.ensures.form c.in-Ok.ensures.may,
)
