use Rattle.job_heads.proofs.HeadSteps.{kept_first}
use Rattle.job_heads.proofs.head.read_first.Goals as goal

pub read_head-requires-clause-kept : goal.read_head-requires-clause-kept
read_head-requires-clause-kept g c = kept_first g.B.DecodeRun.format g.B.DecodeRun.film c.form-form.result c.in-Ok.start c.form-form.ensures c.in-Ok.ensures.stands c.in-Ok.ensures.form c.in-Ok.ensures.may
