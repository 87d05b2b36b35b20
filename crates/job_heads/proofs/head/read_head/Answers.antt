use Rattle.std.proofs.Common.{sym}
use Rattle.job_heads.proofs.HeadSteps.{head_ends}
use Rattle.job_heads.proofs.head.read_head.Goals as goal

pub returns-in-Err : goal.returns-in-Err
returns-in-Err g c =
    rw c.outcome_at.ensures
    (head_ends g.B.DecodeRun.format g.B.DecodeRun.film c.args.number c.args.before.now c.in-Some.bytes.now c.in-Err.rule c.requires.kept (sym c.in-Some.ensures) c.in-Err.ensures.exact)
