use Rattle.std.proofs.Common.{◌≡◌, arith, subst, sym}
use Rattle.job_results.specs.JobResults.{IsClose}
use Rattle.job_heads.proofs.close.do_close.Goals as goal

pub returns-in-None : goal.returns-in-None
returns-in-None g c =
    let first : c.args.number ≡ 0 = omega (arith, c.in-None.ensures) in
    subst (λ n. IsClose g.B.DecodeRun.format g.B.DecodeRun.film n c.close_first.result) (sym first) c.close_first.ensures
