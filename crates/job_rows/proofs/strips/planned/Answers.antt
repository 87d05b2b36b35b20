use Rattle.job_rows.proofs.StripSteps.{none_broken}
use Rattle.job_rows.proofs.strips.planned.Goals as goal

pub unreachable-requires : goal.unreachable-requires
unreachable-requires g c =
    let at = c.column.ensures in
    none_broken g.B.DecodeRun.format g.B.DecodeRun.film c.args.frame c.args.k c.args.row _ _ at.0 c.column.result.now c.in-Err.why c.requires at.1 at.2 c.in-Err.is c.in-Broken.is
