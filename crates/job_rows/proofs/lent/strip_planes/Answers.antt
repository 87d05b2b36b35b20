use Rattle.std.proofs.Common.{ap}
use Rattle.std.specs.Option.{option_copied}
use Rattle.job_results.specs.JobResults.{IsStripAs}
use Rattle.job_rows.proofs.DueRows.{of_frame}
use Rattle.job_rows.proofs.lent.strip_planes.Goals as goal

pub returns : goal.returns
returns g c =
    let h = c.in-Some.ensures in
    let planes = c.in-Some-planes_of.planes.now in
    of_frame (λ d. IsStripAs d c.args.column c.args.row planes) g.B.DecodeRun.format g.B.DecodeRun.film c.args.frame h.0 h.1 (c.planes_of.ensures.strip h.0 c.args.column c.args.row planes (ap option_copied c.in-Some-planes_of.is) h.3)
