use Rattle.std.proofs.Common.{◌≡◌, ap}
use Rattle.job_rows.proofs.DueRows.{of_frame}
use Rattle.frame_headers.specs.declared.header.Header.{Header}
use Rattle.job_rows.proofs.lent.depth_of.Goals as goal

pub returns : goal.returns
returns g c = let h = c.begun.ensures in
    of_frame (λ d. c.begun.result.now.setting.header.color.depth ≡ d.header.color.depth) g.B.DecodeRun.format g.B.DecodeRun.film c.args.frame h.0 h.1 (ap (λ (x : Header). x.color.depth) h.2.header)
