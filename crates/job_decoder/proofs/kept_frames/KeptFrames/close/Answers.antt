use Rattle.std.proofs.Common.{ap}
use Rattle.job_rows.specs.job_results.Meaning.{builds, shown_as}
use Rattle.job_decoder.proofs.kept_frames.KeptFrames.close.Goals as goal

pub returns-in-Closed-clause-goes_on : goal.returns-in-Closed-clause-goes_on
returns-in-Closed-clause-goes_on g c =
    let k = c.in-Closed.field-0.value in
    (record { columns = k.columns; rows = k.rows; shown = shown_as k.shown }, ap builds c.in-Closed.is)
