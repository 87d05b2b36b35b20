use Rattle.std.proofs.Common.{◌≡◌, length}
use Rattle.job_crew.specs.Left.{AreRightRows}
use Rattle.job_rows.specs.job_results.Meaning.{decode_truth}
use Rattle.job_decoder.proofs.kept.lasting_rows.Given as goal

abbrev pub invariant-loop-row : goal.invariant-loop-row
invariant-loop-row g l =
    (length l.rows.items ≡ length l.initial.rows.items) × (length l.kept.items ≡ l.row) × AreRightRows (decode_truth g.B.DecodeRun.format g.B.DecodeRun.film) l.number l.rows.items
    × AreRightRows (decode_truth g.B.DecodeRun.format g.B.DecodeRun.film) l.number l.kept.items
