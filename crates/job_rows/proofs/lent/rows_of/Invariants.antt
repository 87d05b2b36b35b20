use Rattle.std.proofs.Common.{◌≡◌, ◌≤◌, ◌-◌, length, map}
use Rattle.std.specs.Vec.{vec_capacity}
use Rattle.filtered_rows.specs.BufferRows.{HoldRows}
use Rattle.job_results.specs.numbered_frames.NumberedPictures.{pictures}
use Rattle.job_rows.proofs.lent.rows_of.Given as goal

abbrev pub invariant-loop-row : goal.invariant-loop-row
invariant-loop-row g l = record {
  many : length l.rows.items ≡ l.row - l.first;
  room : l.end - l.first ≤ vec_capacity l.rows;
  held : HoldRows (pictures g.B.DecodeRun.format g.B.DecodeRun.film l.frame) l.first (map (λ b. b.now) l.rows.items);
}
