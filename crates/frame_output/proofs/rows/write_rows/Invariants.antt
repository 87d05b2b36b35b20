use Rattle.std.proofs.Common.{◌≡◌, ◌*◌, take}
use Rattle.frame_output.specs.Texts.{rows_text}
use Rattle.frame_output.proofs.rows.write_rows.Given as goal

abbrev pub invariant-loop-i : goal.invariant-loop-i
invariant-loop-i g l = take (l.i * l.row_bytes) l.buffer ≡ rows_text l.form.depth l.form.width (g.S.Samples.map l.samples l.plane) l.from l.i
