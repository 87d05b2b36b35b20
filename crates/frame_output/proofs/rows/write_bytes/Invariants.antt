use Rattle.std.proofs.Common.{◌≡◌, map, take}
use Rattle.frame_output.proofs.rows.write_bytes.Given as goal

abbrev pub invariant-loop-i : goal.invariant-loop-i
invariant-loop-i g l = take l.i l.bytes ≡ take l.i (map g.P.Sample.value l.row)
