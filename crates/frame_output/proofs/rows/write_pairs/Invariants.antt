use Rattle.std.proofs.Common.{◌≡◌, ◌*◌, map, take}
use Rattle.std.specs.List.{flat_map}
use Rattle.frame_output.specs.Texts.{two_bytes}
use Rattle.frame_output.proofs.rows.write_pairs.Given as goal

abbrev pub invariant-loop-i : goal.invariant-loop-i
invariant-loop-i g l = take (2 * l.i) l.bytes ≡ flat_map two_bytes (take l.i (map g.P.Sample.value l.row))
