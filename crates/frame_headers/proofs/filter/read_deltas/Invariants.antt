use Rattle.std.proofs.Common.{◌≡◌, take, drop}
use Rattle.vp9_types.specs.Each.{each, run_each_from}
use Rattle.vp9_types.specs.Reading.{field_at, read_bits}
use Rattle.frame_headers.specs.Fields.{past}
use Rattle.frame_headers.specs.Filter.{coded_delta}
use Rattle.frame_headers.proofs.filter.read_deltas.Given as goal

abbrev pub invariant-loop-i : goal.invariant-loop-i
invariant-loop-i l =
    run_each_from (field_at past) (coded_delta l.update l.delta) (take l.i l.deltas) (drop l.i l.deltas) l.bits
    ≡ read_bits past (each (coded_delta l.update l.delta) l.initial.deltas) l.initial.bits
