use Rattle.std.proofs.Common.{◌≡◌, take, drop}
use Rattle.vp9_types.specs.Each.{each, run_each_from}
use Rattle.vp9_types.specs.Reading.{field_at, read_bits}
use Rattle.frame_headers.specs.Fields.{past}
use Rattle.frame_headers.specs.Segments.{features_for}
use Rattle.frame_headers.proofs.segments.read_all_features.Given as goal

abbrev pub invariant-loop-i : goal.invariant-loop-i
invariant-loop-i l =
    run_each_from (field_at past) features_for (take l.i l.segments) (drop l.i l.segments) l.bits
    ≡ read_bits past (each features_for l.initial.segments) l.initial.bits
