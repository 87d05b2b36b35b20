use Rattle.std.proofs.Common.{◌<◌, ◌∙◌, sym, length, take, arith}
use Rattle.std.proofs.lemmas.Result.{err_from_is_err_and}
use Rattle.vp9_types.specs.Reading.{field_at}
use Rattle.vp9_types.proofs.Eaches.{each_put, each_stops}
use Rattle.frame_headers.specs.Fields.{past}
use Rattle.frame_headers.specs.Segments.{features_for, no_segment_features}
use Rattle.frame_headers.proofs.segments.read_all_features.Goals as goal

pub returns-in_err-segments : goal.returns-in_err-segments
returns-in_err-segments c =
    let p = err_from_is_err_and c.from_residual.result c.from_residual.ensures.1 in
    let low : c.loop-i.i < length c.loop-i.segments = omega arith in
    rw (p.1, p.2) (sym c.loop-i.invariant ∙ each_stops (field_at past) features_for (take c.loop-i.i c.loop-i.segments) c.loop-i.segments c.loop-i.i no_segment_features c.loop-i.bits c.in_err-segments.field-0.0 low c.in_err-segments.ensures)

pub loop-i-preserved : goal.loop-i-preserved
loop-i-preserved c =
    let low : c.loop-i.i < length c.loop-i.segments = omega arith in
    sym (each_put (field_at past) features_for c.loop-i.segments c.loop-i.i no_segment_features c.in_ok-segments.field-0 c.loop-i.bits c.read_segment_features.new.bits low c.in_ok-segments.ensures) ∙ c.loop-i.invariant
