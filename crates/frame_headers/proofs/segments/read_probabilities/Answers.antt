use Rattle.std.proofs.Common.{◌<◌, ◌∙◌, sym, length, take, arith}
use Rattle.std.proofs.lemmas.Result.{err_from_is_err_and}
use Rattle.vp9_types.specs.Reading.{field_at}
use Rattle.vp9_types.proofs.Eaches.{each_put, each_stops}
use Rattle.frame_headers.specs.Fields.{past}
use Rattle.frame_headers.specs.Segments.{probability_for}
use Rattle.frame_headers.proofs.segments.read_probabilities.Goals as goal

pub returns-in_err-values : goal.returns-in_err-values
returns-in_err-values c =
    let p = err_from_is_err_and c.from_residual.result c.from_residual.ensures.1 in
    let low : c.loop-i.i < length c.loop-i.values = omega arith in
    rw (p.1, p.2) (sym c.loop-i.invariant ∙ each_stops (field_at past) probability_for (take c.loop-i.i c.loop-i.values) c.loop-i.values c.loop-i.i 0 c.loop-i.bits c.in_err-values.field-0.0 low c.in_err-values.ensures)

pub loop-i-preserved : goal.loop-i-preserved
loop-i-preserved c =
    let low : c.loop-i.i < length c.loop-i.values = omega arith in
    sym (each_put (field_at past) probability_for c.loop-i.values c.loop-i.i 0 c.in_ok-values.field-0 c.loop-i.bits c.read_probability.new.bits low c.in_ok-values.ensures) ∙ c.loop-i.invariant
