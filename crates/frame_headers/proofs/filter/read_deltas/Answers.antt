use Rattle.std.proofs.Common.{◌≡◌, ◌<◌, ◌∙◌, sym, subst, length, get_or, arith, rules, pos, to_z, of_z, w16, take, Ok, Err}
use Rattle.std.proofs.lemmas.Result.{err_from_is_err_and}
use Rattle.vp9_types.specs.Reading.{field_at, read_bits}
use Rattle.vp9_types.proofs.Eaches.{each_put, each_stops}
use Rattle.frame_headers.specs.Fields.{past}
use Rattle.frame_headers.specs.Filter.{coded_delta}
use Rattle.frame_headers.proofs.filter.read_deltas.Goals as goal

pub returns-in_err-deltas : goal.returns-in_err-deltas
returns-in_err-deltas c =
    let p = err_from_is_err_and c.from_residual.result c.from_residual.ensures.1 in
    let low : c.loop-i.i < length c.loop-i.deltas = omega arith in
    let same : to_z w16 (of_z w16 (get_or c.loop-i.deltas c.loop-i.i (pos 0))) ≡ get_or c.loop-i.deltas c.loop-i.i (pos 0) = search rules in
    let failed = subst (λ z. read_bits past (coded_delta c.args.update c.args.delta z) c.loop-i.bits ≡ Err c.in_err-deltas.field-0.0) same c.in_err-deltas.ensures in
    rw (p.1, p.2) (sym c.loop-i.invariant ∙ each_stops (field_at past) (coded_delta c.args.update c.args.delta) (take c.loop-i.i c.loop-i.deltas) c.loop-i.deltas c.loop-i.i (pos 0) c.loop-i.bits c.in_err-deltas.field-0.0 low failed)

pub loop-i-preserved : goal.loop-i-preserved
loop-i-preserved c =
    let low : c.loop-i.i < length c.loop-i.deltas = omega arith in
    let kept : to_z w16 (of_z w16 c.in_ok-deltas.field-0) ≡ c.in_ok-deltas.field-0 = search rules in
    let same : to_z w16 (of_z w16 (get_or c.loop-i.deltas c.loop-i.i (pos 0))) ≡ get_or c.loop-i.deltas c.loop-i.i (pos 0) = search rules in
    let read = subst (λ z. read_bits past (coded_delta c.args.update c.args.delta z) c.loop-i.bits ≡ Ok (c.in_ok-deltas.field-0, c.read_delta.new.bits)) same c.in_ok-deltas.ensures in
    let put = each_put (field_at past) (coded_delta c.args.update c.args.delta) c.loop-i.deltas c.loop-i.i (pos 0) c.in_ok-deltas.field-0 c.loop-i.bits c.read_delta.new.bits low read in
    rw kept (sym put ∙ c.loop-i.invariant)
