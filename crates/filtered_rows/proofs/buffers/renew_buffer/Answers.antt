use Rattle.std.proofs.Common.{◌∙◌, subst}
use Rattle.std.specs.Option.{option_copied}
use Rattle.filtered_rows.specs.Buffers.{IsFilteredAbove}
use Rattle.filtered_rows.proofs.Pending.{awaits_below}
use Rattle.filtered_rows.proofs.buffers.renew_buffer.Goals as goal

pub returns-in-Some-clause-awaits : goal.returns-in-Some-clause-awaits
returns-in-Some-clause-awaits g c = let a = c.args in
    let y = c.take_pending.ensures in
    let u = c.take_pending-in-Some.ensures in
    let v = c.take_pending-in-Some-2.ensures in
    λ f blocks raw same done.
    awaits_below a.shape.now a.row c.in-Some.above.now a.to.now _ (record { y = y.area ∙ c.requires.place.y; u = u.area ∙ c.requires.place.u; v = v.area ∙ c.requires.place.v }) c.requires.range
    y.kept u.kept v.kept y.range u.range v.range f blocks raw same (subst (λ o. IsFilteredAbove f blocks raw a.row (option_copied o)) c.in-Some.is done)
