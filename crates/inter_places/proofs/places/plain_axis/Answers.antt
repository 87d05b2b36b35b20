use Rattle.std.proofs.Common.{◌∙◌, arith}
use Rattle.inter_places.proofs.Kept.{kept}
use Rattle.inter_places.proofs.Unscaled.{plain_is, plain_parts}
use Rattle.inter_places.proofs.places.plain_axis.Goals as goal

pub returns-clause-value : goal.returns-clause-value
returns-clause-value c =
    let a = c.args in
    plain_parts _ _ _ _ _ _ _ _ (kept c.plain_start.result c.plain_start.ensures.near) c.plain_start.ensures.value c.span_of-span.ensures.value
    (kept c.component.result (omega (arith, c.component.ensures.near)) ∙ c.component.ensures.value) c.plane_length.ensures
    ∙ plain_is a.shape.now a.block.now a.inter.now a.part a.reference.now a.along c.requires.part c.requires.reference c.requires.whole c.requires.same
