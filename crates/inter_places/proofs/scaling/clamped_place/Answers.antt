use Rattle.std.proofs.Common.{◌∙◌, arith}
use Rattle.inter_places.proofs.Kept.{kept}
use Rattle.inter_places.proofs.Unscaled.{clamped_is}
use Rattle.inter_places.proofs.scaling.clamped_place.Goals as goal

pub returns-clause-value : goal.returns-clause-value
returns-clause-value c =
    let at = kept c.place_at.result (omega (arith, c.place_at.ensures.near)) ∙ rw (kept c.args.mv (omega (arith, c.requires.near))) at c.place_at.ensures.value in
    let low = kept c.least_place.result (omega (arith, c.least_place.ensures.near)) ∙ c.least_place.ensures.value in
    let high = kept c.greatest_place.result (omega (arith, c.greatest_place.ensures.near)) ∙ c.greatest_place.ensures.value in
    kept c.clip.result (omega (arith, c.clip.ensures.near)) ∙ (rw (at, low, high) at c.clip.ensures.value ∙ clamped_is c.args.span.now c.args.mv)
