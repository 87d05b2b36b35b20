use Rattle.std.proofs.Common.{◌∙◌, ◌+ℤ◌, ◌-ℤ◌, ◌*ℤ◌, ℤ, pos, ap}
use Rattle.inter_places.specs.PlaneVectors.{in_sixteenths}
use Rattle.inter_places.proofs.Kept.{end_is}
use Rattle.inter_places.proofs.span.greatest_vector.Goals as goal

pub returns-clause-value : goal.returns-clause-value
returns-clause-value c = let s = c.args.span.now in
    end_is s.ss c.places_behind.result c.in_sixteenths-edge.result c.reach-reach.result c.places_behind.ensures.near c.in_sixteenths-edge.ensures.most c.reach-reach.ensures.near c.in_sixteenths-edge.ensures.value
    ∙ ap (λ (z : ℤ). in_sixteenths s.ss (pos 64 *ℤ z) +ℤ c.reach-reach.result) c.places_behind.ensures.value
    ∙ ap (λ (z : ℤ). in_sixteenths s.ss (pos 64 *ℤ ((pos s.all -ℤ pos s.count) -ℤ pos s.first)) +ℤ z) c.reach-reach.ensures.value
