use Rattle.std.proofs.Common.{◌∙◌}
use Rattle.band_needs.specs.Ranges.{both_ranges}
use Rattle.band_needs.proofs.PlaneLemmas.{list_by_two}
use Rattle.band_needs.proofs.blocks.list_range.Goals as goal

pub returns : goal.returns
returns c = let b = c.args.b.now in
    c.with.ensures ∙ ((λ i. both_ranges (c.plane_range-y.ensures i) (c.plane_range-u.ensures i)) ∙ list_by_two b.shape.now c.args.reference.now b.block.now b.modes.now c.args.list)
