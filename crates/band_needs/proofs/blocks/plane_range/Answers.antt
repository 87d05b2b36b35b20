use Rattle.std.proofs.Common.{◌≡◌, ◌<◌, ◌∙◌, sym, arith}
use Rattle.inter_places.specs.Places.{parts_of}
use Rattle.band_needs.specs.Ranges.{both_ranges}
use Rattle.band_needs.specs.BandReads.{part_in}
use Rattle.band_needs.specs.Needs.{part_range, with_part, plane_range}
use Rattle.band_needs.proofs.RowLemmas.{fold_more}
use Rattle.band_needs.proofs.PlaneLemmas.{first_twice, some_parts}
use Rattle.band_needs.proofs.blocks.plane_range.Goals as goal

pub loop-number-preserved : goal.loop-number-preserved
loop-number-preserved c = let a = c.args in let b = a.b.now in
    c.with-range.ensures
    ∙ ((λ i. both_ranges (c.loop-number.invariant i) (c.part_range.ensures i))
    ∙ sym (fold_more (with_part b.shape.now a.reference.now b.block.now b.modes.now a.list a.plane)
    (part_range b.shape.now a.reference.now b.block.now b.modes.now (part_in a.plane 0 a.list)) c.loop-number.number))

pub loop-number-init : goal.loop-number-init
loop-number-init c = let a = c.args in let b = a.b.now in
    c.part_range-range.ensures ∙ first_twice b.shape.now a.reference.now b.block.now b.modes.now a.list a.plane

pub returns : goal.returns
unfolding plane_range
returns c =
    let some = some_parts c.args.b.now.shape.now c.args.b.now.block.now.size c.args.plane in
    let done : c.loop-number.number ≡ c.part_count-count.result = omega (arith, some, c.part_count-count.ensures, c.loop-number-test.false, c.loop-number.auto.number-end) in
    rw (done ∙ c.part_count-count.ensures) at c.loop-number.invariant
