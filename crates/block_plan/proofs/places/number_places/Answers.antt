use Rattle.std.proofs.Common.{subst}
use Rattle.block_geometry.specs.declared.parts.Part.{Part}
use Rattle.block_plan.proofs.Numbers.{IsFilled, agrees_after, below_after}
use Rattle.block_plan.proofs.places.number_places.Goals as goal

pub returns-clause-agree : goal.returns-clause-agree
returns-clause-agree c = λ earlier is few agree.
    agrees_after earlier c.args.block.now c.args.rows c.args.from c.args.width c.args.number c.args.places.now c.fill_part.new.places
    is c.requires.long c.fill_part.auto.places c.requires.first few agree
    (subst (λ (part : Part). IsFilled c.args.width part.row part.col part.rows part.cols c.args.number c.args.places.now c.fill_part.new.places)
    c.part_inside-part.ensures.is c.fill_part.ensures)

pub returns-clause-few : goal.returns-clause-few
returns-clause-few c = λ most is few.
    let part = c.part_inside-part.result in
    below_after most c.args.rows c.args.width part.row part.col part.rows part.cols c.args.number c.args.places.now c.fill_part.new.places
    is c.requires.long c.fill_part.auto.places few c.fill_part.ensures
