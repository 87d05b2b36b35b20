use Rattle.block_plan.proofs.MapRows.{part_filled}
use Rattle.block_plan.proofs.segment_ids.put_in.Goals as goal

pub returns : goal.returns
returns c =
    let part = c.args.part in
    part_filled c.args.width c.fill_part.new.places c.args.ids.now c.args.id part.row part.col part.rows part.cols
    c.fill_part.auto.places c.requires.wide c.requires.high c.fill_part.ensures
