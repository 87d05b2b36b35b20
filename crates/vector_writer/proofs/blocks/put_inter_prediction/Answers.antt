use Rattle.std.proofs.Common.{rules, ◌≡◌, true, false, length}
use Rattle.block_geometry.specs.BlockSizes.{is_below_8x8}
use Rattle.vector_writer.proofs.Modes.{quarters_answered, whole_answered}
use Rattle.vector_writer.proofs.blocks.put_inter_prediction.Goals as goal

pub returns-then-is_below_8x8-clause-said : goal.returns-then-is_below_8x8-clause-said
returns-then-is_below_8x8-clause-said g c =
    let long : length c.args.symbols.now.modes ≡ 4 = search rules in
    let below : is_below_8x8 c.args.src.now.search.at.size ≡ true = search rules in
    quarters_answered _ c.args.skips c.args.filter.frame c.args.symbols.now c.put_block_of_quarters.result c.requires.can long below c.put_block_of_quarters.ensures.is

pub returns-else-is_below_8x8-clause-said : goal.returns-else-is_below_8x8-clause-said
returns-else-is_below_8x8-clause-said g c =
    let long : length c.args.symbols.now.modes ≡ 4 = search rules in
    let from : is_below_8x8 c.args.src.now.search.at.size ≡ false = search rules in
    whole_answered _ c.args.skips c.args.filter.frame c.args.symbols.now c.put_whole.result c.requires.can long from c.put_whole.ensures.is
