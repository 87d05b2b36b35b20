use Rattle.std.proofs.Common.{◌<◌, arith, length}
use Rattle.residue_transforms.proofs.Flats.{area_some, flat_gives, gives_small}
use Rattle.residue_transforms.proofs.levels.flat_residue.Goals as goal

pub returns-clause-gives : goal.returns-clause-gives
returns-clause-gives c =
    let some : 0 < length c.args.block.now = omega (arith, area_some c.args.tx, c.requires.size) in
    flat_gives c.args.quant c.args.tx c.args.kind c.args.block.now c.flatten.new.block c.flatten.result some c.requires.size
    c.requires.alone c.requires.cosines c.flatten.ensures

pub returns-clause-small : goal.returns-clause-small
returns-clause-small c =
    let some : 0 < length c.args.block.now = omega (arith, area_some c.args.tx, c.requires.size) in
    gives_small c.args.quant c.args.tx c.args.kind c.args.block.now c.flatten.new.block c.flatten.result
    (flat_gives c.args.quant c.args.tx c.args.kind c.args.block.now c.flatten.new.block c.flatten.result some c.requires.size
    c.requires.alone c.requires.cosines c.flatten.ensures)
