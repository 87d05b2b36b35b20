use Rattle.std.proofs.Common.{arith}
use Rattle.residue_transforms.proofs.Scales.{first_small, others_small, four_places, coefficients_fit}
use Rattle.residue_transforms.proofs.dequantise.dequantise.Goals as goal

pub scale-requires-clause-first : goal.scale-requires-clause-first
scale-requires-clause-first c =
    first_small c.args.quant c.args.tx c.args.whole c.args.block.now c.if-all_fit.ensures (omega (arith, four_places c.args.tx, c.requires.size)) c.requires.whole

pub scale-requires-clause-others : goal.scale-requires-clause-others
scale-requires-clause-others c = others_small c.args.quant c.args.tx c.args.whole c.args.block.now c.if-all_fit.ensures c.requires.whole

pub returns-then-all_fit : goal.returns-then-all_fit
returns-then-all_fit c = (coefficients_fit c.args.quant c.args.tx c.args.whole c.args.block.now c.if-all_fit.ensures c.requires.whole, c.scale.ensures)
