use Rattle.std.proofs.Common.{◌*◌, refl, arith, nat_lt}
use Rattle.residue_transforms.proofs.Scales.{products_tested}
use Rattle.residue_transforms.proofs.scale.all_fit.Goals as goal

pub returns : goal.returns
returns c =
    let h = c.max-step.ensures in
    products_tested c.args.quant c.args.tx c.args.whole c.max-step.result c.product_limit.result (nat_lt (c.args.whole * c.max-step.result) c.product_limit.result)
    (omega (arith, h)) (omega (arith, h)) refl c.product_limit.ensures
