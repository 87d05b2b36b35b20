use Rattle.std.proofs.Common.{◌≡◌, to_z, of_z, arith, rules}
use mir.Syntax.{w32}
use Rattle.inverse_transforms.specs.Flow.{at}
use Rattle.residue_transforms.proofs.Scales.{others_step, product_small_again, all_made}
use Rattle.residue_transforms.proofs.scale.scale.Goals as goal

pub product-requires : goal.product-requires
product-requires c =
    let same : to_z w32 (of_z w32 (at c.loop-place.block c.loop-place.place)) ≡ at c.loop-place.block c.loop-place.place = search rules in
    product_small_again c.args.quant c.args.tx c.args.block.now c.loop-place.block c.loop-place.place (omega arith) same c.requires.others c.loop-place.invariant

pub loop-place-preserved : goal.loop-place-preserved
loop-place-preserved c =
    let same : to_z w32 (of_z w32 (at c.loop-place.block c.loop-place.place)) ≡ at c.loop-place.block c.loop-place.place = search rules in
    others_step c.args.quant c.args.tx c.args.block.now c.loop-place.block c.loop-place.place c.product.result c.scaled.result (omega arith) same
    (search rules) (search rules) c.product.ensures.value c.scaled.ensures c.loop-place.invariant

pub returns : goal.returns
returns c =
    all_made c.args.quant c.args.tx c.args.block.now c.loop-place.block c.put_four.new.to c.first_four-first.result c.loop-place.place (omega arith) (search rules)
    c.first_four-first.ensures c.put_four.ensures c.loop-place.invariant
