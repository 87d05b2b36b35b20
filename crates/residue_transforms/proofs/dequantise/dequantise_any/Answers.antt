use Rattle.std.proofs.Common.{rules, arith, refl}
use Rattle.std.proofs.lemmas.Result.{err_from_is_err_and}
use Rattle.residue_transforms.proofs.Coefs.{one_step, one_refused, all_done}
use Rattle.residue_transforms.proofs.dequantise.dequantise_any.Goals as goal

pub loop-place-init : goal.loop-place-init
loop-place-init c = record { size = refl; done = λ k low. absurd (omega arith); fit = λ k low. absurd (omega arith); rest = λ k low. refl }

pub loop-place-preserved : goal.loop-place-preserved
loop-place-preserved c =
    one_step c.args.quant c.args.tx c.args.block.now c.loop-place.block c.loop-place.place c.in_ok-block.field-0 c.requires (omega arith)
    (search rules) c.loop-place.invariant c.in_ok-block.ensures

pub returns-in_err-block : goal.returns-in_err-block
returns-in_err-block c =
    let p = err_from_is_err_and c.from_residual.result c.from_residual.ensures.1 in
    rw (p.1, p.2) (one_refused c.args.quant c.args.tx c.args.block.now c.loop-place.block c.loop-place.place c.in_err-block.field-0.0 c.requires (omega arith)
    c.loop-place.invariant c.in_err-block.ensures)

pub returns : goal.returns
returns c = all_done c.args.quant c.args.tx c.args.block.now c.loop-place.block c.loop-place.place (omega arith) c.loop-place.invariant
