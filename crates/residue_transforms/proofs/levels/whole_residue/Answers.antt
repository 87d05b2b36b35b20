use Rattle.std.proofs.Common.{sym, subst, All, ◌^◌, arith, ◌≡◌, true}
use Rattle.std.specs.List.{list_all}
use Rattle.inverse_transforms.specs.Ranges.{IsSmall, fits, limit_of}
use Rattle.residue_transforms.specs.Residue.{coefficients}
use Rattle.residue_transforms.proofs.Twice.{fitting_small, residue_small}
use Rattle.residue_transforms.proofs.levels.whole_residue.Goals as goal

pub reconstruct-requires-clause-values : goal.reconstruct-requires-clause-values
reconstruct-requires-clause-values c =
    let e = c.in_ok-dequantise.ensures in
    subst (All IsSmall) (sym e.1) (fitting_small (2 ^ 24) c.args.quant.depth (coefficients c.args.quant c.args.tx c.args.block.now) (omega arith) e.0)

pub returns-clause-small : goal.returns-clause-small
returns-clause-small c =
    let e = c.in_ok-dequantise.ensures in
    residue_small c.args.quant c.args.tx c.args.kind c.dequantise.new.block c.reconstruct.new.block c.reconstruct.result
    (subst (λ z. list_all (fits (limit_of c.args.quant.depth)) z ≡ true) (sym e.1) e.0) c.reconstruct.ensures
