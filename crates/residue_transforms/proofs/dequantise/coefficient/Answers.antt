use Rattle.std.proofs.Common.{◌≡◌, ◌∙◌, ℤ, to_z, of_z, ◌*ℤ◌, pos, rules, refl, ap, subst}
use Rattle.std.proofs.lemmas.Int.{to_z-of_z}
use mir.Syntax.{w32, w64}
use mir.Val.{SFits}
use Rattle.inverse_transforms.specs.Ranges.{limit_of}
use Rattle.residue_transforms.specs.Residue.{coefficient, scaled, quantiser, Fitting}
use Rattle.residue_transforms.proofs.dequantise.coefficient.Goals as goal

pub returns : goal.returns
unfolding coefficient
returns c =
    let s : SFits w64 c.scaled.result = search rules in
    let p : SFits w64 c.product.result = search rules in
    let level : SFits w32 c.args.level = c.ranges.level in
    let exact : c.product.result ≡ (c.args.level *ℤ pos (quantiser c.args.quant c.args.place)) =
    c.product.ensures.value ∙ rw (to_z-of_z w32 c.args.level level, c.step_of.ensures) refl in
    let value : to_z w64 (of_z w64 c.scaled.result) ≡ coefficient c.args.quant c.args.tx c.args.place c.args.level =
    to_z-of_z w64 c.scaled.result s ∙ (c.scaled.ensures.value ∙ ap (scaled c.args.tx) (to_z-of_z w64 c.product.result p ∙ exact)) in
    subst (λ (z : ℤ). Fitting (limit_of c.args.quant.depth) z c.fitting.result) value c.fitting.ensures
