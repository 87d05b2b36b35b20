use Rattle.std.proofs.Common.{◌≡◌, ℤ, to_z, of_z, arith, rules, ap, sym, ◌∙◌, unsigned_abs}
use mir.Syntax.{w32}
use Rattle.inverse_transforms.specs.Flow.{at}
use Rattle.residue_transforms.proofs.Scales.{all_under, under_more}
use Rattle.residue_transforms.proofs.scale.whole_of.Goals as goal

pub loop-place-preserved : goal.loop-place-preserved
loop-place-preserved c =
    let level : ℤ = at c.args.levels.now c.loop-place.place in
    let same : to_z w32 (of_z w32 level) ≡ level = search rules in
    under_more c.args.levels.now c.loop-place.place c.loop-place.whole c.unsigned_abs-whole.result
    (sym (c.unsigned_abs-whole.ensures.value ∙ ap unsigned_abs same)) c.loop-place.invariant

pub returns : goal.returns
returns c = all_under c.args.levels.now c.loop-place.place c.loop-place.whole (omega arith) c.loop-place.invariant
