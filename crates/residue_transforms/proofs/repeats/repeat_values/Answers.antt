use Rattle.std.proofs.Common.{◌≡◌, ◌+◌, ◌-◌, ◌<◌, pos, length, arith, rules, get_or}
use Rattle.std.proofs.lemmas.Int.{to_z-of_z}
use mir.Syntax.{w32}
use mir.Val.{SFits}
use Rattle.inverse_transforms.specs.Flow.{at}
use Rattle.residue_transforms.proofs.Pieces.{piece_more}
use Rattle.residue_transforms.proofs.RepeatedGroups.{kept_before}
use Rattle.residue_transforms.proofs.repeats.repeat_values.Goals as goal

pub loop-j-preserved : goal.loop-j-preserved
loop-j-preserved c =
    let q = c.args.place - c.args.width + c.loop-j.j in
    let v = get_or c.loop-j.to q (pos 0) in
    let in_i32 : SFits w32 v = search rules in
    let there : q < c.args.place = omega (arith, c.requires.before, c.loop-j-test.true) in
    let low : c.args.place + c.loop-j.j < length c.loop-j.to = omega (arith, c.loop-j.auto.to, c.requires.room, c.loop-j-test.true) in
    let value : v ≡ at c.args.to.now q =
    kept_before c.args.place c.loop-j.j q (λ j. at c.args.to.now (c.args.place - c.args.width + j)) c.args.to.now c.loop-j.to there c.loop-j.invariant in
    rw (to_z-of_z w32 v in_i32)
    (piece_more c.args.place c.loop-j.j (λ j. at c.args.to.now (c.args.place - c.args.width + j)) c.args.to.now c.loop-j.to v low value c.loop-j.invariant)
