use Rattle.std.proofs.Common.{◌≡◌, ◌≤◌, ◌*◌, ◌^◌, length, arith, rules}
use Rattle.std.proofs.lemmas.Result.{err_from_is_err_and}
use Rattle.inverse_transforms.specs.Ranges.{limit_of}
use Rattle.residue_transforms.specs.Residue.{rounded_transform}
use Rattle.residue_transforms.proofs.GroupTurns.{turn_done, turn_failed}
use Rattle.residue_transforms.proofs.turn.turn_large.Goals as goal

pub returns-in_err-turn_next : goal.returns-in_err-turn_next
returns-in_err-turn_next c =
    let p = err_from_is_err_and c.from_residual.result c.from_residual.ensures.1 in
    rw (p.1, p.2) (turn_failed c.args.pass.kind c.args.pass.depth c.args.pass.log2 c.args.pass.bits (2 ^ c.args.pass.log2) c.large_side-n.result
    c.args.from.now c.in_err-turn_next.field-0.0 c.large_side-n.ensures.side c.in_err-turn_next.ensures)

pub returns : goal.returns
returns c =
    let n = c.large_side-n.result in
    let all : n ≤ c.loop-group.group * 8 = omega (arith, c.large_side-n.ensures.eights, c.loop-group-test.false) in
    let size : length c.loop-group.to ≡ 2 ^ c.args.pass.log2 * 2 ^ c.args.pass.log2 = search rules in
    turn_done (rounded_transform c.args.pass.kind (limit_of c.args.pass.depth) c.args.pass.log2 c.args.pass.bits) (2 ^ c.args.pass.log2) n
    (c.loop-group.group * 8) c.args.from.now c.loop-group.to c.large_side-n.ensures.side all size c.loop-group.invariant
