use Rattle.std.proofs.Common.{◌≡◌, ◌*◌, ◌^◌, ap, sym, rules, length}
use Rattle.residue_transforms.proofs.GroupTurns.{group_turned}
use Rattle.residue_transforms.proofs.turn.turn_rows.Goals as goal

pub returns-in-2 : goal.returns-in-2
returns-in-2 c =
    let size : length c.turn_four.new.to ≡ 4 * 4 = search rules in
    group_turned c.args.pass.kind c.args.pass.depth c.args.pass.log2 c.args.pass.bits 4 (2 ^ c.args.pass.log2) c.args.from.now c.args.to.now c.turn_four.new.to
    c.turn_four.result (ap (λ z. 2 ^ z) (sym c.in-2.is)) size c.turn_four.ensures

pub returns-in-3 : goal.returns-in-3
returns-in-3 c =
    let size : length c.turn_eight.new.to ≡ 8 * 8 = search rules in
    group_turned c.args.pass.kind c.args.pass.depth c.args.pass.log2 c.args.pass.bits 8 (2 ^ c.args.pass.log2) c.args.from.now c.args.to.now c.turn_eight.new.to
    c.turn_eight.result (ap (λ z. 2 ^ z) (sym c.in-3.is)) size c.turn_eight.ensures
