use Rattle.std.proofs.Common.{◌≡◌, get_or, pos, to_z, of_z, arith, rules, subst}
use mir.Syntax.{w32}
use Rattle.inverse_transforms.specs.Flow.{at}
use Rattle.residue_transforms.specs.SquareBlocks.{HasPiece}
use Rattle.residue_transforms.proofs.Pieces.{no_piece, piece_more}
use Rattle.residue_transforms.proofs.group.put_four.Goals as goal

pub loop-j-init : goal.loop-j-init
loop-j-init c = no_piece c.args.place (λ j. at c.args.values.now j) c.args.to.now

pub loop-j-preserved : goal.loop-j-preserved
loop-j-preserved c =
    let value : to_z w32 (of_z w32 (get_or c.args.values.now c.loop-j.j (pos 0))) ≡ at c.args.values.now c.loop-j.j = search rules in
    piece_more c.args.place c.loop-j.j (λ j. at c.args.values.now j) c.args.to.now c.loop-j.to (to_z w32 (of_z w32 (get_or c.args.values.now c.loop-j.j (pos 0))))
    (omega (arith, c.loop-j.auto.to, c.loop-j-test.true, c.requires)) value c.loop-j.invariant

pub returns : goal.returns
returns c =
    let all : c.loop-j.j ≡ 4 = omega (arith, c.loop-j.auto.j-end, c.loop-j-test.false) in
    subst (λ n. HasPiece c.args.place n (λ j. at c.args.values.now j) c.args.to.now c.loop-j.to) all c.loop-j.invariant
