use Rattle.std.proofs.Common.{◌≡◌, subst, rules, arith, get_or, [], ◌*◌, ◌+◌}
use Rattle.inverse_transforms.specs.Flow.{at}
use Rattle.residue_transforms.specs.SquareBlocks.{HasPiece}
use Rattle.residue_transforms.specs.Residue.{round}
use Rattle.residue_transforms.proofs.Pieces.{piece_same, stored_more, stored_columns}
use Rattle.residue_transforms.proofs.group.store_four.Goals as goal

pub loop-k-preserved : goal.loop-k-preserved
loop-k-preserved c =
    let place : c.loop-k.k * 4 ≡ c.loop-k.k * 4 + 0 = omega arith in
    stored_more 4 0 4 (λ k j. round c.args.bits (at (get_or c.args.t.now k []) j)) c.args.to.now c.loop-k.to c.put_four.new.to c.loop-k.k (omega arith) (search rules)
    (subst (λ z. HasPiece z 4 (λ j. round c.args.bits (at (get_or c.args.t.now c.loop-k.k []) j)) c.loop-k.to c.put_four.new.to) place
    (piece_same (c.loop-k.k * 4) 4 (λ j. at c.rounded_four.result j) (λ j. round c.args.bits (at (get_or c.args.t.now c.loop-k.k []) j))
    c.loop-k.to c.put_four.new.to c.put_four.ensures c.rounded_four.ensures)) c.loop-k.invariant

pub returns : goal.returns
returns c = stored_columns 4 0 4 c.args.bits c.args.t.now c.args.to.now c.loop-k.to c.loop-k.k (search rules) (omega arith) c.loop-k.invariant
