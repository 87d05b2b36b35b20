use Rattle.std.proofs.Common.{rules, arith, refl, length, get_or, [], ◌+◌, ◌*◌}
use Rattle.inverse_transforms.specs.Flow.{at}
use Rattle.residue_transforms.specs.Residue.{round}
use Rattle.residue_transforms.proofs.Pieces.{piece_same, stored_more, stored_columns}
use Rattle.residue_transforms.proofs.group.store.Goals as goal

pub loop-k-preserved : goal.loop-k-preserved
loop-k-preserved c =
    stored_more (length c.args.t.now) c.args.first 8 (λ k j. round c.args.bits (at (get_or c.args.t.now k []) j)) c.args.to.now c.loop-k.to c.put_eight.new.to
    c.loop-k.k c.requires.columns (search rules)
    (piece_same (c.loop-k.k * length c.args.t.now + c.args.first) 8 (λ j. at c.rounded_eight.result j) (λ j. round c.args.bits (at (get_or c.args.t.now c.loop-k.k []) j))
    c.loop-k.to c.put_eight.new.to c.put_eight.ensures c.rounded_eight.ensures) c.loop-k.invariant

pub returns : goal.returns
returns c = stored_columns (length c.args.t.now) c.args.first 8 c.args.bits c.args.t.now c.args.to.now c.loop-k.to c.loop-k.k refl (omega arith) c.loop-k.invariant
