use Rattle.std.proofs.Common.{◌-◌, ◌/◌, ◌%◌, get_or, arith, ap, ◌∙◌}
use Rattle.bool_encoder.specs.Part.{after_put}
use Rattle.bool_encoder.proofs.Literals.{odd_number}
use Rattle.bool_encoder.proofs.TreeWays.{way_begins, way_goes, node_fits, node_before, first_number}
use Rattle.bool_encoder.proofs.tree.+put_entry.Goals as goal

pub place_of-up-requires : goal.place_of-up-requires
place_of-up-requires t c =
    rw (node_fits (c.args.at - c.args.at % 2) (omega (arith, c.requires.within, c.requires.short)))
    (c.requires.whole (c.args.at - c.args.at % 2) c.if-node-gt0.true (omega arith) (omega arith))

pub put_entry-requires : goal.put_entry-requires
put_entry-requires t c =
    let node = c.args.at - c.args.at % 2 in
    let entry = rw (node_fits node (omega (arith, c.requires.within, c.requires.short))) at c.place_of-up.ensures.is in
    let before = node_before c.args.tree.now c.place_of-up.result node c.requires.formed c.place_of-up.ensures.within entry c.if-node-gt0.true in
    (omega (arith, before, c.decreases), (c.requires.formed, (c.requires.whole, (c.requires.short, (c.requires.enough, c.place_of-up.ensures.within)))))

pub returns-then-node-gt0 : goal.returns-then-node-gt0
returns-then-node-gt0 t c =
    let node = c.args.at - c.args.at % 2 in
    let entry = rw (node_fits node (omega (arith, c.requires.within, c.requires.short))) at c.place_of-up.ensures.is in
    way_goes c.args.tree.now c.args.probs.now c.place_of-up.result node c.args.at c.args.encoder.now _ _
    c.requires.formed c.place_of-up.ensures.within entry c.if-node-gt0.true (omega arith) c.requires.within (omega (arith, c.type_inv.probs (c.args.at / 2)))
    c.in_ok-put_entry.ensures
    (c.in_ok-bit.ensures ∙ ap (λ v. after_put (get_or c.args.probs.now (c.args.at / 2) 0) v c.put_entry.new.encoder) (odd_number c.args.at))

pub returns : goal.returns
returns t c =
    way_begins c.args.tree.now c.args.probs.now c.args.at c.args.encoder.now _ (omega (arith, c.if-node-gt0.false)) (omega (arith, c.type_inv.probs 0))
    (c.in_ok-bit-2.ensures ∙ ap (λ v. after_put (get_or c.args.probs.now 0 0) v c.args.encoder.now) (first_number c.args.at (omega (arith, c.if-node-gt0.false))))
