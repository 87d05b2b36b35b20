use Rattle.std.proofs.Common.{◌∙◌, arith}
use Rattle.std.proofs.lemmas.Bool.{and_parts}
use Rattle.vp9_types.specs.Trees.{greatest_leaf}
use Rattle.bool_encoder.specs.TreeEntries.{has_leaves, is_whole}
use Rattle.bool_encoder.proofs.TreeWays.{way_ends, leaf_fits, leaf_there, whole_holds}
use Rattle.bool_encoder.proofs.tree.put_tree.Goals as goal

pub place_of-at-requires : goal.place_of-at-requires
place_of-at-requires c =
    let parts = and_parts (is_whole c.args.tree.now) (has_leaves c.args.tree.now (greatest_leaf c.args.tree.now)) c.requires.full in
    rw (leaf_fits c.args.leaf (omega (arith, c.requires.low, c.requires.leaf)))
    (leaf_there c.args.tree.now (greatest_leaf c.args.tree.now) c.args.leaf parts.1 c.requires.leaf)

pub put_entry-requires : goal.put_entry-requires
put_entry-requires c =
    let parts = and_parts (is_whole c.args.tree.now) (has_leaves c.args.tree.now (greatest_leaf c.args.tree.now)) c.requires.full in
    record {
      formed = c.requires.formed;
      whole = whole_holds c.args.tree.now parts.0;
      short = c.requires.short;
      enough = c.requires.enough;
      within = c.place_of-at.ensures.within;
    }

pub returns : goal.returns
returns c =
    let is = c.place_of-at.ensures.is ∙ leaf_fits c.args.leaf (omega (arith, c.requires.low, c.requires.leaf)) in
    way_ends c.args.tree.now c.args.probs.now c.place_of-at.result c.args.leaf c.args.encoder.now _ is c.in_ok-put_entry.ensures
