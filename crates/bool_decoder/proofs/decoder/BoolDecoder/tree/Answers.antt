use Rattle.std.proofs.Common.{◌≡◌, ℕ, ◌<◌, arith, ◌∙◌, ap, Bool}
use Rattle.std.specs.Prelude.{nat_eq}
use mir.Val.{bool_byte}
use Rattle.bool_decoder.specs.Window.{Window, bit_of}
use Rattle.vp9_types.proofs.TreeTests.{tree_holds}
use Rattle.bool_decoder.proofs.Walks.{walk_begins, walk_goes, walk_ends, walk_leaf, walk_node, walk_nearer}
use Rattle.bool_decoder.proofs.OneBool.{bit_number, bit_low}
use Rattle.bool_decoder.proofs.decoder.BoolDecoder.tree.Goals as goal

number : (n p : ℕ) (one : Bool) (w : Window) → n ≡ bool_byte one → one ≡ nat_eq (bit_of p w) 1 → n ≡ bit_of p w
number n p one w byte is = byte ∙ ap bool_byte is ∙ bit_number p w

low : (n p : ℕ) (one : Bool) (w : Window) → n ≡ bool_byte one → one ≡ nat_eq (bit_of p w) 1 → n < 2
low n p one w byte is = rw (number n p one w byte is) (bit_low p w)

pub loop-branch-init : goal.loop-branch-init
loop-branch-init c =
    record {
      walk = walk_begins c.args.tree.now c.args.probs.now c.from.result c.branch_at-branch.result _ _
          (tree_holds c.args.tree.now c.requires.stored)
          (number _ _ _ _ c.from.ensures c.bit.ensures.value) (low _ _ _ _ c.from.ensures c.bit.ensures.value)
          c.branch_at-branch.ensures.is c.bit.ensures.moves;
      fits = c.branch_at-branch.ensures.fits;
    }

pub returns-in-Leaf-clause-read : goal.returns-in-Leaf-clause-read
returns-in-Leaf-clause-read c =
    walk_ends c.args.tree.now c.args.probs.now c.in-Leaf.leaf _ _ (rw c.in-Leaf.is at c.loop-branch.invariant.walk)

pub returns-in-Leaf-clause-leaf : goal.returns-in-Leaf-clause-leaf
returns-in-Leaf-clause-leaf c =
    walk_leaf c.args.tree.now c.args.probs.now c.in-Leaf.leaf _ _ (rw c.in-Leaf.is at c.loop-branch.invariant.walk)

pub bounds-probs-place : goal.bounds-probs-place
bounds-probs-place c =
    let room = walk_node c.args.tree.now c.args.probs.now c.in-Node.place _ _ (tree_holds c.args.tree.now c.requires.stored)
    (rw c.in-Node.is at c.loop-branch.invariant.walk) in
    omega (arith, room, c.requires.enough)

pub overflow_add-place : goal.overflow_add-place
overflow_add-place c =
    let fits : c.in-Node.place < 128 = rw c.in-Node.is at c.loop-branch.invariant.fits in
    let small = low _ _ _ _ c.from-in-Node.ensures c.bit-one.ensures.value in
    omega (arith, fits, small)

pub branch_at-branch-requires-in-Node : goal.branch_at-branch-requires-in-Node
branch_at-branch-requires-in-Node c =
    let room = walk_node c.args.tree.now c.args.probs.now c.in-Node.place _ _ (tree_holds c.args.tree.now c.requires.stored)
    (rw c.in-Node.is at c.loop-branch.invariant.walk) in
    let small = low _ _ _ _ c.from-in-Node.ensures c.bit-one.ensures.value in
    omega (arith, room, small)

pub loop-branch-smaller : goal.loop-branch-smaller
loop-branch-smaller c =
    rw c.in-Node.is
    (walk_nearer c.args.tree.now c.args.probs.now c.in-Node.place c.from-in-Node.result c.branch_at-branch-in-Node.result _ _
    (tree_holds c.args.tree.now c.requires.stored) (rw c.in-Node.is at c.loop-branch.invariant.walk)
    (low _ _ _ _ c.from-in-Node.ensures c.bit-one.ensures.value) c.branch_at-branch-in-Node.ensures.is)

pub loop-branch-preserved : goal.loop-branch-preserved
loop-branch-preserved c =
    record {
      walk = walk_goes c.args.tree.now c.args.probs.now c.in-Node.place c.from-in-Node.result c.branch_at-branch-in-Node.result _ _ _
          (tree_holds c.args.tree.now c.requires.stored) (rw c.in-Node.is at c.loop-branch.invariant.walk)
          (number _ _ _ _ c.from-in-Node.ensures c.bit-one.ensures.value) (low _ _ _ _ c.from-in-Node.ensures c.bit-one.ensures.value)
          c.branch_at-branch-in-Node.ensures.is c.bit-one.ensures.moves;
      fits = c.branch_at-branch-in-Node.ensures.fits;
    }
