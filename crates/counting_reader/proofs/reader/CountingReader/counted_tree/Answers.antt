use Rattle.std.proofs.Common.{◌≡◌, ◌+◌, ◌-◌, arith, length, ◌<◌}
use Rattle.vp9_types.specs.Trees.{entry_at}
use Rattle.vp9_types.proofs.TreeTests.{tree_holds}
use Rattle.counting_reader.specs.Code.{standing_of, branch_of}
use Rattle.counting_reader.specs.declared.tree.Branch.TheVariants.{Leaf, Node}
use Rattle.counting_reader.proofs.CountedWalks.{walk_begins, walk_ends, walk_leaf, walk_node, walk_goes}
use Rattle.counting_reader.proofs.reader.CountingReader.counted_tree.Goals as goal

pub loop-leaf-init : goal.loop-leaf-init
loop-leaf-init g c = walk_begins c.args.kind c.args.first c.args.tree.now c.args.probs.now (standing_of c.args.self.now) (tree_holds c.args.tree.now c.requires.stored)

pub returns-in-Leaf-clause-read : goal.returns-in-Leaf-clause-read
returns-in-Leaf-clause-read g c =
    let r = rw c.from.ensures at c.counted_bit_of-one.ensures in
    let i : Leaf c.in-Leaf.leaf ≡ branch_of (entry_at c.args.tree.now (c.loop-leaf.place + c.from-in-loop-leaf.result)) = rw c.in-Leaf.is at c.branch_at.ensures in
    rw c.go_on.ensures (walk_ends c.args.kind c.args.first c.args.tree.now c.args.probs.now c.loop-leaf.place c.in-Leaf.leaf c.counted_bit_of-one.result _ _ _
    c.loop-leaf.invariant r (rw c.from-in-loop-leaf.ensures at i))

pub returns-in-Leaf-clause-leaf : goal.returns-in-Leaf-clause-leaf
returns-in-Leaf-clause-leaf g c =
    let i : Leaf c.in-Leaf.leaf ≡ branch_of (entry_at c.args.tree.now (c.loop-leaf.place + c.from-in-loop-leaf.result)) = rw c.in-Leaf.is at c.branch_at.ensures in
    walk_leaf c.args.tree.now c.loop-leaf.place c.in-Leaf.leaf c.counted_bit_of-one.result c.loop-leaf.invariant.within (rw c.from-in-loop-leaf.ensures at i)

pub loop-leaf-smaller : goal.loop-leaf-smaller
loop-leaf-smaller g c =
    let i : Node c.in-Node.next ≡ branch_of (entry_at c.args.tree.now (c.loop-leaf.place + c.from-in-loop-leaf.result)) = rw c.in-Node.is at c.branch_at.ensures in
    let n = walk_node c.args.tree.now c.loop-leaf.place c.in-Node.next c.counted_bit_of-one.result (tree_holds c.args.tree.now c.requires.stored) c.loop-leaf.invariant.within (rw c.from-in-loop-leaf.ensures at i) in
    let later = n.0 in
    let room = n.1 in
    let less : length c.args.tree.now - c.in-Node.next < length c.args.tree.now - c.loop-leaf.place = omega arith in
    less

pub loop-leaf-preserved : goal.loop-leaf-preserved
loop-leaf-preserved g c =
    let r = rw c.from.ensures at c.counted_bit_of-one.ensures in
    let i : Node c.in-Node.next ≡ branch_of (entry_at c.args.tree.now (c.loop-leaf.place + c.from-in-loop-leaf.result)) = rw c.in-Node.is at c.branch_at.ensures in
    walk_goes c.args.kind c.args.first c.args.tree.now c.args.probs.now c.loop-leaf.place c.in-Node.next c.counted_bit_of-one.result _ _ _
    (tree_holds c.args.tree.now c.requires.stored) c.loop-leaf.invariant r (rw c.from-in-loop-leaf.ensures at i)
