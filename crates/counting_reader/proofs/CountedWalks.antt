-- A walk through a tree's array whose bools are counted.
use Rattle.std.proofs.Common.{◌≡◌, ℕ, zero, suc, ◌+◌, ◌-◌, ◌/◌, ◌<◌, ◌≤◌, Bool, true, false, List, length, get_or, refl, sym, ◌∙◌, arith, ap, ℤ, pos, negsuc}
use Rattle.std.specs.Prelude.{Ok}
use mir.Val.{bool_byte}
use Rattle.vp9_types.specs.Trees.{Tree, node, subtree, tree_of, entry_at, is_entry, leaf_of, greatest_leaf}
use Rattle.vp9_types.proofs.TreeTests.{leaves_at, HoldsTree, IsNode, node_at}
use Rattle.prob_contexts.specs.declared.kind.ProbKind.{ProbKind}
use Rattle.counting_reader.specs.Counting.{settle}
use Rattle.counting_reader.specs.CountedSymbols.{counted_flag, counted_tree}
use Rattle.counting_reader.specs.Code.{branch_of, Standing, run_counting}
use Rattle.counting_reader.specs.declared.tree.Branch.TheVariants.{Leaf, Node}
use Rattle.counting_reader.proofs.CountingRuns.{counting_bind, run_settle}

-- the node whose branches stand at a place
abbrev node_from : ℕ → List ℤ → ℕ → Tree
node_from depth array place = node (place / 2) (subtree depth array (entry_at array place)) (subtree depth array (entry_at array (place + 1)))

-- the walk stands at a node, from where the rest of the symbol is read
pub record CountedWalk (kind : ProbKind) (first : ℕ) (array : List ℤ) (probs : List ℕ) (place : ℕ) (now start : Standing) : Type 0 where
  pub within : place + 1 < length array
  pub depth : ℕ
  pub deep : length array ≤ depth + place
  pub same : run_counting (counted_tree kind first (node_from depth array place) probs) now ≡ run_counting (counted_tree kind first (tree_of array) probs) start

pub walk_begins : (kind : ProbKind) (first : ℕ) (array : List ℤ) (probs : List ℕ) (start : Standing) → HoldsTree array
    → CountedWalk kind first array probs 0 start start
unfolding tree_of
walk_begins kind first array probs start tree =
    let two = tree.two in
    record { within = omega arith; depth = length array; deep = omega arith; same = refl }

-- one bool leads to the entry behind it
goes : (kind : ProbKind) (first depth : ℕ) (array : List ℤ) (probs : List ℕ) (place : ℕ) (one : Bool) (now next : Standing)
    → run_counting (counted_flag kind (first + place / 2) (get_or probs (place / 2) 0)) now ≡ Ok (one, next)
    → run_counting (counted_tree kind first (node_from depth array place) probs) now
    ≡ run_counting (counted_tree kind first (subtree depth array (entry_at array (place + bool_byte one))) probs) next
unfolding counted_tree
goes kind first depth array probs place true now next read =
    counting_bind (counted_flag kind (first + place / 2) (get_or probs (place / 2) 0)) _ now ∙ rw read refl
goes kind first depth array probs place false now next read =
    let same : place + 0 ≡ place = omega arith in
    counting_bind (counted_flag kind (first + place / 2) (get_or probs (place / 2) 0)) _ now ∙ rw (read, same) refl

node_by : (size place : ℕ) (e : ℤ) (x : ℕ) → is_entry size place e ≡ true → Node x ≡ branch_of e → IsNode size place x
node_by size place (negsuc y) x h is = cc
node_by size place (pos zero) x h is = cc
node_by size place (pos (suc y)) x h is = let e : x ≡ suc y = cc in rw e (node_at size place y h)

leaf_by : (e : ℤ) (x : ℕ) → Leaf x ≡ branch_of e → x ≡ leaf_of e
leaf_by (negsuc y) x is = cc
leaf_by (pos zero) x is = cc
leaf_by (pos (suc y)) x is = cc

leaves : (kind : ProbKind) (first depth : ℕ) (array : List ℤ) (probs : List ℕ) (e : ℤ) (x : ℕ) → Leaf x ≡ branch_of e
    → counted_tree kind first (subtree depth array e) probs ≡ settle x
unfolding counted_tree subtree
leaves kind first zero array probs (negsuc y) x is = let e : x ≡ suc y = cc in rw e refl
leaves kind first (suc depth) array probs (negsuc y) x is = let e : x ≡ suc y = cc in rw e refl
leaves kind first zero array probs (pos zero) x is = let e : x ≡ 0 = cc in rw e refl
leaves kind first (suc depth) array probs (pos zero) x is = let e : x ≡ 0 = cc in rw e refl
leaves kind first depth array probs (pos (suc y)) x is = cc

nodes : (depth : ℕ) (array : List ℤ) (e : ℤ) (x : ℕ) → Node x ≡ branch_of e → subtree (suc depth) array e ≡ node_from depth array x
unfolding subtree
nodes depth array (negsuc y) x is = cc
nodes depth array (pos zero) x is = cc
nodes depth array (pos (suc y)) x is = let e : x ≡ suc y = cc in rw e refl

pub walk_ends : (kind : ProbKind) (first : ℕ) (array : List ℤ) (probs : List ℕ) (place x : ℕ) (one : Bool) (now next start : Standing)
    → CountedWalk kind first array probs place now start
    → run_counting (counted_flag kind (first + place / 2) (get_or probs (place / 2) 0)) now ≡ Ok (one, next)
    → Leaf x ≡ branch_of (entry_at array (place + bool_byte one))
    → run_counting (counted_tree kind first (tree_of array) probs) start ≡ Ok (x, next)
walk_ends kind first array probs place x one now next start walk read is =
    sym walk.same ∙ (goes kind first walk.depth array probs place one now next read
    ∙ (ap (λ s. run_counting s next) (leaves kind first walk.depth array probs (entry_at array (place + bool_byte one)) x is)
    ∙ run_settle x next))

byte_low : (one : Bool) → bool_byte one < 2
byte_low true = omega arith
byte_low false = omega arith

pub walk_leaf : (array : List ℤ) (place x : ℕ) (one : Bool) → place + 1 < length array → Leaf x ≡ branch_of (entry_at array (place + bool_byte one)) → x ≤ greatest_leaf array
walk_leaf array place x one within is =
    let at : place + bool_byte one < length array = omega (arith, byte_low one) in
    let leaf = leaf_by (entry_at array (place + bool_byte one)) x is in
    let low = leaves_at (place + bool_byte one) array at in
    omega arith

-- a node's branches stand further on
pub walk_node : (array : List ℤ) (place x : ℕ) (one : Bool) → HoldsTree array → place + 1 < length array
    → Node x ≡ branch_of (entry_at array (place + bool_byte one)) → (place < x) × (x + 1 < length array)
walk_node array place x one tree within is =
    let at : place + bool_byte one < length array = omega (arith, byte_low one) in
    let n = node_by (length array) (place + bool_byte one) (entry_at array (place + bool_byte one)) x (tree.each (place + bool_byte one) at) is in
    let later = n.later in
    (omega arith, n.within)

pub walk_goes : (kind : ProbKind) (first : ℕ) (array : List ℤ) (probs : List ℕ) (place x : ℕ) (one : Bool) (now next start : Standing)
    → HoldsTree array → CountedWalk kind first array probs place now start
    → run_counting (counted_flag kind (first + place / 2) (get_or probs (place / 2) 0)) now ≡ Ok (one, next)
    → Node x ≡ branch_of (entry_at array (place + bool_byte one)) → CountedWalk kind first array probs x next start
walk_goes kind first array probs place x one now next start tree walk read is =
    let n = walk_node array place x one tree walk.within is in
    let deep = walk.deep in
    let depth : ℕ = walk.depth - 1 in
    let further = n.0 in
    let room = n.1 in
    let down : walk.depth ≡ suc depth = omega arith in
    record {
      within = n.1;
      depth = depth;
      deep = omega arith;
      same = sym (ap (λ t. run_counting (counted_tree kind first t probs) next) (nodes depth array (entry_at array (place + bool_byte one)) x is))
          ∙ (sym (goes kind first (suc depth) array probs place one now next read) ∙ (rw down at walk.same));
    }
