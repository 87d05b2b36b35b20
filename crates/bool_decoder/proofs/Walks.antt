-- A walk through a tree's array.
use Rattle.std.proofs.Common.{◌≡◌, ℕ, zero, suc, ◌+◌, ◌-◌, ◌/◌, ◌<◌, ◌≤◌, true, List, length, get_or, refl, sym, ◌∙◌, arith, ◌⊎◌, inl, inr, ℤ, pos, negsuc}
use Rattle.std.specs.Prelude.{nat_eq, if◌then◌else◌, Ok}
use Rattle.vp9_types.specs.declared.rule.Rule.{Rule}
use Rattle.bool_decoder.specs.Bools.{run_bools, Reads}
use Rattle.bool_decoder.specs.Branches.{branch_of}
use Rattle.vp9_types.specs.Trees.{tree_symbol, subtree, tree_of, entry_at, is_entry, leaf_of, greatest_leaf}
use Rattle.vp9_types.proofs.TreeTests.{leaves_at, HoldsTree, IsNode, node_at}
use Rattle.bool_decoder.specs.Window.{Window, bit_of, after_bit, is_one}
use Rattle.bool_decoder.proofs.OneBool.{bit_cases}
use Rattle.bool_decoder.specs.declared.tree.Branch.{Branch}
use Rattle.bool_decoder.specs.declared.tree.Branch.TheVariants.{Leaf, Node}

node_by : (size place : ℕ) (e : ℤ) (x : ℕ) → is_entry size place e ≡ true → Node x ≡ branch_of e → IsNode size place x
node_by size place (negsuc y) x h is = cc
node_by size place (pos zero) x h is = cc
node_by size place (pos (suc y)) x h is = let e : x ≡ suc y = cc in rw e (node_at size place y h)

leaf_by : (e : ℤ) (x : ℕ) → Leaf x ≡ branch_of e → x ≡ leaf_of e
leaf_by (negsuc y) x is = cc
leaf_by (pos zero) x is = cc
leaf_by (pos (suc y)) x is = cc

-- ---- the walk

-- deep enough for the rest of the walk
abbrev pub IsDeep : ℕ → ℕ → Branch → Type 0
IsDeep size depth (Leaf x) = Unit {0}
IsDeep size depth (Node x) = size ≤ depth + x

-- the walk stands at an entry, from where the rest of the symbol is read
pub record Walks (array : List ℤ) (probs : List ℕ) (branch : Branch) (now start : Window) : Type 0 where
  pub place : ℕ
  pub within : place < length array
  pub is : branch ≡ branch_of (entry_at array place)
  pub depth : ℕ
  pub deep : IsDeep (length array) depth branch
  pub same : run_bools {E = Rule} (tree_symbol (subtree depth array (entry_at array place)) probs) now ≡ run_bools (tree_symbol (tree_of array) probs) start

-- each entry further on is nearer to the end
deep_by : (array : List ℤ) (depth k : ℕ) (branch : Branch) → HoldsTree array → k < length array
    → branch ≡ branch_of (entry_at array k) → length array ≤ suc depth + k → IsDeep (length array) depth branch
deep_by array depth k (Leaf x) tree within is far = tt
deep_by array depth k (Node x) tree within is far =
    let n = node_by (length array) k (entry_at array k) x (tree.each k within) is in
    let later = n.later in
    omega arith

-- a bool chooses the branch for a 0 or, one place further, that for a 1
chosen : (depth : ℕ) (array : List ℤ) (probs : List ℕ) (x b : ℕ) (w : Window) → (b ≡ 0) ⊎ (b ≡ 1)
    → run_bools {E = Rule} (if nat_eq b 1 then tree_symbol (subtree depth array (entry_at array (x + 1))) probs else tree_symbol (subtree depth array (entry_at array x)) probs) w
    ≡ run_bools (tree_symbol (subtree depth array (entry_at array (x + b))) probs) w
chosen depth array probs x b w (inl none) = let e : x + 0 ≡ x = omega arith in rw (none, e) refl
chosen depth array probs x b w (inr one) = rw one refl

branches : (depth : ℕ) (array : List ℤ) (probs : List ℕ) (e : ℤ) (x : ℕ) (w : Window) → Node x ≡ branch_of e
    → run_bools {E = Rule} (tree_symbol (subtree (suc depth) array e) probs) w
    ≡ run_bools (tree_symbol (subtree depth array (entry_at array (x + bit_of (get_or probs (x / 2) 0) w))) probs) (after_bit (get_or probs (x / 2) 0) w)
unfolding tree_symbol subtree
branches depth array probs (negsuc y) x w is = cc
branches depth array probs (pos zero) x w is = cc
branches depth array probs (pos (suc y)) x w is =
    let e : x ≡ suc y = cc in
    let p = get_or probs (suc y / 2) 0 in
    rw e (chosen depth array probs (suc y) (bit_of p w) (after_bit p w) (bit_cases p w (is_one p w) refl))

leaves : (depth : ℕ) (array : List ℤ) (probs : List ℕ) (e : ℤ) (x : ℕ) (w : Window) → Leaf x ≡ branch_of e
    → run_bools {E = Rule} (tree_symbol (subtree depth array e) probs) w ≡ Ok (x, w)
unfolding tree_symbol subtree
leaves zero array probs (negsuc y) x w is = let e : x ≡ suc y = cc in rw e refl
leaves (suc depth) array probs (negsuc y) x w is = let e : x ≡ suc y = cc in rw e refl
leaves zero array probs (pos zero) x w is = let e : x ≡ 0 = cc in rw e refl
leaves (suc depth) array probs (pos zero) x w is = let e : x ≡ 0 = cc in rw e refl
leaves depth array probs (pos (suc y)) x w is = cc

root : (array : List ℤ) (probs : List ℕ) (w : Window)
    → run_bools {E = Rule} (tree_symbol (tree_of array) probs) w
    ≡ run_bools (tree_symbol (subtree (length array) array (entry_at array (0 + bit_of (get_or probs 0 0) w))) probs) (after_bit (get_or probs 0 0) w)
unfolding tree_symbol tree_of
root array probs w =
    let p = get_or probs 0 0 in
    chosen (length array) array probs 0 (bit_of p w) (after_bit p w) (bit_cases p w (is_one p w) refl)

pub walk_begins : (array : List ℤ) (probs : List ℕ) (bit : ℕ) (branch : Branch) (now start : Window)
    → HoldsTree array → bit ≡ bit_of (get_or probs 0 0) start → bit < 2 → branch ≡ branch_of (entry_at array bit)
    → now ≡ after_bit (get_or probs 0 0) start → Walks array probs branch now start
walk_begins array probs bit branch now start tree is low there moves =
    let two = tree.two in
    let within : bit < length array = omega arith in
    let here : bit ≡ 0 + bit_of (get_or probs 0 0) start = omega arith in
    record {
      place = bit;
      within = within;
      is = there;
      depth = length array;
      deep = deep_by array (length array) bit branch tree within there (omega arith);
      same = rw (moves, here) (sym (root array probs start));
    }

pub walk_goes : (array : List ℤ) (probs : List ℕ) (place bit : ℕ) (branch : Branch) (now last start : Window)
    → HoldsTree array → Walks array probs (Node place) now start → bit ≡ bit_of (get_or probs (place / 2) 0) now → bit < 2
    → branch ≡ branch_of (entry_at array (place + bit)) → last ≡ after_bit (get_or probs (place / 2) 0) now → Walks array probs branch last start
walk_goes array probs place bit branch now last start tree walk is low there moves =
    let n = node_by (length array) walk.place (entry_at array walk.place) place (tree.each walk.place walk.within) walk.is in
    let room = n.within in
    let within : place + bit < length array = omega arith in
    let deep = walk.deep in
    let depth : ℕ = walk.depth - 1 in
    let down : walk.depth ≡ suc depth = omega arith in
    let step = branches depth array probs (entry_at array walk.place) place now walk.is in
    record {
      place = place + bit;
      within = within;
      is = there;
      depth = depth;
      deep = deep_by array depth (place + bit) branch tree within there (omega arith);
      same = rw (moves, is) (sym step ∙ (rw down at walk.same));
    }

pub walk_ends : (array : List ℤ) (probs : List ℕ) (x : ℕ) (now start : Window)
    → Walks array probs (Leaf x) now start → Reads (tree_symbol (tree_of array) probs) start x now
walk_ends array probs x now start walk = sym walk.same ∙ leaves walk.depth array probs (entry_at array walk.place) x now walk.is

pub walk_leaf : (array : List ℤ) (probs : List ℕ) (x : ℕ) (now start : Window) → Walks array probs (Leaf x) now start → x ≤ greatest_leaf array
walk_leaf array probs x now start walk =
    let is = leaf_by (entry_at array walk.place) x walk.is in
    let low = leaves_at walk.place array walk.within in
    omega arith

-- both branches of a node are in the array
pub walk_node : (array : List ℤ) (probs : List ℕ) (place : ℕ) (now start : Window) → HoldsTree array
    → Walks array probs (Node place) now start → place + 1 < length array
walk_node array probs place now start tree walk =
    (node_by (length array) walk.place (entry_at array walk.place) place (tree.each walk.place walk.within) walk.is).within

-- how much of the array lies ahead
abbrev pub to_go : ℕ → Branch → ℕ
to_go size (Leaf x) = 0
to_go size (Node x) = size - x

nearer : (array : List ℤ) (k place : ℕ) (branch : Branch) → HoldsTree array → k < length array → place ≤ k
    → branch ≡ branch_of (entry_at array k) → to_go (length array) branch < length array - place
nearer array k place (Leaf x) tree within far is = omega arith
nearer array k place (Node x) tree within far is =
    let n = node_by (length array) k (entry_at array k) x (tree.each k within) is in
    let later = n.later in
    omega arith

pub walk_nearer : (array : List ℤ) (probs : List ℕ) (place bit : ℕ) (branch : Branch) (now start : Window) → HoldsTree array
    → Walks array probs (Node place) now start → bit < 2 → branch ≡ branch_of (entry_at array (place + bit))
    → to_go (length array) branch < length array - place
walk_nearer array probs place bit branch now start tree walk low is =
    let room = walk_node array probs place now start tree walk in
    nearer array (place + bit) place branch tree (omega arith) (omega arith) is
