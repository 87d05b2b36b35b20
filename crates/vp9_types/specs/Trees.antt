-- Tree-coded symbols (9.3 of the standard): a tree as data, and as the array of indices in which it is stored.
use Rattle.std.specs.Prelude.{◌≡◌, ℕ, zero, suc, ◌+◌, ◌*◌, ◌/◌, ◌%◌, ◌<◌, ℤ, pos, negsuc, neg_ℤ, Bool, true, ◌&&◌, List, [], ◌∷◌, length, slice_index, slice_index_or, nat_eq, nat_lt, nat_le, max, if◌then◌else◌}
use Rattle.vp9_types.specs.Syntax.{Syntax, done, ask}

-- an inner node has the index of its probability, the tree for a 0 and the tree for a 1
pub data Tree : Type 0 where
  leaf : ℕ → Tree
  node : ℕ → Tree → Tree → Tree

-- the leaf whose branches from the root are the bools read, each at the probability of the node that it leaves
unfoldable pub tree_symbol : {E : Type 0} → Tree → List ℕ → Syntax ℕ E ℕ
tree_symbol (leaf x) probs = done x
tree_symbol (node k zeros ones) probs =
    ask (slice_index probs k) (λ v. if nat_eq v 1 then tree_symbol ones probs else tree_symbol zeros probs)

-- the entry of an array at a place
abbrev pub entry_at : List ℤ → ℕ → ℤ
entry_at array place = slice_index_or array place (pos 0)

-- an entry of an array stands for a tree: entries 2k and 2k + 1 are the branches of node k, whose own entry is 2k, and
-- another entry is minus its leaf
abbrev pub IsStored : List ℤ → ℤ → Tree → Type 0
IsStored array e (leaf x) = e ≡ neg_ℤ (pos x)
IsStored array e (node k zeros ones) =
    (0 < k) × (e ≡ pos (2 * k)) × IsStored array (entry_at array (2 * k)) zeros × IsStored array (entry_at array (2 * k + 1)) ones

-- an array stands for a tree, whose root is node 0
abbrev pub IsTreeOf : List ℤ → Tree → Type 0
IsTreeOf array (leaf x) = ⊥
IsTreeOf array (node k zeros ones) = (k ≡ 0) × IsStored array (entry_at array 0) zeros × IsStored array (entry_at array 1) ones

-- the tree of an entry, which is no deeper than the first number
unfoldable pub subtree : ℕ → List ℤ → ℤ → Tree
subtree depth array (negsuc x) = leaf (suc x)
subtree depth array (pos zero) = leaf 0
subtree zero array (pos (suc x)) = leaf 0
subtree (suc depth) array (pos (suc x)) =
    node (suc x / 2) (subtree depth array (entry_at array (suc x))) (subtree depth array (entry_at array (suc x + 1)))

-- the tree of an array
unfoldable pub tree_of : List ℤ → Tree
tree_of array = node 0 (subtree (length array) array (entry_at array 0)) (subtree (length array) array (entry_at array 1))

-- an entry at a place is a leaf, or the place of two branches further on
abbrev pub is_entry : ℕ → ℕ → ℤ → Bool
is_entry size place (negsuc x) = true
is_entry size place (pos zero) = true
is_entry size place (pos (suc x)) = nat_eq (suc x % 2) 0 && nat_lt place (suc x) && nat_lt (suc x + 1) size

abbrev pub are_entries : ℕ → ℕ → List ℤ → Bool
are_entries size place [] = true
are_entries size place (e ∷ entries) = is_entry size place e && are_entries size (place + 1) entries

-- an array that a tree is stored in
abbrev pub is_tree : List ℤ → Bool
is_tree array = nat_le 2 (length array) && are_entries (length array) 0 array

-- the leaf of an entry, 0 where it stands for a node
abbrev pub leaf_of : ℤ → ℕ
leaf_of (negsuc x) = suc x
leaf_of (pos x) = 0

abbrev pub greatest_leaf : List ℤ → ℕ
greatest_leaf [] = 0
greatest_leaf (e ∷ entries) = max (leaf_of e) (greatest_leaf entries)
