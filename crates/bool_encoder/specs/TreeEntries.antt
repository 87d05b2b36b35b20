-- Which entries a tree's array has.
use Rattle.std.specs.Prelude.{ℕ, zero, suc, ◌-◌, ◌*◌, ◌/◌, ℤ, pos, neg_ℤ, Bool, false, true, ◌&&◌, ◌||◌, List, [], ◌∷◌, length}
use Rattle.std.specs.Ordering.{int_eq}
use Rattle.vp9_types.specs.Trees.{greatest_leaf}

-- an array has an entry; the nodes 1 to n; and the leaves 0 to n
abbrev pub has_entry : List ℤ → ℤ → Bool
has_entry [] e = false
has_entry (x ∷ xs) e = int_eq x e || has_entry xs e

abbrev pub has_nodes : List ℤ → ℕ → Bool
has_nodes array zero = true
has_nodes array (suc n) = has_entry array (pos (2 * suc n)) && has_nodes array n

abbrev pub has_leaves : List ℤ → ℕ → Bool
has_leaves array zero = has_entry array (neg_ℤ (pos 0))
has_leaves array (suc n) = has_entry array (neg_ℤ (pos (suc n))) && has_leaves array n

-- each node but the root is a branch of another
abbrev pub is_whole : List ℤ → Bool
is_whole array = has_nodes array ((length array - 1) / 2)

-- and the leaves are those from 0 to the greatest
abbrev pub is_full : List ℤ → Bool
is_full array = is_whole array && has_leaves array (greatest_leaf array)
