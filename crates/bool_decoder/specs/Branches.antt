-- An entry of a tree's array, as the code sees it.
use Rattle.std.specs.Prelude.{zero, suc, ◌<◌, ℤ, pos, negsuc}
use Rattle.bool_decoder.specs.declared.tree.Branch.{Branch}
use Rattle.bool_decoder.specs.declared.tree.Branch.TheVariants.{Leaf, Node}

abbrev pub branch_of : ℤ → Branch
branch_of (negsuc x) = Leaf (suc x)
branch_of (pos zero) = Leaf 0
branch_of (pos (suc x)) = Node (suc x)

-- a node's place fits an entry of eight bits
abbrev pub FitsEntry : Branch → Type 0
FitsEntry (Leaf x) = Unit {0}
FitsEntry (Node x) = x < 128
