-- The bools that a tree-coded symbol counts: those on the way to its leaf (9.3.4 of the standard), read or not.
use Rattle.std.specs.Prelude.{ℕ, ◌+◌, Bool, true, false, ◌||◌, List, [], ◌∷◌, ◌++◌, map, nat_eq, nat_lt, slice_index, if◌then◌else◌}
use Rattle.std.specs.List.{range_with_len}
use Rattle.vp9_types.specs.Syntax.{Syntax, done, ask}
use Rattle.vp9_types.specs.Trees.{Tree, leaf, node}
use Rattle.vp9_types.specs.declared.rule.Rule.{Rule}
use Rattle.prob_contexts.specs.declared.kind.CountedBool.{CountedBool}
use Rattle.prob_contexts.specs.declared.kind.ProbKind.{ProbKind}
use Rattle.counting_reader.specs.Counting.{Settled, settle, ◌>>=◌}

abbrev pub has_leaf : Tree → ℕ → Bool
has_leaf (leaf x) symbol = nat_eq x symbol
has_leaf (node k zeros ones) symbol = has_leaf zeros symbol || has_leaf ones symbol

-- a node and the bool that leaves it
abbrev pub TreeStep : Type 0
TreeStep = ℕ × Bool

abbrev pub path_to : Tree → ℕ → List TreeStep
path_to (leaf x) symbol = []
path_to (node k zeros ones) symbol =
    if has_leaf zeros symbol then (k, false) ∷ path_to zeros symbol else (k, true) ∷ path_to ones symbol

abbrev pub counted_step : ProbKind → ℕ → TreeStep → CountedBool
counted_step kind first step = record { kind = kind; place = first + step.0; one = step.1 }

-- the nodes of a tree have places of a kind, from the first on
unfoldable pub counted_symbol : ProbKind → ℕ → Tree → ℕ → List CountedBool
counted_symbol kind first tree symbol = map (counted_step kind first) (path_to tree symbol)

-- In a tree in which each 0 is a leaf, a symbol is the number of the ones that lead to it.
abbrev pub one_at : ProbKind → ℕ → ℕ → CountedBool
one_at kind first k = record { kind = kind; place = first + k; one = true }

unfoldable pub unary_bools : ProbKind → ℕ → ℕ → ℕ → List CountedBool
unary_bools kind first nodes symbol =
    map (one_at kind first) (range_with_len 0 symbol)
    ++ (if nat_lt symbol nodes then record { kind = kind; place = first + symbol; one = false } ∷ [] else [])

-- one bool at a probability, which is counted at a place of a kind
unfoldable pub counted_flag : ProbKind → ℕ → ℕ → Syntax ℕ Rule (Settled Bool)
counted_flag kind place p =
    ask p (λ v. done (record { value = nat_eq v 1; counted = record { kind = kind; place = place; one = nat_eq v 1 } ∷ [] }))

-- a tree-coded symbol whose bools are counted; its nodes have places of a kind, from the first on
unfoldable pub counted_tree : ProbKind → ℕ → Tree → List ℕ → Syntax ℕ Rule (Settled ℕ)
counted_tree kind first (leaf x) probs = settle x
counted_tree kind first (node k zeros ones) probs = do
  one ← counted_flag kind (first + k) (slice_index probs k)
  if one then counted_tree kind first ones probs else counted_tree kind first zeros probs
