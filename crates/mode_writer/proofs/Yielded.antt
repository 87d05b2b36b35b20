-- What syntaxes without counts and trees yield, part by part.
use Rattle.std.proofs.Common.{ℕ, ◌+◌, Bool, true, false, List}
use Rattle.std.specs.Prelude.{nat_eq, slice_index, if◌then◌else◌}
use Rattle.vp9_types.specs.Syntax.{Syntax, done, broken, ask, ◌>>=◌}
use Rattle.vp9_types.specs.Trees.{Tree, leaf, node, tree_symbol}
use Rattle.vp9_types.specs.declared.rule.Rule.{Rule}
use Rattle.prob_contexts.specs.declared.kind.ProbKind.{ProbKind}
use Rattle.counting_reader.specs.Counting.{Settled, settle, uncounted, Yields}
use Rattle.counting_reader.specs.CountedSymbols.{counted_flag, counted_tree}
use Rattle.counting_reader.proofs.Yields.{yields_bind, yields_all}

pub yields_one : {A : Type 0} (x : A) (P : A → Type 0) → P x → Yields (settle x) P
unfolding settle
yields_one x P h = h

pub yields_uncounted : {A : Type 0} (x : A) (P : A → Type 0) → P x → Yields (uncounted (done x)) P
unfolding uncounted
yields_uncounted x P h = h

-- whatever the first yields
pub yields_after : {A B : Type 0} (s : Syntax ℕ Rule A) (f : A → Syntax ℕ Rule B) (Q : B → Type 0)
    → ((x : A) → Yields (uncounted (f x)) Q) → Yields (uncounted (s >>= f)) Q
unfolding uncounted
yields_after (done x) f Q g = g x
yields_after (broken e) f Q g = tt
yields_after (ask p k) f Q g = λ v. yields_after (k v) f Q g

either : {A : Type 0} (b : Bool) (s t : Syntax ℕ Rule (Settled A)) (P : A → Type 0) → Yields s P → Yields t P → Yields (if b then s else t) P
either true s t P h g = h
either false s t P h g = g

either_uncounted : {A : Type 0} (b : Bool) (s t : Syntax ℕ Rule A) (P : A → Type 0)
    → Yields (uncounted s) P → Yields (uncounted t) P → Yields (uncounted (if b then s else t)) P
either_uncounted true s t P h g = h
either_uncounted false s t P h g = g

abbrev pub AllLeaves : Tree → (ℕ → Type 0) → Type 0
AllLeaves (leaf x) P = P x
AllLeaves (node k zeros ones) P = AllLeaves zeros P × AllLeaves ones P

pub tree_yields : (kind : ProbKind) (first : ℕ) (tree : Tree) (probs : List ℕ) (P : ℕ → Type 0) → AllLeaves tree P → Yields (counted_tree kind first tree probs) P
unfolding counted_tree
tree_yields kind first (leaf x) probs P h = yields_one x P h
tree_yields kind first (node k zeros ones) probs P h =
    yields_bind (counted_flag kind (first + k) (slice_index probs k)) (λ one. if one then counted_tree kind first ones probs else counted_tree kind first zeros probs)
    (λ one. Unit) P (yields_all (counted_flag kind (first + k) (slice_index probs k)))
    (λ one any. either one (counted_tree kind first ones probs) (counted_tree kind first zeros probs) P
    (tree_yields kind first ones probs P h.1) (tree_yields kind first zeros probs P h.0))

pub symbol_yields : (tree : Tree) (probs : List ℕ) (P : ℕ → Type 0) → AllLeaves tree P → Yields (uncounted (tree_symbol tree probs)) P
unfolding tree_symbol uncounted
symbol_yields (leaf x) probs P h = h
symbol_yields (node k zeros ones) probs P h =
    λ v. either_uncounted (nat_eq v 1) (tree_symbol ones probs) (tree_symbol zeros probs) P (symbol_yields ones probs P h.1) (symbol_yields zeros probs P h.0)
