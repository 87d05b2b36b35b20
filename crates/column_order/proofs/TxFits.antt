-- A transform that a block reads fits it.
use Rattle.std.proofs.Common.{◌≡◌, ℕ, zero, suc, ◌≤◌, ◌&&◌, not, Bool, true, false, List, inl, inr, refl, arith, lit≤, if◌then◌else◌}
use Rattle.std.proofs.lemmas.Bool.{cases_Bool, and_parts, ne_eqb}
use Rattle.vp9_types.specs.Syntax.{Syntax}
use Rattle.vp9_types.specs.Trees.{Tree, leaf, node}
use Rattle.vp9_types.specs.declared.block.BlockSize.{BlockSize}
use Rattle.vp9_types.specs.declared.block.BlockSize.TheVariants.{B4x4, B4x8, B8x4, B8x8, B8x16, B16x8, B16x16, B16x32, B32x16, B32x32, B32x64, B64x32, B64x64}
use Rattle.vp9_types.specs.declared.block.TxMode.{TxMode}
use Rattle.vp9_types.specs.declared.block.TxSize.{TxSize}
use Rattle.vp9_types.specs.declared.rule.Rule.{Rule}
use Rattle.vp9_tables.specs.BlockTables.{greatest_of}
use Rattle.vp9_tables.specs.Numbers.{tx_number, tx_of}
use Rattle.prob_contexts.specs.ProbLists.{TxLists}
use Rattle.prob_contexts.specs.declared.kind.ProbKind.{ProbKind}
use Rattle.block_geometry.specs.BlockSizes.{is_below_8x8, greatest_allowed}
use Rattle.counting_reader.specs.Counting.{Settled, Yields, in_order, settle}
use Rattle.counting_reader.specs.CountedSymbols.{counted_tree}
use Rattle.counting_reader.proofs.Yields.{yields_bind, yields_all}
use Rattle.mode_syntax.specs.Elements.{is_selected, read_tx_size, tx_symbol, tx_tree}

abbrev pub Reads : Type 0 → Type 0
Reads A = Syntax ℕ Rule (Settled A)

pub any_bind : {A B : Type 0} (x : Reads A) (f : A → Reads B) (Q : B → Type 0) → ((a : A) → Yields (f a) Q) → Yields (in_order x f) Q
any_bind x f Q h = yields_bind x f (λ a. Unit {0}) Q (yields_all x) (λ a u. h a)

pub either : {A : Type 0} (b : Bool) (x y : Reads A) (P : A → Type 0) → Yields x P → Yields y P → Yields (if b then x else y) P
either true x y P h g = h
either false x y P h g = g

---- Trees ----

abbrev LeavesAtMost : ℕ → Tree → Type 0
LeavesAtMost n (leaf x) = x ≤ n
LeavesAtMost n (node k zeros ones) = LeavesAtMost n zeros × LeavesAtMost n ones

tree_low : (kind : ProbKind) (first : ℕ) (tree : Tree) (probs : List ℕ) (n : ℕ) → LeavesAtMost n tree → Yields (counted_tree kind first tree probs) (λ x. x ≤ n)
unfolding counted_tree settle
tree_low kind first (leaf x) probs n h = h
tree_low kind first (node k zeros ones) probs n h =
    any_bind _ (λ one. if one then counted_tree kind first ones probs else counted_tree kind first zeros probs) (λ x. x ≤ n)
    (λ one. either one (counted_tree kind first ones probs) (counted_tree kind first zeros probs) (λ x. x ≤ n) (tree_low kind first ones probs n h.1) (tree_low kind first zeros probs n h.0))

tree_fits : (size : BlockSize) → is_below_8x8 size ≡ false → LeavesAtMost (greatest_of size) (tx_tree (tx_of (greatest_of size)))
tree_fits B4x4 h = absurd cc
tree_fits B4x8 h = absurd cc
tree_fits B8x4 h = absurd cc
tree_fits B8x8 h = (lit≤ tt, lit≤ tt)
tree_fits B8x16 h = (lit≤ tt, lit≤ tt)
tree_fits B16x8 h = (lit≤ tt, lit≤ tt)
tree_fits B16x16 h = (lit≤ tt, (lit≤ tt, lit≤ tt))
tree_fits B16x32 h = (lit≤ tt, (lit≤ tt, lit≤ tt))
tree_fits B32x16 h = (lit≤ tt, (lit≤ tt, lit≤ tt))
tree_fits B32x32 h = (lit≤ tt, (lit≤ tt, (lit≤ tt, lit≤ tt)))
tree_fits B32x64 h = (lit≤ tt, (lit≤ tt, (lit≤ tt, lit≤ tt)))
tree_fits B64x32 h = (lit≤ tt, (lit≤ tt, (lit≤ tt, lit≤ tt)))
tree_fits B64x64 h = (lit≤ tt, (lit≤ tt, (lit≤ tt, lit≤ tt)))

---- Sizes ----

abbrev pub Fits : BlockSize → TxSize → Type 0
Fits size tx = tx_number tx ≤ greatest_of size

number_low : (n : ℕ) → tx_number (tx_of n) ≤ n
number_low zero = lit≤ tt
number_low (suc zero) = lit≤ tt
number_low (suc (suc zero)) = lit≤ tt
number_low (suc (suc (suc n))) = rw (ne_eqb (suc (suc (suc n))) 0 (λ is. omega (arith, is)), ne_eqb (suc (suc (suc n))) 1 (λ is. omega (arith, is)), ne_eqb (suc (suc (suc n))) 2 (λ is. omega (arith, is))) (omega arith)

pub allowed_fits : (mode : TxMode) (size : BlockSize) → Fits size (tx_of (greatest_allowed mode size))
allowed_fits mode size = omega (arith, number_low (greatest_allowed mode size))

not_true : (b : Bool) → not b ≡ true → b ≡ false
not_true true h = absurd cc
not_true false h = refl

pub tx_fits : (mode : TxMode) (lists : TxLists) (context : ℕ) (size : BlockSize) → Yields (read_tx_size mode lists context size) (Fits size)
unfolding read_tx_size tx_symbol settle
tx_fits mode lists context size = elim (cases_Bool (is_selected mode && not (is_below_8x8 size))) [
  | inl one ↦
      let fits : LeavesAtMost (greatest_of size) (tx_tree (tx_of (greatest_of size))) = tree_fits size (not_true (is_below_8x8 size) (and_parts (is_selected mode) (not (is_below_8x8 size)) one).1) in
      rw one (yields_bind _ _ (λ x. x ≤ greatest_of size) (Fits size) (tree_low _ _ (tx_tree (tx_of (greatest_of size))) _ (greatest_of size) fits)
      (λ x h. omega (arith, number_low x, h)))
  | inr none ↦ rw none (allowed_fits mode size)
]
