-- The bools that a partition counts.
use Rattle.std.proofs.Common.{◌≡◌, ℕ, zero, suc, ◌≤◌, refl, arith}
use Rattle.vp9_tables.specs.SymbolTrees.{partition_tree}
use Rattle.prob_contexts.specs.declared.kind.ProbKind.{ProbKind}
use Rattle.counting_reader.specs.CountedSymbols.{counted_symbol, unary_bools}

pub partition_counts : (kind : ProbKind) (first n : ℕ) → n ≤ 3 → unary_bools kind first 3 n ≡ counted_symbol kind first partition_tree n
unfolding unary_bools counted_symbol
partition_counts kind first zero h = refl
partition_counts kind first (suc zero) h = refl
partition_counts kind first (suc (suc zero)) h = refl
partition_counts kind first (suc (suc (suc zero))) h = refl
partition_counts kind first (suc (suc (suc (suc n)))) h = absurd (omega arith)
