-- A component of a vector's difference (6.4.20 of the standard: read_mv_component; its probabilities in 9.3).
use Rattle.std.specs.Prelude.{ℕ, ◌+◌, ◌*◌, ◌^◌, ℤ, pos, neg_ℤ, Bool, true, false, List, [], ◌∷◌, drop, slice_index, nat_eq, if◌then◌else◌}
use Rattle.std.specs.List.{range_with_len}
use Rattle.vp9_types.specs.Syntax.{Syntax}
use Rattle.vp9_types.specs.declared.rule.Rule.{Rule}
use Rattle.vp9_tables.specs.Numbers.{component_number, flag_number}
use Rattle.vp9_tables.specs.SymbolTrees.{mv_class_tree, mv_fr_tree}
use Rattle.vp9_tables.specs.declared.kinds.Component.{Component}
use Rattle.prob_contexts.specs.ProbLists.{VectorLists}
use Rattle.prob_contexts.specs.declared.kind.ProbKind.{ProbKind}
use Rattle.prob_contexts.specs.declared.kind.ProbKind.TheVariants as kind
use Rattle.counting_reader.specs.Counting.{Settled, settle, count, through, ◌>>=◌, ◌>>◌}
use Rattle.counting_reader.specs.CountedSymbols.{counted_flag, counted_tree}

-- The bit of high precision. It is 1 where it isn't read, and is counted all the same.
unfoldable pub high_bit : Bool → ProbKind → ℕ → ℕ → Syntax ℕ Rule (Settled Bool)
high_bit true kind place p = counted_flag kind place p
high_bit false kind place p = do
  count (record { kind = kind; place = place; one = true } ∷ [])
  settle true

-- eighths of a sample, from the whole samples, their quarters and the bit of high precision
abbrev pub eighths : ℕ → ℕ → Bool → ℕ
eighths whole fraction high = 8 * whole + 2 * fraction + flag_number high + 1

-- a component of class 0: less than two samples
unfoldable pub small_magnitude : VectorLists → ℕ → Bool → Syntax ℕ Rule (Settled ℕ)
small_magnitude lists c precise = do
  whole ← counted_flag kind.VectorClass0 c (slice_index lists.class0 c)
  fraction ← counted_tree kind.VectorClass0Fraction (6 * c + 3 * flag_number whole) mv_fr_tree (drop (6 * c + 3 * flag_number whole) lists.class0_fractions)
  high ← high_bit precise kind.VectorClass0High c (slice_index lists.class0_high c)
  settle (eighths (flag_number whole) fraction high)

-- the i-th bit of the whole samples, the lowest first
unfoldable pub next_bit : VectorLists → ℕ → ℕ → ℕ → Syntax ℕ Rule (Settled ℕ)
next_bit lists c i bits = do
  one ← counted_flag kind.VectorBit (10 * c + i) (slice_index lists.bits (10 * c + i))
  settle (bits + flag_number one * 2 ^ i)

-- a component of class n from 1 on: n bits of whole samples above the 2 ^ n of its class
unfoldable pub large_magnitude : VectorLists → ℕ → Bool → ℕ → Syntax ℕ Rule (Settled ℕ)
large_magnitude lists c precise n = do
  bits ← through (next_bit lists c) (range_with_len 0 n) 0
  fraction ← counted_tree kind.VectorFraction (3 * c) mv_fr_tree (drop (3 * c) lists.fractions)
  high ← high_bit precise kind.VectorHigh c (slice_index lists.high c)
  settle (8 * 2 ^ n + eighths bits fraction high)

unfoldable pub magnitude : VectorLists → ℕ → Bool → ℕ → Syntax ℕ Rule (Settled ℕ)
magnitude lists c precise n = if nat_eq n 0 then small_magnitude lists c precise else large_magnitude lists c precise n

abbrev pub signed : Bool → ℕ → ℤ
signed true n = neg_ℤ (pos n)
signed false n = pos n

unfoldable pub read_mv_component : VectorLists → Component → Bool → Syntax ℕ Rule (Settled ℤ)
read_mv_component lists component precise = do
  sign ← counted_flag kind.VectorSign (component_number component) (slice_index lists.signs (component_number component))
  n ← counted_tree kind.VectorClass (10 * component_number component) mv_class_tree (drop (10 * component_number component) lists.classes)
  size ← magnitude lists (component_number component) precise n
  settle (signed sign size)
