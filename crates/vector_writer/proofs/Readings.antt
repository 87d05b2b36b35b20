-- Differences that are read can be put.
use Rattle.std.proofs.Common.{◌≡◌, ℕ, zero, suc, ◌+◌, ◌*◌, ◌%◌, ◌^◌, ◌<◌, ◌≤◌, Bool, true, false, List, pos, refl, ap, subst, arith, unsigned_abs}
use Rattle.std.specs.Prelude.{slice_index, nat_eq, nat_le, ◌||◌, if◌then◌else◌}
use Rattle.std.specs.List.{range_with_len}
use Rattle.std.proofs.lemmas.Nat.{pow-add}
use Rattle.std.proofs.Math.Pow.{pow_mono}
use Rattle.vp9_types.specs.Syntax.{Syntax}
use Rattle.vp9_types.specs.Trees.{Tree, leaf, node}
use Rattle.vp9_types.specs.declared.rule.Rule.{Rule}
use Rattle.vp9_tables.specs.Numbers.{component_number, flag_number}
use Rattle.vp9_tables.specs.SymbolTrees.{mv_class_tree, mv_fr_tree}
use Rattle.vp9_tables.specs.declared.kinds.Component.{Component}
use Rattle.vp9_tables.specs.declared.kinds.Component.TheVariants.{Row, Column}
use Rattle.prob_contexts.specs.ProbLists.{VectorLists}
use Rattle.prob_contexts.specs.declared.kind.ProbKind.{ProbKind}
use Rattle.counting_reader.specs.Counting.{Settled, settle, through, Yields}
use Rattle.counting_reader.specs.CountedSymbols.{counted_flag, counted_tree}
use Rattle.counting_reader.proofs.Yields.{yields_bind, yields_all, yields_map}
use Rattle.mv_syntax.specs.Components.{eighths, high_bit, small_magnitude, next_bit, large_magnitude, magnitude, signed, read_mv_component}
use Rattle.mv_syntax.specs.Differences.{component_if, read_mv}
use Rattle.vector_writer.specs.Code.{CanBeHigh}
use Rattle.vector_writer.specs.VectorFits.{IsDifference, CanDiffer}

abbrev pub Any : {A : Type 0} → A → Type 0
Any x = Unit {0}

pub yields_settle : {A : Type 0} (x : A) (P : A → Type 0) → P x → Yields (settle x) P
unfolding settle
yields_settle x P h = h

---- Trees ----

abbrev LeavesMost : Tree → ℕ → Type 0
LeavesMost (leaf x) n = x ≤ n
LeavesMost (node k zeros ones) n = LeavesMost zeros n × LeavesMost ones n

either_way : {A : Type 0} (b : Bool) (s t : Syntax ℕ Rule (Settled A)) (P : A → Type 0) → Yields s P → Yields t P → Yields (if b then s else t) P
either_way true s t P h g = h
either_way false s t P h g = g

yields_leaf : (k : ProbKind) (first : ℕ) (tree : Tree) (probs : List ℕ) (n : ℕ) → LeavesMost tree n → Yields (counted_tree k first tree probs) (λ x. x ≤ n)
unfolding counted_tree
yields_leaf k first (leaf x) probs n h = yields_settle x (λ x. x ≤ n) h
yields_leaf k first (node i zeros ones) probs n h =
    yields_bind (counted_flag k (first + i) (slice_index probs i)) (λ one. if one then counted_tree k first ones probs else counted_tree k first zeros probs) Any (λ x. x ≤ n)
    (yields_all (counted_flag k (first + i) (slice_index probs i)))
    (λ one any. either_way one (counted_tree k first ones probs) (counted_tree k first zeros probs) (λ x. x ≤ n) (yields_leaf k first ones probs n h.1) (yields_leaf k first zeros probs n h.0))

fr_leaves : LeavesMost mv_fr_tree 3
fr_leaves = (omega arith, (omega arith, (omega arith, omega arith)))

class_leaves : LeavesMost mv_class_tree 10
class_leaves =
    let fits : (n : ℕ) → n < 11 → n ≤ 10 = λ n low. omega arith in (
      fits 0 (omega arith),
      (
        fits 1 (omega arith),
        (
          (fits 2 (omega arith), fits 3 (omega arith)),
          (
            (fits 4 (omega arith), fits 5 (omega arith)),
            (
              fits 6 (omega arith),
              ((fits 7 (omega arith), fits 8 (omega arith)), (fits 9 (omega arith), fits 10 (omega arith))),
            ),
          ),
        ),
      ),
    )

---- Sizes ----

high_yields : (precise : Bool) (k : ProbKind) (place p : ℕ) → Yields (high_bit precise k place p) (CanBeHigh precise)
unfolding high_bit
high_yields true k place p = yields_map (counted_flag k place p) Any (CanBeHigh true) (yields_all (counted_flag k place p)) (λ high any no. absurd (let e : ⊥ = cc in e))
high_yields false k place p = yields_bind _ _ Any (CanBeHigh false) (yields_all _) (λ any other. yields_settle true (CanBeHigh false) (λ same. refl))

-- sizes up to one, even where they aren't precise
record AreSizes (precise : Bool) (most size : ℕ) : Type 0 where
  least : 1 ≤ size
  below : size ≤ most
  even : precise ≡ false → size % 2 ≡ 0

flag_most : (b : Bool) → flag_number b ≤ 1
flag_most true = omega arith
flag_most false = omega arith

is_size : (precise : Bool) (base whole fraction most : ℕ) (high : Bool) → base % 2 ≡ 0 → fraction ≤ 3 → base + 8 * whole + 8 ≤ most → CanBeHigh precise high
    → AreSizes precise most (base + eighths whole fraction high)
is_size precise base whole fraction most high even low fits can =
    let flag = flag_most high in
    record {
      least = omega arith;
      below = omega (arith, flag);
      even = λ not. let one : flag_number high ≡ 1 = ap flag_number (can not) in omega (arith, one);
    }

plain : (n : ℕ) → 0 + n ≡ n
plain n = omega arith

small_yields : (lists : VectorLists) (c : ℕ) (precise : Bool) → Yields (small_magnitude lists c precise) (AreSizes precise 16384)
unfolding small_magnitude
small_yields lists c precise =
    yields_bind _ _ Any (AreSizes precise 16384) (yields_all _)
    (λ whole any. yields_bind _ _ (λ x. x ≤ 3) (AreSizes precise 16384) (yields_leaf _ _ mv_fr_tree _ 3 fr_leaves)
    (λ fraction low. yields_bind _ _ (CanBeHigh precise) (AreSizes precise 16384) (high_yields precise _ _ _)
    (λ high can. yields_settle (eighths (flag_number whole) fraction high) (AreSizes precise 16384)
    (let flag = flag_most whole in subst (AreSizes precise 16384) (plain (eighths (flag_number whole) fraction high))
    (is_size precise 0 (flag_number whole) fraction 16384 high refl low (omega (arith, flag)) can)))))

next_yields : (lists : VectorLists) (c i bits : ℕ) → bits < 2 ^ i → Yields (next_bit lists c i bits) (λ x. x < 2 ^ (i + 1))
unfolding next_bit
next_yields lists c i bits few =
    yields_bind _ _ Any (λ x. x < 2 ^ (i + 1)) (yields_all _)
    (λ one any. yields_settle (bits + flag_number one * 2 ^ i) (λ x. x < 2 ^ (i + 1)) (one_more one))
  where
    one_more : (one : Bool) → bits + flag_number one * 2 ^ i < 2 ^ (i + 1)
    one_more true = omega (arith, pow-add 2 i 1)
    one_more false = omega (arith, pow-add 2 i 1)

bits_yield : (lists : VectorLists) (c m i bits : ℕ) → bits < 2 ^ i → Yields (through (next_bit lists c) (range_with_len i m) bits) (λ x. x < 2 ^ (i + m))
unfolding through
bits_yield lists c zero i bits few = yields_settle bits (λ x. x < 2 ^ (i + 0)) (let e : i + 0 ≡ i = omega arith in rw e few)
bits_yield lists c (suc m) i bits few =
    let e : i + suc m ≡ i + 1 + m = omega arith in
    yields_bind (next_bit lists c i bits) (through (next_bit lists c) (range_with_len (i + 1) m)) (λ x. x < 2 ^ (i + 1)) (λ x. x < 2 ^ (i + suc m)) (next_yields lists c i bits few)
    (λ x more. rw e (bits_yield lists c m (i + 1) x more))

large_yields : (lists : VectorLists) (c : ℕ) (precise : Bool) (n : ℕ) → n ≤ 10 → Yields (large_magnitude lists c precise n) (AreSizes precise 16384)
unfolding large_magnitude
large_yields lists c precise n most =
    let power : 2 ^ n ≤ 2 ^ 10 = pow_mono most in
    yields_bind _ _ (λ x. x < 2 ^ n) (AreSizes precise 16384) (subst (λ k. Yields (through (next_bit lists c) (range_with_len 0 n) 0) (λ x. x < 2 ^ k)) (plain n) (bits_yield lists c n 0 0 (omega arith)))
    (λ bits few. yields_bind _ _ (λ x. x ≤ 3) (AreSizes precise 16384) (yields_leaf _ _ mv_fr_tree _ 3 fr_leaves)
    (λ fraction low. yields_bind _ _ (CanBeHigh precise) (AreSizes precise 16384) (high_yields precise _ _ _)
    (λ high can. yields_settle (8 * 2 ^ n + eighths bits fraction high) (AreSizes precise 16384)
    (is_size precise (8 * 2 ^ n) bits fraction 16384 high (omega arith) low (omega (arith, few, power)) can))))

sizes_yield : (lists : VectorLists) (c : ℕ) (precise : Bool) (n : ℕ) → n ≤ 10 → Yields (magnitude lists c precise n) (AreSizes precise 16384)
unfolding magnitude
sizes_yield lists c precise n most =
    either_way (nat_eq n 0) (small_magnitude lists c precise) (large_magnitude lists c precise n) (AreSizes precise 16384) (small_yields lists c precise) (large_yields lists c precise n most)

---- Components ----

same_size : (b : Bool) (n : ℕ) → unsigned_abs (signed b n) ≡ n
same_size true zero = refl
same_size true (suc n) = refl
same_size false n = refl

component_yields : (lists : VectorLists) (component : Component) (precise : Bool) → Yields (read_mv_component lists component precise) (IsDifference precise)
unfolding read_mv_component
component_yields lists component precise =
    yields_bind _ _ Any (IsDifference precise) (yields_all _)
    (λ sign any. yields_bind _ _ (λ n. n ≤ 10) (IsDifference precise) (yields_leaf _ _ mv_class_tree _ 10 class_leaves)
    (λ n most. yields_bind _ _ (AreSizes precise 16384) (IsDifference precise) (sizes_yield lists (component_number component) precise n most)
    (λ size are. yields_settle (signed sign size) (IsDifference precise)
    (record { most = rw (same_size sign size) are.below; even = rw (same_size sign size) are.even }))))

component_if_yields : (coded : Bool) (lists : VectorLists) (component : Component) (precise : Bool) → Yields (component_if coded lists component precise) (IsDifference precise)
unfolding component_if
component_if_yields true lists component precise = component_yields lists component precise
component_if_yields false lists component precise = yields_settle (pos 0) (IsDifference precise) (record { most = omega arith; even = λ not. refl })

pub difference_yields : (lists : VectorLists) (precise : Bool) → Yields (read_mv lists precise) (CanDiffer precise)
unfolding read_mv
difference_yields lists precise =
    yields_bind _ _ Any (CanDiffer precise) (yields_all _)
    (λ joint any. yields_bind _ _ (IsDifference precise) (CanDiffer precise) (component_if_yields (nat_le 2 joint) lists Row precise)
    (λ row can_row. yields_bind _ _ (IsDifference precise) (CanDiffer precise) (component_if_yields (nat_eq joint 1 || nat_eq joint 3) lists Column precise)
    (λ column can_column. yields_settle (record { row = row; column = column }) (CanDiffer precise) (record { row = can_row; column = can_column }))))
