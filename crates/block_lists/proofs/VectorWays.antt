-- Vectors are put in one way.
use Rattle.std.proofs.Common.{◌≡◌, ◌<◌, ◌≤◌, ℕ, zero, suc, ◌+◌, ◌-◌, ◌*◌, ◌/◌, ◌%◌, ◌^◌, [], Bool, true, false, not, ◌&&◌, ◌||◌, drop, refl, sym, subst, ap, ◌∙◌, arith, ℤ, pos, ◌+ℤ◌, ◌-ℤ◌, inl, inr}
use Rattle.std.specs.Prelude.{Result, Ok, Err, int_lt, unsigned_abs, slice_index, nat_eq, nat_le, if◌then◌else◌}
use Rattle.std.specs.Ordering.{int_eq}
use Rattle.std.specs.List.{range_with_len}
use Rattle.std.proofs.Math.IntN.{+ℤ_comm, +ℤ-neg_ℤ_cancel}
use Rattle.std.proofs.lemmas.Nat.{pow-add, pow_pos}
use Rattle.std.proofs.lemmas.Bool.{cases_Bool, lt-ltb, le-ltb, ne_eqb}
use Rattle.std.proofs.lemmas.Bool.Decides.{Decides-int_eq}
use Rattle.vp9_types.specs.declared.rule.Rule.{Rule}
use Rattle.vp9_tables.specs.Numbers.{component_number, flag_number}
use Rattle.vp9_tables.specs.SymbolTrees.{mv_class_tree, mv_fr_tree, mv_joint_tree}
use Rattle.vp9_tables.specs.declared.kinds.Component.{Component}
use Rattle.vp9_tables.specs.declared.kinds.Component.TheVariants.{Row, Column}
use Rattle.bool_encoder.specs.Part.{NumberPart}
use Rattle.bool_lists.specs.BoolLists.{HasPut, one_bool, tree_bools}
use Rattle.bool_lists.proofs.Ways.{of_leaf, spells_on, spells_none}
use Rattle.prob_contexts.specs.ProbLists.{VectorLists}
use Rattle.prob_contexts.specs.declared.kind.ProbKind.{ProbKind}
use Rattle.counting_reader.specs.CountedSymbols.{has_leaf}
use Rattle.counting_reader.specs.Counting.{through}
use Rattle.bool_encoder.specs.CountedBools.{PutsValue}
use Rattle.block_plan.specs.declared.block.Mv.{Mv}
use Rattle.mv_prediction.specs.Vectors.{is_short_vector}
use Rattle.mv_syntax.specs.Components.{eighths, high_bit, large_magnitude, magnitude, next_bit, read_mv_component, signed, small_magnitude}
use Rattle.mv_syntax.specs.Differences.{added, component_if, in_range_or_rule, is_in_range, new_vector, read_mv}
use Rattle.block_lists.specs.VectorLists.{fraction_of, halvings, high_of, joint_of, spelled_bits, spelled_component, spelled_component_if, spelled_difference, spelled_high, spelled_large, spelled_magnitude, spelled_new, spelled_small, vector_class, whole_of}
use Rattle.block_lists.proofs.Counted.{two_put, settle_put, count_put, flag_put, tree_put}

---- Sizes ----

flag_is : (b : Bool) → nat_eq (flag_number b) 1 ≡ b
flag_is true = refl
flag_is false = refl

flag_low : (b : Bool) → flag_number b < 2
flag_low true = omega arith
flag_low false = omega arith

record IsSize (size w f : ℕ) (h : Bool) : Type 0 where
  some : 1 ≤ size
  whole : whole_of size ≡ w
  fraction : fraction_of size ≡ f
  high : high_of size ≡ h

sized : (whole fraction : ℕ) (high : Bool) → fraction < 4 → IsSize (eighths whole fraction high) whole fraction high
sized whole fraction high low =
    let h = flag_low high in
    record {
      some = omega arith;
      whole = omega (arith, low, h);
      fraction = omega (arith, low, h);
      high = let odd : (eighths whole fraction high - 1) % 2 ≡ flag_number high = omega (arith, h) in ap (λ n. nat_eq n 1) odd ∙ flag_is high;
    }

halvings_are : (most n b : ℕ) → n ≤ most → b < 2 ^ n → halvings most (2 ^ n + b) ≡ n
unfolding halvings
halvings_are zero zero b few low = refl
halvings_are zero (suc n) b few low = absurd (omega (arith, few))
halvings_are (suc most) zero b few low = rw (lt-ltb (2 ^ 0 + b) 2 (omega (arith, low))) refl
halvings_are (suc most) (suc n) b few low =
    let e : 2 ^ suc n ≡ 2 ^ (n + 1) = ap (λ k. 2 ^ k) (let f : suc n ≡ n + 1 = omega arith in f) in
    let p : 2 ^ (n + 1) ≡ 2 ^ n * 2 ^ 1 = pow-add 2 n 1 in
    let some : 1 ≤ 2 ^ n = pow_pos n in
    let big : 2 ≤ 2 ^ suc n + b = omega (arith, e, p, some) in
    let half : (2 ^ suc n + b) / 2 ≡ 2 ^ n + b / 2 = omega (arith, e, p) in
    let low' : b / 2 < 2 ^ n = omega (arith, e, p, low) in
    rw (le-ltb (2 ^ suc n + b) 2 big, half) (ap suc (halvings_are most n (b / 2) (omega (arith, few)) low'))

fractions_low : (n : ℕ) → has_leaf mv_fr_tree n ≡ true → n < 4
fractions_low n there = of_leaf (λ n. n < 4) mv_fr_tree n (omega arith, (omega arith, (omega arith, omega arith))) there

---- A component ----

high_way : (precise : Bool) (kind : ProbKind) (place p : ℕ) (high : Bool) (old new : NumberPart) → PutsValue (high_bit precise kind place p) old high new → HasPut old (spelled_high precise p high) new
unfolding high_bit spelled_high
high_way true kind place p high old new h = flag_put kind place p high old new h
high_way false kind place p high old new h =
    let a = two_put _ _ old new high h in
    subst (λ m. HasPut old [] m) (count_put _ a.x old a.mid a.first ∙ (settle_put true high a.mid new a.second).1) (spells_none old)

small_class : (w : ℕ) → w < 2 → halvings 10 w ≡ 0
unfolding halvings
small_class w under = rw (lt-ltb w 2 under) refl

-- a size of class n was put
record IsMagnitude (lists : VectorLists) (c : ℕ) (precise : Bool) (n size : ℕ) (old new : NumberPart) : Type 0 where
  some : 1 ≤ size
  class : vector_class size ≡ n
  put : HasPut old (spelled_magnitude lists c precise n size) new

small_way : (lists : VectorLists) (c : ℕ) (precise : Bool) (size : ℕ) (old new : NumberPart) → PutsValue (small_magnitude lists c precise) old size new → IsMagnitude lists c precise 0 size old new
unfolding small_magnitude spelled_magnitude spelled_small
small_way lists c precise size old new h =
    let a = two_put _ _ old new size h in
    let b = two_put _ _ a.mid new size a.second in
    let d = two_put _ _ b.mid new size b.second in
    let last = settle_put (eighths (flag_number a.x) b.x d.x) size d.mid new d.second in
    let first = flag_put _ _ _ a.x old a.mid a.first in
    let t = tree_put _ _ mv_fr_tree (drop (6 * c + 3 * flag_number a.x) lists.class0_fractions) b.x a.mid b.mid refl b.first in
    let i = sized (flag_number a.x) b.x d.x (fractions_low b.x t.1) in
    let two = spells_on old a.mid b.mid _ _ t.0 first in
    let three = spells_on old b.mid d.mid _ _ (high_way precise _ _ (slice_index lists.class0_high c) d.x b.mid d.mid d.first) two in
    let low = flag_low a.x in
    let made : IsMagnitude lists c precise 0 (eighths (flag_number a.x) b.x d.x) old d.mid = record {
      some = i.some;
      class = ap (λ w. halvings 10 w) i.whole ∙ small_class (flag_number a.x) low;
      put = rw (i.whole, i.fraction, i.high, flag_is a.x) three;
    } in
    subst (λ (p : ℕ × NumberPart). IsMagnitude lists c precise 0 p.0 old p.1) (λ k. (last.0 k, last.1 k)) made

scaled : (acc f r p q x bits : ℕ) → q ≡ p * 2 ^ 1 → x ≡ acc + f * p → bits ≡ x + q * r → bits ≡ acc + p * (f + 2 * r)
scaled acc f r p q x bits e g h = rw (h, g, e) (grind arith)

record IsBits (lists : VectorLists) (c i n acc bits : ℕ) (old new : NumberPart) : Type 0 where
  rest : ℕ
  low : rest < 2 ^ n
  is : bits ≡ acc + 2 ^ i * rest
  put : HasPut old (spelled_bits lists c i n rest) new

bits_way : (lists : VectorLists) (c i n acc bits : ℕ) (old new : NumberPart) → PutsValue (through (next_bit lists c) (range_with_len i n) acc) old bits new
    → IsBits lists c i n acc bits old new
unfolding through next_bit spelled_bits
bits_way lists c i zero acc bits old new h =
    let e = settle_put acc bits old new h in
    let is : bits ≡ acc + 2 ^ i * 0 = sym e.0 ∙ (let f : acc ≡ acc + 2 ^ i * 0 = omega arith in f) in
    record { rest = 0; low = omega arith; is = is; put = subst (λ m. HasPut old [] m) e.1 (spells_none old) }
bits_way lists c i (suc n) acc bits old new h =
    let a = two_put (next_bit lists c i acc) (through (next_bit lists c) (range_with_len (i + 1) n)) old new bits h in
    let b = two_put _ _ old a.mid a.x a.first in
    let e = settle_put (acc + flag_number b.x * 2 ^ i) a.x b.mid a.mid b.second in
    let rest = bits_way lists c (i + 1) n a.x bits a.mid new a.second in
    let f = flag_number b.x in
    let r = rest.rest in
    let low = flag_low b.x in
    let x = f + 2 * r in
    let odd : x % 2 ≡ f = omega (arith, low) in
    let half : x / 2 ≡ r = omega (arith, low) in
    let n_on : suc n ≡ n + 1 = omega arith in
    let more : 2 ^ suc n ≡ 2 ^ n * 2 ^ 1 = ap (λ k. 2 ^ k) n_on ∙ pow-add 2 n 1 in
    let small = rest.low in
    let first : HasPut old (one_bool (slice_index lists.bits (10 * c + i)) b.x) a.mid = subst (λ m. HasPut old (one_bool (slice_index lists.bits (10 * c + i)) b.x) m) e.1 (flag_put _ _ _ b.x old b.mid b.first) in
    let one : nat_eq (x % 2) 1 ≡ b.x = ap (λ k. nat_eq k 1) odd ∙ flag_is b.x in
    let last : HasPut a.mid (spelled_bits lists c (i + 1) n r) new = rest.put in
    record {
      rest = x;
      low = omega (arith, more, small, low);
      is = scaled acc f r (2 ^ i) (2 ^ (i + 1)) a.x bits (pow-add 2 i 1) (sym e.0) rest.is;
      put = rw (one, half) (spells_on old a.mid new _ _ last first);
    }

large_way : (lists : VectorLists) (c : ℕ) (precise : Bool) (n size : ℕ) (old new : NumberPart) → n ≤ 10 → nat_eq n 0 ≡ false → PutsValue (large_magnitude lists c precise n) old size new → IsMagnitude lists c precise n size old new
unfolding large_magnitude spelled_magnitude spelled_large
large_way lists c precise n size old new few some h =
    let a = two_put _ _ old new size h in
    let b = two_put _ _ a.mid new size a.second in
    let d = two_put _ _ b.mid new size b.second in
    let last = settle_put (8 * 2 ^ n + eighths a.x b.x d.x) size d.mid new d.second in
    let bits = bits_way lists c 0 n 0 a.x old a.mid a.first in
    let r = bits.rest in
    let small = bits.low in
    let is : a.x ≡ r = let e = bits.is in omega (arith, e) in
    let t = tree_put _ _ mv_fr_tree (drop (3 * c) lists.fractions) b.x a.mid b.mid refl b.first in
    let same : 8 * 2 ^ n + eighths a.x b.x d.x ≡ eighths (2 ^ n + r) b.x d.x = omega (arith, is) in
    let i = sized (2 ^ n + r) b.x d.x (fractions_low b.x t.1) in
    let two = spells_on old a.mid b.mid _ _ t.0 bits.put in
    let three = spells_on old b.mid d.mid _ _ (high_way precise _ _ (slice_index lists.high c) d.x b.mid d.mid d.first) two in
    let less : 2 ^ n + r - 2 ^ n ≡ r = omega arith in
    let made : IsMagnitude lists c precise n (eighths (2 ^ n + r) b.x d.x) old d.mid = record {
      some = i.some;
      class = ap (λ w. halvings 10 w) i.whole ∙ halvings_are 10 n r few small;
      put = rw (some, i.whole, i.fraction, i.high, less) three;
    } in
    subst (λ (p : ℕ × NumberPart). IsMagnitude lists c precise n p.0 old p.1) (λ k. ((sym same ∙ last.0) k, last.1 k)) made

magnitude_way : (lists : VectorLists) (c : ℕ) (precise : Bool) (n size : ℕ) (old new : NumberPart) → n ≤ 10 → PutsValue (magnitude lists c precise n) old size new → IsMagnitude lists c precise n size old new
unfolding magnitude
magnitude_way lists c precise zero size old new few h = small_way lists c precise size old new h
magnitude_way lists c precise (suc n) size old new few h =
    let some : nat_eq (suc n) 0 ≡ false = ne_eqb (suc n) 0 (λ e. let f : suc n ≡ 0 = e in omega (arith, f)) in
    large_way lists c precise (suc n) size old new few some (rw some at h)

classes_low : (n : ℕ) → has_leaf mv_class_tree n ≡ true → n ≤ 10
classes_low n there = of_leaf (λ n. n ≤ 10) mv_class_tree n (omega arith, (omega arith, ((omega arith, omega arith), ((omega arith, omega arith), (omega arith, ((omega arith, omega arith), (omega arith, omega arith))))))) there

record IsComponent (lists : VectorLists) (component : Component) (precise : Bool) (z : ℤ) (old new : NumberPart) : Type 0 where
  some : int_eq z (pos 0) ≡ false
  put : HasPut old (spelled_component lists component precise z) new

signed_lt : (s : Bool) (k : ℕ) → int_lt (signed s (suc k)) (pos 0) ≡ s
signed_lt true k = refl
signed_lt false k = le-ltb (suc k) 0 (omega arith)

signed_abs : (s : Bool) (k : ℕ) → unsigned_abs (signed s (suc k)) ≡ suc k
signed_abs true k = refl
signed_abs false k = refl

signed_some : (s : Bool) (k : ℕ) → int_eq (signed s (suc k)) (pos 0) ≡ false
signed_some true k = refl
signed_some false k = elim (cases_Bool (int_eq (pos (suc k)) (pos 0))) [
  | inl one ↦ let no : suc k ≡ 0 = ap unsigned_abs ((Decides-int_eq (pos (suc k)) (pos 0)).0 one) in absurd (omega (arith, no))
  | inr none ↦ none
]

component_way : (lists : VectorLists) (component : Component) (precise : Bool) (z : ℤ) (old new : NumberPart) → PutsValue (read_mv_component lists component precise) old z new → IsComponent lists component precise z old new
unfolding read_mv_component spelled_component
component_way lists component precise z old new h =
    let a = two_put _ _ old new z h in
    let b = two_put _ _ a.mid new z a.second in
    let d = two_put _ _ b.mid new z b.second in
    let last = settle_put (signed a.x d.x) z d.mid new d.second in
    let first = flag_put _ _ _ a.x old a.mid a.first in
    let t = tree_put _ _ mv_class_tree (drop (10 * component_number component) lists.classes) b.x a.mid b.mid refl b.first in
    let m = magnitude_way lists (component_number component) precise b.x d.x b.mid d.mid (classes_low b.x t.1) d.first in
    let some = m.some in
    let k = d.x - 1 in
    let is : d.x ≡ suc k = omega (arith, some) in
    let two = spells_on old a.mid b.mid _ _ t.0 first in
    let three = spells_on old b.mid d.mid _ _ m.put two in
    let absolute : unsigned_abs (signed a.x d.x) ≡ d.x = ap (λ n. unsigned_abs (signed a.x n)) is ∙ signed_abs a.x k ∙ sym is in
    let sign : int_lt (signed a.x d.x) (pos 0) ≡ a.x = ap (λ n. int_lt (signed a.x n) (pos 0)) is ∙ signed_lt a.x k in
    let made : IsComponent lists component precise (signed a.x d.x) old d.mid = record {
      some = ap (λ n. int_eq (signed a.x n) (pos 0)) is ∙ signed_some a.x k;
      put = rw (absolute, sign, m.class) three;
    } in
    subst (λ (p : ℤ × NumberPart). IsComponent lists component precise p.0 old p.1) (λ i. (last.0 i, last.1 i)) made

---- A difference ----

if_way : (coded : Bool) (lists : VectorLists) (component : Component) (precise : Bool) (z : ℤ) (old new : NumberPart) → PutsValue (component_if coded lists component precise) old z new
    → HasPut old (spelled_component_if coded lists component precise z) new × (int_eq z (pos 0) ≡ not coded)
unfolding component_if spelled_component_if
if_way true lists component precise z old new h = let c = component_way lists component precise z old new h in (c.put, c.some)
if_way false lists component precise z old new h =
    let e = settle_put (pos 0) z old new h in
    (subst (λ m. HasPut old [] m) e.1 (spells_none old), subst (λ y. int_eq y (pos 0) ≡ true) e.0 refl)

-- what the joint tells was put
abbrev AfterJoint : VectorLists → Bool → Mv → NumberPart → NumberPart → NumberPart → ℕ → Type 0
AfterJoint lists precise v old mid new joint =
    HasPut old (tree_bools mv_joint_tree lists.joints joint) mid
    → (row column : ℤ) (next last : NumberPart) → PutsValue (component_if (nat_le 2 joint) lists Row precise) mid row next
    → PutsValue (component_if (nat_eq joint 1 || nat_eq joint 3) lists Column precise) next column last
    → ◌≡◌ {A = Mv} (record { row = row; column = column }) v → last ≡ new → HasPut old (spelled_difference lists precise v) new

joint_way : (lists : VectorLists) (precise : Bool) (v : Mv) (old mid new : NumberPart) (joint : ℕ) (r c : Bool) → nat_le 2 joint ≡ r → (nat_eq joint 1 || nat_eq joint 3) ≡ c
    → (if not r then (if not c then 0 else 1) else (if not c then 2 else 3)) ≡ joint → AfterJoint lists precise v old mid new joint
unfolding spelled_difference joint_of
joint_way lists precise v old mid new joint r c rows columns is = λ first row column next last one two same end.
    let a = if_way (nat_le 2 joint) lists Row precise row mid next one in
    let b = if_way (nat_eq joint 1 || nat_eq joint 3) lists Column precise column next last two in
    let w : Mv = record { row = row; column = column } in
    let tells : joint_of w ≡ joint = rw (a.1, b.1, rows, columns) is in
    let all = spells_on old next last _ _ b.0 (spells_on old mid next _ _ a.0 first) in
    subst (λ (p : Mv × NumberPart). HasPut old (spelled_difference lists precise p.0) p.1) (λ i. (same i, end i)) (rw tells all)

difference_way : (lists : VectorLists) (precise : Bool) (v : Mv) (old new : NumberPart) → PutsValue (read_mv lists precise) old v new → HasPut old (spelled_difference lists precise v) new
unfolding read_mv
difference_way lists precise v old new h =
    let a = two_put _ _ old new v h in
    let b = two_put _ _ a.mid new v a.second in
    let d = two_put _ _ b.mid new v b.second in
    let last = settle_put {A = Mv} (record { row = b.x; column = d.x }) v d.mid new d.second in
    let t = tree_put _ _ mv_joint_tree lists.joints a.x old a.mid refl a.first in
    let j = joint_way lists precise v old a.mid new in
    of_leaf (AfterJoint lists precise v old a.mid new) mv_joint_tree a.x
    (j 0 false false refl refl refl, (j 1 false true refl refl refl, (j 2 true false refl refl refl, j 3 true true refl refl refl))) t.1
    t.0 b.x d.x b.mid d.mid b.first d.first last.0 last.1

---- A new vector ----

in_range_is : (w v : Mv) → ◌≡◌ {A = Result Mv Rule} (in_range_or_rule w) (Ok v) → w ≡ v
in_range_is w v h = by_test (is_in_range w) h
  where
    by_test : (b : Bool) → ◌≡◌ {A = Result Mv Rule} (if b then Ok w else Err Rattle.vp9_types.specs.declared.rule.Rule.TheVariants.MvRange) (Ok v) → w ≡ v
    by_test true g = cc
    by_test false g = let no : ⊥ = cc in absurd no

less_best : (b d : ℤ) → (b +ℤ d) -ℤ b ≡ d
less_best b d = ap (λ z. z -ℤ b) (+ℤ_comm b d) ∙ +ℤ-neg_ℤ_cancel d b

pub new_way : (lists : VectorLists) (allowed : Bool) (best v : Mv) (old new : NumberPart) → PutsValue (new_vector lists allowed best) old (Ok v) new → HasPut old (spelled_new lists allowed best v) new
unfolding new_vector spelled_new
new_way lists allowed best v old new h =
    let precise = allowed && is_short_vector best in
    let a = two_put _ _ old new (Ok v) h in
    let last = settle_put {A = Result Mv Rule} (in_range_or_rule (added best a.x)) (Ok v) a.mid new a.second in
    let is : added best a.x ≡ v = in_range_is (added best a.x) v last.0 in
    let d : ◌≡◌ {A = Mv} a.x (record { row = v.row -ℤ best.row; column = v.column -ℤ best.column }) =
    λ i. record {
      row = (sym (less_best best.row a.x.row) ∙ ap (λ (w : Mv). w.row -ℤ best.row) is) i;
      column = (sym (less_best best.column a.x.column) ∙ ap (λ (w : Mv). w.column -ℤ best.column) is) i;
    } in
    subst (λ (w : Mv). HasPut old (spelled_difference lists precise w) new) d (subst (λ m. HasPut old (spelled_difference lists precise a.x) m) last.1 (difference_way lists precise a.x old a.mid a.first))
