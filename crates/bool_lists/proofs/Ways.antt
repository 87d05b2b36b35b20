-- There is one way to put a symbol.
use Rattle.std.proofs.Common.{◌≡◌, ◌<◌, ◌≤◌, ℕ, zero, suc, ◌+◌, ◌-◌, ◌*◌, ◌/◌, ◌%◌, ◌^◌, Bool, true, false, List, [], ◌∷◌, ◌++◌, length, refl, sym, ap, subst, ◌∙◌, arith, ◌⊎◌, inl, inr}
use Rattle.std.specs.Prelude.{nat_eq, nat_lt, slice_index, if◌then◌else◌, ◌&&◌, ◌||◌}
use Rattle.std.proofs.lemmas.Nat.{shr-shr}
use Rattle.std.proofs.lemmas.Bool.{and_parts, or_cases, eqb-true, eq-eqb, not-true, ltb-true, ltb-false, lt-ltb, le-ltb}
use Rattle.std.proofs.lemmas.List.{append-nil}
use Rattle.vp9_types.specs.Syntax.{Syntax, done, broken, ask, ◌>>=◌}
use Rattle.vp9_types.specs.Trees.{Tree, leaf, node, tree_symbol}
use Rattle.vp9_types.specs.declared.rule.Rule.{Rule}
use Rattle.counting_reader.specs.CountedSymbols.{has_leaf}
use Rattle.prob_contexts.specs.Counted.{bool_number}
use Rattle.bool_decoder.specs.Bools.{flag, literal, literal_from, difference, wide_difference}
use Rattle.bool_encoder.specs.Part.{NumberPart, Finishes, after_put, behind_marker, after_bools}
use Rattle.bool_encoder.specs.WrittenBools.{Puts}
use Rattle.bool_lists.specs.BoolLists.{BoolList, HasPut, are_apart, bytes_taken, difference_bools, is_distinct, number_bools, one_bool, tree_bools}

pub bytes_are : (bools : BoolList) (part : NumberPart) (bytes : List ℕ) → HasPut behind_marker bools part → Finishes part bytes → length bytes ≡ bytes_taken bools
unfolding HasPut bytes_taken
bytes_are bools part bytes h f = f.size ∙ ap (λ (e : NumberPart). (8 + e.n + 7) / 8) h

---- one behind another ----

after_both : (first more : BoolList) (old : NumberPart) → after_bools (first ++ more) old ≡ after_bools more (after_bools first old)
after_both [] more old = refl
after_both (b ∷ first) more old = after_both first more (after_put b.0 b.1 old)

pub spells_on : (old mid new : NumberPart) (first more : BoolList) → HasPut mid more new → HasPut old first mid → HasPut old (first ++ more) new
unfolding HasPut
spells_on old mid new first more g h = g ∙ ap (λ e. after_bools more e) h ∙ sym (after_both first more old)

pub spells_same : (old new : NumberPart) (first : BoolList) → HasPut old first new → HasPut old (first ++ []) new
spells_same old new first h = subst (λ bools. HasPut old bools new) (sym (append-nil first)) h

pub spells_none : (old : NumberPart) → HasPut old [] old
unfolding HasPut
spells_none old = refl

---- a bool and a number ----

flag_by : (p v : ℕ) (b : Bool) (old new : NumberPart) → v < 2 → nat_eq v 1 ≡ b → after_put p v old ≡ new → new ≡ after_put p (bool_number b) old
flag_by p zero b old new low is put = subst (λ c. new ≡ after_put p (bool_number c) old) is (sym put)
flag_by p (suc zero) b old new low is put = subst (λ c. new ≡ after_put p (bool_number c) old) is (sym put)
flag_by p (suc (suc v)) b old new low is put = absurd (omega arith)

pub flag_way : (p : ℕ) (b : Bool) (old new : NumberPart) → Puts (flag p) old b new → HasPut old (one_bool p b) new
unfolding flag HasPut one_bool
flag_way p b old new h = flag_by p h.0 b old new h.1.1 h.2.0 h.2.1

literal_by : (n y x : ℕ) (old new : NumberPart) → Puts (literal_from n y) old x new → (x / 2 ^ n ≡ y) × (new ≡ after_bools (number_bools n x) old)
unfolding literal_from number_bools
literal_by zero y x old new h = let is = h.0 in (omega (arith, is), sym h.1)
literal_by (suc n) y x old new h =
    let v = h.0 in
    let low = h.1.1 in
    let rest = literal_by n (2 * y + v) x (after_put 128 v old) new h.2 in
    let whole = rest.0 in
    let bit : x / 2 ^ n % 2 ≡ v = omega (arith, whole, low) in
    let half : x / 2 ^ suc n ≡ x / 2 ^ n / 2 = ap (λ k. x / 2 ^ k) (let e : suc n ≡ n + 1 = omega arith in e) ∙ sym (shr-shr x n 1) in
    (omega (arith, half, whole, low), subst (λ b. new ≡ after_bools (number_bools n x) (after_put 128 b old)) (sym bit) rest.1)

pub literal_way : (n x : ℕ) (old new : NumberPart) → Puts (literal n) old x new → HasPut old (number_bools n x) new
unfolding literal HasPut
literal_way n x old new h = (literal_by n 0 x old new h).1

-- two numbers, one behind the other
pub numbers_way : (n m x y : ℕ) (old mid new : NumberPart) → Puts (literal n) old x mid → Puts (literal m) mid y new → HasPut old (number_bools n x ++ number_bools m y) new
numbers_way n m x y old mid new h g = spells_on old mid new (number_bools n x) (number_bools m y) (literal_way m y mid new g) (literal_way n x old mid h)

-- a flag, and a number behind it
pub flag_and_number : (p n x : ℕ) (b : Bool) (old mid new : NumberPart) → Puts (flag p) old b mid → Puts (literal n) mid x new → HasPut old (one_bool p b ++ number_bools n x) new
flag_and_number p n x b old mid new h g = spells_on old mid new (one_bool p b) (number_bools n x) (literal_way n x mid new g) (flag_way p b old mid h)

---- a difference ----

-- what is put for one syntax and then another is put for the first, and then for the other
pub record Between {A B : Type 0} (s : Syntax ℕ Rule A) (f : A → Syntax ℕ Rule B) (old : NumberPart) (y : B) (new : NumberPart) : Type 0 where
  pub x : A
  pub mid : NumberPart
  pub first : Puts s old x mid
  pub second : Puts (f x) mid y new

pub between : {A B : Type 0} (s : Syntax ℕ Rule A) (f : A → Syntax ℕ Rule B) (old new : NumberPart) (y : B) → Puts (s >>= f) old y new → Between s f old y new
between (done x) f old new y h = record { x = x; mid = old; first = (refl, refl); second = h }
between (broken e) f old new y h = absurd h
between (ask p k) f old new y h =
    let b = between (k h.0) f (after_put p h.0 old) new y h.2 in
    record { x = b.x; mid = b.mid; first = (h.0, h.1, b.first); second = b.second }

literal_low : (n x : ℕ) (old new : NumberPart) → Puts (literal n) old x new → x / 2 ^ n ≡ 0
unfolding literal
literal_low n x old new h = (literal_by n 0 x old new h).0

-- a literal and what is added to it
record IsAdded (n more : ℕ) (old : NumberPart) (d : ℕ) (new : NumberPart) : Type 0 where
  v : ℕ
  is : d ≡ v + more
  low : v / 2 ^ n ≡ 0
  put : HasPut old (number_bools n (d - more)) new

added : (n more d : ℕ) (old new : NumberPart) → Puts (literal n >>= λ v. done (v + more)) old d new → IsAdded n more old d new
added n more d old new h =
    let b = between (literal n) (λ v. done (v + more)) old new d h in
    let is : b.x + more ≡ d = b.second.0 in
    let x : b.x ≡ d - more = omega (arith, is) in
    record {
      v = b.x;
      is = sym is;
      low = literal_low n b.x old b.mid b.first;
      put = subst (λ v. HasPut old (number_bools n v) new) x (subst (λ e. HasPut old (number_bools n b.x) e) b.second.1 (literal_way n b.x old b.mid b.first));
    }

-- a bit that chooses how a number goes on
record Chooses (a : ℕ) (s : Syntax ℕ Rule ℕ) (old : NumberPart) (d : ℕ) (new : NumberPart) : Type 0 where
  mid : NumberPart
  first : HasPut old (number_bools 1 a) mid
  second : Puts s mid d new

chosen_by : (s t : Syntax ℕ Rule ℕ) (d a : ℕ) (old mid new : NumberPart) → a / 2 ^ 1 ≡ 0 → Puts (literal 1) old a mid
    → Puts (if nat_eq a 0 then s else t) mid d new → Chooses 0 s old d new ⊎ Chooses 1 t old d new
chosen_by s t d zero old mid new low first second = inl (record { mid = mid; first = literal_way 1 0 old mid first; second = second })
chosen_by s t d (suc zero) old mid new low first second = inr (record { mid = mid; first = literal_way 1 1 old mid first; second = second })
chosen_by s t d (suc (suc a)) old mid new low first second = absurd (omega (arith, low))

chosen : (s t : Syntax ℕ Rule ℕ) (d : ℕ) (old new : NumberPart) → Puts (literal 1 >>= λ a. if nat_eq a 0 then s else t) old d new
    → Chooses 0 s old d new ⊎ Chooses 1 t old d new
chosen s t d old new h =
    let b = between (literal 1) (λ a. if nat_eq a 0 then s else t) old new d h in
    chosen_by s t d b.x old b.mid new (literal_low 1 b.x old b.mid b.first) b.first b.second

-- the last case
record IsWide (old : NumberPart) (d : ℕ) (new : NumberPart) : Type 0 where
  from : 64 ≤ d
  put : HasPut old (if nat_lt d 129 then number_bools 7 (d - 64) else (number_bools 7 ((d + 1) / 2) ++ number_bools 1 ((d + 1) % 2))) new

wide_by : (v d : ℕ) (old mid new : NumberPart) → v / 2 ^ 7 ≡ 0 → HasPut old (number_bools 7 v) mid → (b : Bool) → nat_lt v 65 ≡ b
    → Puts (if b then done (v + 64) else (literal 1 >>= λ extra. done (2 * v - 1 + extra))) mid d new → IsWide old d new
wide_by v d old mid new low first true under h =
    let small : v < 65 = ltb-true v 65 under in
    let is : v + 64 ≡ d = h.0 in
    let x : v ≡ d - 64 = omega (arith, is) in
    let lt : d < 129 = omega (arith, is, small) in
    record {
      from = omega (arith, is);
      put = rw (lt-ltb d 129 lt) (subst (λ n. HasPut old (number_bools 7 n) new) x (subst (λ e. HasPut old (number_bools 7 v) e) h.1 first));
    }
wide_by v d old mid new low first false over h =
    let big : 65 ≤ v = ltb-false v 65 over in
    let b = between (literal 1) (λ extra. done (2 * v - 1 + extra)) mid new d h in
    let bit = literal_low 1 b.x mid b.mid b.first in
    let is : 2 * v - 1 + b.x ≡ d = b.second.0 in
    let half : v ≡ (d + 1) / 2 = omega (arith, is, big, bit) in
    let rest : b.x ≡ (d + 1) % 2 = omega (arith, is, big, bit) in
    let most : 129 ≤ d = omega (arith, is, big) in
    let last : HasPut mid (number_bools 1 b.x) new = subst (λ e. HasPut mid (number_bools 1 b.x) e) b.second.1 (literal_way 1 b.x mid b.mid b.first) in
    record {
      from = omega (arith, is, big);
      put = rw (le-ltb d 129 most) (spells_on old mid new (number_bools 7 ((d + 1) / 2)) (number_bools 1 ((d + 1) % 2))
          (subst (λ n. HasPut mid (number_bools 1 n) new) rest last) (subst (λ n. HasPut old (number_bools 7 n) mid) half first));
    }

wide_way : (d : ℕ) (old new : NumberPart) → Puts (literal 7 >>= wide_difference) old d new → IsWide old d new
unfolding wide_difference
wide_way d old new h =
    let b = between (literal 7) wide_difference old new d h in
    wide_by b.x d old b.mid new (literal_low 7 b.x old b.mid b.first) (literal_way 7 b.x old b.mid b.first) (nat_lt b.x 65) refl b.second

abbrev from_32 : Syntax ℕ Rule ℕ
from_32 = literal 1 >>= λ above. if nat_eq above 0 then (literal 5 >>= λ v. done (v + 32)) else (literal 7 >>= wide_difference)

abbrev from_16 : Syntax ℕ Rule ℕ
from_16 = literal 1 >>= λ above. if nat_eq above 0 then (literal 4 >>= λ v. done (v + 16)) else from_32

abbrev bools_64 : ℕ → BoolList
bools_64 d = if nat_lt d 129 then number_bools 7 (d - 64) else (number_bools 7 ((d + 1) / 2) ++ number_bools 1 ((d + 1) % 2))

abbrev bools_32 : ℕ → BoolList
bools_32 d = if nat_lt d 64 then (number_bools 1 0 ++ number_bools 5 (d - 32)) else (number_bools 1 1 ++ bools_64 d)

abbrev bools_16 : ℕ → BoolList
bools_16 d = if nat_lt d 32 then (number_bools 1 0 ++ number_bools 4 (d - 16)) else (number_bools 1 1 ++ bools_32 d)

way_32 : (d : ℕ) (old new : NumberPart) → Puts from_32 old d new → (32 ≤ d) × HasPut old (bools_32 d) new
way_32 d old new h = elim (chosen (literal 5 >>= λ v. done (v + 32)) (literal 7 >>= wide_difference) d old new h) [
  | inl c ↦ let a = added 5 32 d c.mid new c.second in let is = a.is in let low = a.low in let under : d < 64 = omega (arith, is, low) in
      (omega (arith, is), rw (lt-ltb d 64 under) (spells_on old c.mid new (number_bools 1 0) (number_bools 5 (d - 32)) a.put c.first))
  | inr c ↦ let w = wide_way d c.mid new c.second in let from = w.from in
      (omega (arith, from), rw (le-ltb d 64 from) (spells_on old c.mid new (number_bools 1 1) (bools_64 d) w.put c.first))
]

way_16 : (d : ℕ) (old new : NumberPart) → Puts from_16 old d new → (16 ≤ d) × HasPut old (bools_16 d) new
way_16 d old new h = elim (chosen (literal 4 >>= λ v. done (v + 16)) from_32 d old new h) [
  | inl c ↦ let a = added 4 16 d c.mid new c.second in let is = a.is in let low = a.low in let under : d < 32 = omega (arith, is, low) in
      (omega (arith, is), rw (lt-ltb d 32 under) (spells_on old c.mid new (number_bools 1 0) (number_bools 4 (d - 16)) a.put c.first))
  | inr c ↦ let w = way_32 d c.mid new c.second in let from = w.0 in
      (omega (arith, from), rw (le-ltb d 32 from) (spells_on old c.mid new (number_bools 1 1) (bools_32 d) w.1 c.first))
]

pub difference_way : (d : ℕ) (old new : NumberPart) → Puts difference old d new → HasPut old (difference_bools d) new
unfolding difference difference_bools
difference_way d old new h = elim (chosen (literal 4) from_16 d old new h) [
  | inl c ↦ let low = literal_low 4 d c.mid new c.second in let under : d < 16 = omega (arith, low) in
      rw (lt-ltb d 16 under) (spells_on old c.mid new (number_bools 1 0) (number_bools 4 d) (literal_way 4 d c.mid new c.second) c.first)
  | inr c ↦ let w = way_16 d c.mid new c.second in let from = w.0 in
      rw (le-ltb d 16 from) (spells_on old c.mid new (number_bools 1 1) (bools_16 d) w.1 c.first)
]

-- a flag, and a difference behind it
pub flag_and_difference : (p d : ℕ) (b : Bool) (old mid new : NumberPart) → Puts (flag p) old b mid → Puts difference mid d new → HasPut old (one_bool p b ++ difference_bools d) new
flag_and_difference p d b old mid new h g = spells_on old mid new (one_bool p b) (difference_bools d) (difference_way d mid new g) (flag_way p b old mid h)

---- a leaf ----

or_true : (b : Bool) → (b || true) ≡ true
or_true true = refl
or_true false = refl

-- what was put for a branch, by the bool that chooses it
abbrev Branch : Tree → Tree → List ℕ → ℕ → ℕ → NumberPart → NumberPart → Type 0
Branch zeros ones probs x v now new = Puts (if nat_eq v 1 then tree_symbol ones probs else tree_symbol zeros probs) now x new

one_in : (zeros ones : Tree) (probs : List ℕ) (x v : ℕ) (now new : NumberPart) → v < 2 → (Puts (tree_symbol zeros probs) now x new → has_leaf zeros x ≡ true)
    → (Puts (tree_symbol ones probs) now x new → has_leaf ones x ≡ true) → Branch zeros ones probs x v now new → (has_leaf zeros x || has_leaf ones x) ≡ true
one_in zeros ones probs x zero now new low in_zeros in_ones g = rw (in_zeros g) refl
one_in zeros ones probs x (suc zero) now new low in_zeros in_ones g = rw (in_ones g) (or_true (has_leaf zeros x))
one_in zeros ones probs x (suc (suc v)) now new low in_zeros in_ones g = absurd (omega arith)

pub has_one : (tree : Tree) (probs : List ℕ) (x : ℕ) (old new : NumberPart) → Puts (tree_symbol tree probs) old x new → has_leaf tree x ≡ true
unfolding tree_symbol
has_one (leaf y) probs x old new h = eq-eqb y x h.0
has_one (node k zeros ones) probs x old new h =
    let now = after_put (slice_index probs k) h.0 old in
    one_in zeros ones probs x h.0 now new h.1.1 (λ g. has_one zeros probs x now new g) (λ g. has_one ones probs x now new g) h.2

-- what holds of each leaf
abbrev pub OfLeaves : (ℕ → Type 0) → Tree → Type 0
OfLeaves P (leaf x) = P x
OfLeaves P (node k zeros ones) = OfLeaves P zeros × OfLeaves P ones

pub of_leaf : (P : ℕ → Type 0) (tree : Tree) (x : ℕ) → OfLeaves P tree → has_leaf tree x ≡ true → P x
of_leaf P (leaf y) x all there = subst P (eqb-true y x there) all
of_leaf P (node k zeros ones) x all there = elim (or_cases (has_leaf zeros x) (has_leaf ones x) there) [
  | inl one ↦ of_leaf P zeros x all.0 one
  | inr two ↦ of_leaf P ones x all.1 two
]

apart_not : (tree other : Tree) (x : ℕ) → are_apart tree other ≡ true → has_leaf tree x ≡ true → has_leaf other x ≡ false
apart_not (leaf y) other x is there = subst (λ z. has_leaf other z ≡ false) (eqb-true y x there) (not-true (has_leaf other y) is)
apart_not (node k zeros ones) other x is there =
    let parts = and_parts (are_apart zeros other) (are_apart ones other) is in
    elim (or_cases (has_leaf zeros x) (has_leaf ones x) there) [
      | inl one ↦ apart_not zeros other x parts.0 one
      | inr two ↦ apart_not ones other x parts.1 two
    ]

way_in : (zeros ones : Tree) (probs : List ℕ) (x p v : ℕ) (old new : NumberPart) → v < 2 → are_apart zeros ones ≡ true
    → (Puts (tree_symbol zeros probs) (after_put p v old) x new → new ≡ after_bools (tree_bools zeros probs x) (after_put p v old))
    → (Puts (tree_symbol ones probs) (after_put p v old) x new → new ≡ after_bools (tree_bools ones probs x) (after_put p v old))
    → Branch zeros ones probs x v (after_put p v old) new
    → new ≡ after_bools (if has_leaf ones x then (p, 1) ∷ tree_bools ones probs x else (p, 0) ∷ tree_bools zeros probs x) old
way_in zeros ones probs x p zero old new low apart in_zeros in_ones g =
    rw (apart_not zeros ones x apart (has_one zeros probs x (after_put p 0 old) new g)) (in_zeros g)
way_in zeros ones probs x p (suc zero) old new low apart in_zeros in_ones g =
    rw (has_one ones probs x (after_put p 1 old) new g) (in_ones g)
way_in zeros ones probs x p (suc (suc v)) old new low apart in_zeros in_ones g = absurd (omega arith)

pub tree_way : (tree : Tree) (probs : List ℕ) (x : ℕ) (old new : NumberPart) → is_distinct tree ≡ true → Puts (tree_symbol tree probs) old x new → HasPut old (tree_bools tree probs x) new
unfolding tree_symbol tree_bools HasPut
tree_way (leaf y) probs x old new is h = sym h.1
tree_way (node k zeros ones) probs x old new is h =
    let p = slice_index probs k in
    let now = after_put p h.0 old in
    let outer = and_parts (are_apart zeros ones && is_distinct zeros) (is_distinct ones) is in
    let inner = and_parts (are_apart zeros ones) (is_distinct zeros) outer.0 in
    way_in zeros ones probs x p h.0 old new h.1.1 inner.0 (λ g. tree_way zeros probs x now new inner.1 g) (λ g. tree_way ones probs x now new outer.1 g) h.2
