-- Counts stand for lists of bools.
use Rattle.std.proofs.Common.{◌≡◌, ◌<◌, ◌≤◌, ◌+◌, ◌*◌, ◌-◌, ◌^◌, ◌/◌, ◌%◌, ◌&&◌, ◌||◌, not, inl, inr, ℕ, true, false, refl, sym, ◌∙◌, ap, arith, List, [], ◌∷◌, ◌++◌, length, get_or, take, set, cond, Bool}
use Rattle.std.specs.Prelude.{min, nat_lt, nat_le, nat_eq, sum, count_by, slice_index, if◌then◌else◌}
use Rattle.std.specs.List.{sum_by, AllByRecursion}
use Rattle.std.proofs.Math.Nat.{min-le_right}
use Rattle.std.proofs.lemmas.Bool.{cases_Bool, cases_eq, cases_order, and_parts, agree_below_at, eqb-true, eq-eqb, ne_eqb, leb-true, lt-ltb, ltb-true}
use Rattle.std.proofs.lemmas.List.{length_push, get_or-set_same, get_or-set_other, length-set, length-replicate, get_or-replicate, append_assoc, append-nil}
use Rattle.std.proofs.lemmas.List.Sums.{count_by-le-length, sum_by-cons, sum_by-set, sum_by_push, sum_by_from}
use Rattle.prob_contexts.specs.declared.kind.CountedBool.{CountedBool}
use Rattle.prob_contexts.specs.declared.kind.ProbKind.{ProbKind}
use Rattle.prob_contexts.specs.declared.kind.ProbKind.TheVariants as kind
use Rattle.prob_contexts.specs.Kinds.{kind_number, kind_size, kind_sizes}
use Rattle.prob_contexts.specs.Code.{StandFor, kind_start, no_counts, with_bool, counts_after, counter_place, counter_of}
use Rattle.prob_contexts.specs.Counted.{IsCounted, most_counted, bool_number, is_same, times_counted}

number_low : (k : ProbKind) → kind_number k < 23
number_low kind.Tx8x8 = omega arith
number_low kind.Tx16x16 = omega arith
number_low kind.Tx32x32 = omega arith
number_low kind.Coef = omega arith
number_low kind.Skip = omega arith
number_low kind.InterMode = omega arith
number_low kind.Filter = omega arith
number_low kind.IsInter = omega arith
number_low kind.CompoundFlag = omega arith
number_low kind.SingleReference = omega arith
number_low kind.CompoundReference = omega arith
number_low kind.YMode = omega arith
number_low kind.UvMode = omega arith
number_low kind.Partition = omega arith
number_low kind.VectorJoint = omega arith
number_low kind.VectorSign = omega arith
number_low kind.VectorClass = omega arith
number_low kind.VectorClass0 = omega arith
number_low kind.VectorBit = omega arith
number_low kind.VectorClass0Fraction = omega arith
number_low kind.VectorFraction = omega arith
number_low kind.VectorClass0High = omega arith
number_low kind.VectorHigh = omega arith

abbrev start_of : ℕ → ℕ
start_of n = sum (take n kind_sizes)

-- a list ends where the next one starts, or before
apart : ℕ → ℕ → Bool
apart a b = not (nat_lt a b) || nat_le (sum (take a kind_sizes) + slice_index kind_sizes a) (sum (take b kind_sizes))

all_apart : (a b : ℕ) → a < 23 → b < 23 → apart a b ≡ true
unfolding apart
all_apart a b la lb =
    let row : 23 * a + b < 529 = omega arith in
    let up : (23 * a + b) / 23 ≡ a = omega arith in
    let low : (23 * a + b) % 23 ≡ b = omega arith in
    rw (up, low) at (agree_below_at (λ n. apart (n / 23) (n % 23)) (λ _. true) 529 (23 * a + b) refl row)

apart_le : (a b : ℕ) → a < b → b < 23 → start_of a + slice_index kind_sizes a ≤ start_of b
unfolding apart
apart_le a b lt low =
    leb-true (start_of a + slice_index kind_sizes a) (start_of b) (rw (lt-ltb a b lt) at (all_apart a b (omega arith) low))

-- the lists of two kinds don't meet
same_kind : (a b p q : ℕ) → a < 23 → b < 23 → p < slice_index kind_sizes a → q < slice_index kind_sizes b
    → start_of a + p ≡ start_of b + q → a ≡ b
same_kind a b p q la lb lp lq e = elim (cases_order a b) [
  | inl same ↦ same
  | inr other ↦ elim other [
    | inl less ↦ let gap = apart_le a b less lb in omega arith
    | inr more ↦ let gap = apart_le b a more la in omega arith
  ]
]

-- a counter's place says which bool it counts
same_bool : (a b : CountedBool) → IsCounted a → IsCounted b → counter_place a ≡ counter_place b → is_same a b ≡ true
same_bool a b la lb e =
    let low = bool_low a.one in
    let low' = bool_low b.one in
    let bools : bool_number a.one ≡ bool_number b.one = omega arith in
    let nodes : kind_start a.kind + a.place ≡ kind_start b.kind + b.place = omega arith in
    let kinds = same_kind (kind_number a.kind) (kind_number b.kind) a.place b.place (number_low a.kind) (number_low b.kind) la lb nodes in
    let starts : kind_start a.kind ≡ kind_start b.kind = ap start_of kinds in
    let places : a.place ≡ b.place = omega arith in
    rw (eq-eqb (kind_number a.kind) (kind_number b.kind) kinds, eq-eqb a.place b.place places, eq-eqb (bool_number a.one) (bool_number b.one) bools) refl
  where
    bool_low : (b : Bool) → bool_number b < 2
    bool_low true = omega arith
    bool_low false = omega arith

same_place : (a b : CountedBool) → is_same a b ≡ true → counter_place a ≡ counter_place b
same_place a b t =
    let one = and_parts (nat_eq (kind_number a.kind) (kind_number b.kind)) (nat_eq a.place b.place && nat_eq (bool_number a.one) (bool_number b.one)) t in
    let two = and_parts (nat_eq a.place b.place) (nat_eq (bool_number a.one) (bool_number b.one)) one.1 in
    let kinds : kind_number a.kind ≡ kind_number b.kind = eqb-true _ _ one.0 in
    let starts : kind_start a.kind ≡ kind_start b.kind = ap start_of kinds in
    let places : a.place ≡ b.place = eqb-true _ _ two.0 in
    let bools : bool_number a.one ≡ bool_number b.one = eqb-true _ _ two.1 in
    rw (starts, places, bools) refl

pub place_low : (b : CountedBool) → IsCounted b → counter_place b < 3790
place_low b lb = let last = last_low (kind_number b.kind) (number_low b.kind) in let one = bool_low b.one in omega arith
  where
    bool_low : (b : Bool) → bool_number b < 2
    bool_low true = omega arith
    bool_low false = omega arith

    last_low : (n : ℕ) → n < 23 → start_of n + slice_index kind_sizes n ≤ 1895
    last_low n low = leb-true (start_of n + slice_index kind_sizes n) 1895 (agree_below_at (λ n. nat_le (start_of n + slice_index kind_sizes n) 1895) (λ _. true) 23 n refl low)

---- One more bool ----

abbrev one_set : List ℕ → CountedBool → List ℕ
one_set counts b = set counts (counter_place b) (min (counter_of counts b + 1) most_counted)

with_counted : (counts : List ℕ) (b : CountedBool) → IsCounted b → with_bool counts b ≡ one_set counts b
unfolding with_bool
with_counted counts b lb = rw (lt-ltb b.place (kind_size b.kind) lb) refl

pub if_by : {A : Type 0} (P : A → Type 0) (t : Bool) (x y : A) → P x → P y → P (if t then x else y)
if_by P true x y p q = p
if_by P false x y p q = q

pub length_with : (counts : List ℕ) (b : CountedBool) → length (with_bool counts b) ≡ length counts
unfolding with_bool
length_with counts b = if_by (λ l. length l ≡ length counts) (nat_lt b.place (kind_size b.kind)) (one_set counts b) counts (length-set _ _ _) refl

-- it is counted at a place
abbrev pub counts_at : ℕ → CountedBool → Bool
counts_at i b = nat_lt b.place (kind_size b.kind) && nat_eq (counter_place b) i

one_at_place : (counts : List ℕ) (i p : ℕ) (t : Bool) → i < length counts → get_or counts i 0 ≤ most_counted
    → get_or (if t then set counts p (min (get_or counts p 0 + 1) most_counted) else counts) i 0 ≡ min (get_or counts i 0 + cond (t && nat_eq p i) 1 0) most_counted
one_at_place counts i p true low most = elim (cases_eq p i) [
  | inl here ↦ rw (eq-eqb p i here, here) (get_or-set_same counts i (min (get_or counts i 0 + 1) most_counted) 0 low)
  | inr there ↦ rw (ne_eqb p i there) (get_or-set_other counts p i (min (get_or counts p 0 + 1) most_counted) 0 (λ e. there (sym e)) ∙ omega (arith, most))
]
one_at_place counts i p false low most = omega (arith, most)

bool_at_place : (counts : List ℕ) (b : CountedBool) (i : ℕ) → i < length counts → get_or counts i 0 ≤ most_counted
    → get_or (with_bool counts b) i 0 ≡ min (get_or counts i 0 + cond (counts_at i b) 1 0) most_counted
unfolding with_bool
bool_at_place counts b i low most = one_at_place counts i (counter_place b) (nat_lt b.place (kind_size b.kind)) low most

---- All bools ----

sums : (c d n : ℕ) → min (min (c + d) most_counted + n) most_counted ≡ min (c + (d + n)) most_counted
sums c d n = omega arith

pub counter_after : (counts : List ℕ) (bools : List CountedBool) (i : ℕ) → i < length counts → get_or counts i 0 ≤ most_counted
    → get_or (counts_after counts bools) i 0 ≡ min (get_or counts i 0 + count_by (counts_at i) bools) most_counted
unfolding counts_after
counter_after counts [] i low most = omega (arith, most)
counter_after counts (b ∷ bools) i low most =
    let now = bool_at_place counts b i low most in
    let here : i < length (with_bool counts b) = omega (arith, low, length_with counts b) in
    let within : get_or (with_bool counts b) i 0 ≤ most_counted = rw now (min-le_right (get_or counts i 0 + cond (counts_at i b) 1 0) most_counted) in
    let count : count_by (counts_at i) (b ∷ bools) ≡ cond (counts_at i b) 1 0 + count_by (counts_at i) bools = sum_by-cons (λ x. cond (counts_at i x) 1 0) b bools in
    counter_after (with_bool counts b) bools i here within
    ∙ (ap (λ c. min (c + count_by (counts_at i) bools) most_counted) now
    ∙ (sums (get_or counts i 0) (cond (counts_at i b) 1 0) (count_by (counts_at i) bools) ∙ ap (λ n. min (get_or counts i 0 + n) most_counted) (sym count)))

counts_there : (b x : CountedBool) → IsCounted b → is_same b x ≡ true → counts_at (counter_place b) x ≡ true
counts_there b x lb t =
    let one = and_parts (nat_eq (kind_number b.kind) (kind_number x.kind)) (nat_eq b.place x.place && nat_eq (bool_number b.one) (bool_number x.one)) t in
    let two = and_parts (nat_eq b.place x.place) (nat_eq (bool_number b.one) (bool_number x.one)) one.1 in
    let kinds : kind_number b.kind ≡ kind_number x.kind = eqb-true _ _ one.0 in
    let sizes : kind_size b.kind ≡ kind_size x.kind = ap (slice_index kind_sizes) kinds in
    let places : b.place ≡ x.place = eqb-true _ _ two.0 in
    let low : x.place < kind_size x.kind = omega (arith, lb, sizes, places) in
    rw (lt-ltb x.place (kind_size x.kind) low, eq-eqb (counter_place x) (counter_place b) (sym (same_place b x t))) refl

counts_elsewhere : (b x : CountedBool) → IsCounted b → is_same b x ≡ false → counts_at (counter_place b) x ≡ false
counts_elsewhere b x lb other = elim (cases_Bool (nat_lt x.place (kind_size x.kind))) [
  | inl inside ↦ elim (cases_eq (counter_place x) (counter_place b)) [
    | inl here ↦
        let same = same_bool b x lb (ltb-true x.place (kind_size x.kind) inside) (sym here) in
        let no : ⊥ = cc in
        absurd no
    | inr there ↦ rw (inside, ne_eqb (counter_place x) (counter_place b) there) refl
  ]
  | inr outside ↦ rw outside refl
]

same_counts : (b x : CountedBool) → IsCounted b → counts_at (counter_place b) x ≡ is_same b x
same_counts b x lb = elim (cases_Bool (is_same b x)) [
  | inl same ↦ counts_there b x lb same ∙ sym same
  | inr other ↦ counts_elsewhere b x lb other ∙ sym other
]

count_same : (p q : CountedBool → Bool) → ((x : CountedBool) → p x ≡ q x) → (xs : List CountedBool) → count_by p xs ≡ count_by q xs
count_same p q same [] = refl
count_same p q same (x ∷ xs) =
    sum_by-cons (λ x. cond (p x) 1 0) x xs
    ∙ (ap (λ t. cond t 1 0 + count_by p xs) (same x) ∙ (ap (λ n. cond (q x) 1 0 + n) (count_same p q same xs) ∙ sym (sum_by-cons (λ x. cond (q x) 1 0) x xs)))

-- a counter tells how often its bool was counted
pub counter_is : (bools : List CountedBool) (b : CountedBool) → IsCounted b → counter_of (counts_after no_counts bools) b ≡ times_counted bools b
unfolding times_counted
counter_is bools b lb =
    let at_none : get_or no_counts (counter_place b) 0 ≡ 0 = get_or-replicate 3790 (counter_place b) 0 0 (place_low b lb) in
    let low : counter_place b < length no_counts = rw (length-replicate {A = ℕ} 3790 0) (place_low b lb) in
    let within : get_or no_counts (counter_place b) 0 ≤ most_counted = omega (arith, at_none) in
    let count = count_same (counts_at (counter_place b)) (is_same b) (λ x. same_counts b x lb) bools in
    counter_after no_counts bools (counter_place b) low within
    ∙ ap (λ n. min n most_counted) (ap (λ c. c + count_by (counts_at (counter_place b)) bools) at_none ∙ (from_none (count_by (counts_at (counter_place b)) bools) ∙ count))
  where
    from_none : (n : ℕ) → 0 + n ≡ n
    from_none n = omega arith

---- Fewer than 2 ^ 64 bools ----

count_push : (p : CountedBool → Bool) (xs : List CountedBool) (x : CountedBool) → count_by p (xs ++ x ∷ []) ≡ count_by p xs + cond (p x) 1 0
count_push p xs x = sum_by_push (λ x. cond (p x) 1 0) xs x

pub none_stand : StandFor no_counts []
none_stand = record { size = length-replicate {A = ℕ} 3790 0; each = λ b lb. let low = place_low b lb in rw get_or-replicate refl; all = refl }

total_more : (xs : List ℕ) (i : ℕ) → i < length xs → sum (set xs i (get_or xs i 0 + 1)) ≡ sum xs + 1
total_more xs i low =
    let as_before : sum xs ≡ sum_by (λ x. x) xs = sum_by_from (λ x. x) 0 xs ∙ omega arith in
    let as_after : sum (set xs i (get_or xs i 0 + 1)) ≡ sum_by (λ x. x) (set xs i (get_or xs i 0 + 1)) = sum_by_from (λ x. x) 0 (set xs i (get_or xs i 0 + 1)) ∙ omega arith in
    let step = sum_by-set (λ x. x) xs i (get_or xs i 0 + 1) 0 low in
    omega arith

pub one_more : (counts : List ℕ) (bools : List CountedBool) (b : CountedBool) → StandFor counts bools → IsCounted b → length bools < 2 ^ 64 - 1 → StandFor (with_bool counts b) (bools ++ b ∷ [])
one_more counts bools b s lb few =
    let low : counter_place b < length counts = rw s.size (place_low b lb) in
    let most : counter_of counts b ≤ length bools = rw (s.each b lb) (count_by-le-length (is_same b) bools) in
    let plain : min (counter_of counts b + 1) most_counted ≡ counter_of counts b + 1 = omega arith in
    rw (with_counted counts b lb, plain) record {
      size = length-set _ _ _ ∙ s.size;
      each = λ a la. rw (count_push (is_same a) bools b, sym (s.each a la)) (elim (cases_Bool (is_same a b)) [
        | inl same ↦ rw (same, same_place a b same) (get_or-set_same counts (counter_place b) (counter_of counts b + 1) 0 low)
        | inr other ↦ rw other (get_or-set_other counts (counter_place b) (counter_place a) (counter_of counts b + 1) 0 (λ e. absurd (cc' a b la lb e other)) ∙ omega arith)
      ]);
      all = total_more counts (counter_place b) low ∙ (rw s.all (sym (length_push bools b)));
    }
  where
    cc' : (a b : CountedBool) → IsCounted a → IsCounted b → counter_place a ≡ counter_place b → is_same a b ≡ false → ⊥
    cc' a b la lb e other = let yes = same_bool a b la lb e in cc

pub all_more : (counts : List ℕ) (bools more : List CountedBool) → StandFor counts bools → AllByRecursion IsCounted more → length bools + length more < 2 ^ 64 → StandFor (counts_after counts more) (bools ++ more)
unfolding counts_after
all_more counts bools [] s all few = rw append-nil s
all_more counts bools (b ∷ more) s all few =
    let first : length bools < 2 ^ 64 - 1 = omega arith in
    let rest : length (bools ++ b ∷ []) + length more < 2 ^ 64 = rw (length_push bools b) (omega arith) in
    rw append_assoc at (all_more (with_bool counts b) (bools ++ b ∷ []) more (one_more counts bools b s all.0 first) all.1 rest)
