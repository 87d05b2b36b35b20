-- Counts of two parts added up.
use Rattle.std.proofs.Common.{◌≡◌, ◌<◌, ◌≤◌, ◌+◌, ◌^◌, ℕ, zero, suc, refl, sym, ◌∙◌, ap, arith, List, [], ◌∷◌, ◌++◌, length, get_or, take, drop, set, cond}
use Rattle.std.specs.Prelude.{Bool, true, false, replicate, min, nat_lt, sum, count_by, if◌then◌else◌}
use Rattle.std.specs.List.{sum_by}
use Rattle.std.proofs.lemmas.List.{length-append, length-replicate, get_or-drop, drop-drop, drop-set-lt, length-take-le, take_more_set}
use Rattle.std.proofs.Math.Nat.{min-le_right}
use Rattle.std.proofs.lemmas.Grind.{take_at_read}
use Rattle.std.proofs.lemmas.List.Sums.{count_by-le-length, sum_by-append, sum_by_from}
use Rattle.prob_contexts.specs.declared.kind.CountedBool.{CountedBool}
use Rattle.prob_contexts.specs.Kinds.{kind_size}
use Rattle.prob_contexts.specs.Code.{StandFor, counter_place, counter_of, joined_counts, counts_after, with_bool, no_counts}
use Rattle.prob_contexts.specs.Counted.{most_counted, is_same}
use Rattle.prob_contexts.proofs.Counting.{if_by, length_with, place_low}

length_joined : (a b : List ℕ) → length b ≡ length a → length (joined_counts a b) ≡ length a
unfolding joined_counts
length_joined [] b e = refl
length_joined (x ∷ xs) [] e = let no : ⊥ = cc in absurd no
length_joined (x ∷ xs) (y ∷ ys) e = ap suc (length_joined xs ys (omega arith))

get_or-joined : (a b : List ℕ) (i : ℕ) → i < length a → i < length b → get_or (joined_counts a b) i 0 ≡ min (get_or a i 0 + get_or b i 0) most_counted
unfolding joined_counts
get_or-joined [] b i low low' = let no : ⊥ = omega arith in absurd no
get_or-joined (x ∷ xs) [] i low low' = let no : ⊥ = omega arith in absurd no
get_or-joined (x ∷ xs) (y ∷ ys) zero low low' = refl
get_or-joined (x ∷ xs) (y ∷ ys) (suc i) low low' = get_or-joined xs ys i (omega arith) (omega arith)

sum_first : (x : ℕ) (xs : List ℕ) → sum_by (λ x. x) (x ∷ xs) ≡ x + sum_by (λ x. x) xs
sum_first x xs =
    let split : sum_by (λ x. x) (x ∷ xs) ≡ 0 + x + sum_by (λ x. x) xs = sum_by-append (λ x. x) (x ∷ []) xs in
    split ∙ omega arith

sum-joined : (a b : List ℕ) → length b ≡ length a → sum_by (λ x. x) a + sum_by (λ x. x) b < 2 ^ 64 → sum_by (λ x. x) (joined_counts a b) ≡ sum_by (λ x. x) a + sum_by (λ x. x) b
unfolding joined_counts
sum-joined [] [] e few = refl
sum-joined [] (y ∷ ys) e few = let no : ⊥ = cc in absurd no
sum-joined (x ∷ xs) [] e few = let no : ⊥ = cc in absurd no
sum-joined (x ∷ xs) (y ∷ ys) e few =
    let few' : (x + sum_by (λ x. x) xs) + (y + sum_by (λ x. x) ys) < 2 ^ 64 = rw (sum_first x xs, sum_first y ys) at few in
    let rest : sum_by (λ x. x) (joined_counts xs ys) ≡ sum_by (λ x. x) xs + sum_by (λ x. x) ys = sum-joined xs ys (omega arith) (omega arith) in
    let whole : min (x + y) most_counted + sum_by (λ x. x) (joined_counts xs ys) ≡ (x + sum_by (λ x. x) xs) + (y + sum_by (λ x. x) ys) = omega arith in
    sum_first (min (x + y) most_counted) (joined_counts xs ys) ∙ whole ∙ rw (sum_first x xs, sum_first y ys) refl

total : (xs : List ℕ) → sum xs ≡ sum_by (λ x. x) xs
total xs = sum_by_from (λ x. x) 0 xs ∙ omega arith

pub both_stand : (counts others : List ℕ) (bools more : List CountedBool) → StandFor counts bools → StandFor others more
    → length bools + length more < 2 ^ 64 → StandFor (joined_counts counts others) (bools ++ more)
both_stand counts others bools more s t few =
    let same : length others ≡ length counts = t.size ∙ sym s.size in
    let sums = sum-joined counts others same (rw (sym (total counts), sym (total others), s.all, t.all) few) in
    record {
      size = length_joined counts others same ∙ s.size;
      each = λ b lb.
          let low = place_low b lb in
          let here = get_or-joined counts others (counter_place b) (rw s.size low) (rw t.size low) in
          let one = count_by-le-length (is_same b) bools in
          let two = count_by-le-length (is_same b) more in
          let first = s.each b lb in
          let second = t.each b lb in
          let both : count_by (is_same b) (bools ++ more) ≡ count_by (is_same b) bools + count_by (is_same b) more = sum_by-append (λ x. cond (is_same b x) 1 0) bools more in
          let value : min (counter_of counts b + counter_of others b) most_counted ≡ count_by (is_same b) bools + count_by (is_same b) more = rw (first, second) (omega arith) in
          here ∙ value ∙ sym both;
      all = total (joined_counts counts others) ∙ sums ∙ rw (sym (total counts), sym (total others), s.all, t.all) (sym (length-append bools more));
    }

-- a loop that adds in place: one more counter
pub one_more_joined : (a b : List ℕ) (x y : ℕ) → length b ≡ length a → joined_counts (a ++ x ∷ []) (b ++ y ∷ []) ≡ joined_counts a b ++ min (x + y) most_counted ∷ []
unfolding joined_counts
one_more_joined [] [] x y e = refl
one_more_joined [] (z ∷ zs) x y e = let no : ⊥ = cc in absurd no
one_more_joined (w ∷ ws) [] x y e = let no : ⊥ = cc in absurd no
one_more_joined (w ∷ ws) (z ∷ zs) x y e = ap (λ r. min (w + z) most_counted ∷ r) (one_more_joined ws zs x y (omega arith))

pub add_step : (now initial more : List ℕ) (i r : ℕ) → i < length now → length now ≡ length initial → length more ≡ length initial
    → take i now ≡ joined_counts (take i initial) (take i more) → drop i now ≡ drop i initial
    → r ≡ min (get_or now i 0 + get_or more i 0) most_counted
    → take (i + 1) (set now i r) ≡ joined_counts (take (i + 1) initial) (take (i + 1) more)
add_step now initial more i r low same same' before rest value =
    let at : i + 0 ≡ i = omega arith in
    let here : get_or now i 0 ≡ get_or initial i 0 =
    ap (λ j. get_or now j 0) (sym at) ∙ sym (get_or-drop i now 0 0) ∙ ap (λ l. get_or l 0 0) rest ∙ get_or-drop i initial 0 0 ∙ ap (λ j. get_or initial j 0) at in
    let grown : take (i + 1) initial ≡ take i initial ++ get_or initial i 0 ∷ [] = (take_at_read initial i 0 (omega arith)).1 in
    let others : take (i + 1) more ≡ take i more ++ get_or more i 0 ∷ [] = (take_at_read more i 0 (omega arith)).1 in
    let sizes : length (take i more) ≡ length (take i initial) = length-take-le i more (omega arith) ∙ sym (length-take-le i initial (omega arith)) in
    rw (take_more_set now i r low, before, grown, others, one_more_joined (take i initial) (take i more) (get_or initial i 0) (get_or more i 0) sizes, value, here) refl

pub rest_step : (now initial : List ℕ) (i r : ℕ) → drop i now ≡ drop i initial → drop (i + 1) (set now i r) ≡ drop (i + 1) initial
rest_step now initial i r rest =
    drop-set-lt (i + 1) now i r (omega arith) ∙ sym (drop-drop 1 i now) ∙ ap (λ l. drop 1 l) rest ∙ drop-drop 1 i initial

-- adding the counts of more bools is counting these
joined_set : (c d : List ℕ) (p : ℕ) → length d ≡ length c
    → joined_counts c (set d p (min (get_or d p 0 + 1) most_counted)) ≡ set (joined_counts c d) p (min (get_or (joined_counts c d) p 0 + 1) most_counted)
unfolding joined_counts
joined_set [] [] p e = refl
joined_set [] (y ∷ ys) p e = let no : ⊥ = cc in absurd no
joined_set (x ∷ xs) [] p e = let no : ⊥ = cc in absurd no
joined_set (x ∷ xs) (y ∷ ys) zero e =
    let one : min (x + min (y + 1) most_counted) most_counted ≡ min (min (x + y) most_counted + 1) most_counted = omega arith in
    ap (λ n. n ∷ joined_counts xs ys) one
joined_set (x ∷ xs) (y ∷ ys) (suc p) e = ap (λ r. min (x + y) most_counted ∷ r) (joined_set xs ys p (omega arith))

joined_if : (t : Bool) (c d : List ℕ) (p : ℕ) → length d ≡ length c
    → joined_counts c (if t then set d p (min (get_or d p 0 + 1) most_counted) else d)
    ≡ (if t then set (joined_counts c d) p (min (get_or (joined_counts c d) p 0 + 1) most_counted) else joined_counts c d)
joined_if true c d p e = joined_set c d p e
joined_if false c d p e = refl

joined_with : (counts others : List ℕ) (b : CountedBool) → length others ≡ length counts
    → joined_counts counts (with_bool others b) ≡ with_bool (joined_counts counts others) b
unfolding with_bool
joined_with counts others b e = joined_if (nat_lt b.place (kind_size b.kind)) counts others (counter_place b) e

pub counted_on : (counts others : List ℕ) (more : List CountedBool) → length others ≡ length counts
    → joined_counts counts (counts_after others more) ≡ counts_after (joined_counts counts others) more
unfolding counts_after
counted_on counts others [] e = refl
counted_on counts others (b ∷ more) e =
    counted_on counts (with_bool others b) more (length_with others b ∙ e)
    ∙ ap (λ l. counts_after l more) (joined_with counts others b e)

none_joined : (counts : List ℕ) (n : ℕ) → length counts ≡ n → ((k : ℕ) → get_or counts k 0 ≤ most_counted) → joined_counts counts (replicate n 0) ≡ counts
unfolding joined_counts
none_joined [] n e within = refl
none_joined (x ∷ xs) zero e within = let no : ⊥ = cc in absurd no
none_joined (x ∷ xs) (suc n) e within =
    let first : x ≤ most_counted = within 0 in
    let one : min (x + 0) most_counted ≡ x = omega arith in
    rw one (ap (λ r. x ∷ r) (none_joined xs n (omega arith) (λ k. within (suc k))))

pub added : (counts : List ℕ) (more : List CountedBool) → length counts ≡ 3790 → ((k : ℕ) → get_or counts k 0 ≤ most_counted)
    → joined_counts counts (counts_after no_counts more) ≡ counts_after counts more
added counts more e within =
    counted_on counts no_counts more (length-replicate {A = ℕ} 3790 0 ∙ sym e) ∙ ap (λ l. counts_after l more) (none_joined counts 3790 e within)

after_both : (counts : List ℕ) (bools more : List CountedBool) → counts_after counts (bools ++ more) ≡ counts_after (counts_after counts bools) more
unfolding counts_after
after_both counts [] more = refl
after_both counts (b ∷ bools) more = after_both (with_bool counts b) bools more

pub length_after : (counts : List ℕ) (bools : List CountedBool) → length (counts_after counts bools) ≡ length counts
unfolding counts_after
length_after counts [] = refl
length_after counts (b ∷ bools) = length_after (with_bool counts b) bools ∙ length_with counts b

set_within : (xs : List ℕ) (i v : ℕ) → v ≤ most_counted → ((k : ℕ) → get_or xs k 0 ≤ most_counted) → (k : ℕ) → get_or (set xs i v) k 0 ≤ most_counted
set_within [] i v low within k = within k
set_within (x ∷ xs) zero v low within zero = low
set_within (x ∷ xs) zero v low within (suc k) = within (suc k)
set_within (x ∷ xs) (suc i) v low within zero = within 0
set_within (x ∷ xs) (suc i) v low within (suc k) = set_within xs i v low (λ j. within (suc j)) k

with_within : (counts : List ℕ) (b : CountedBool) → ((k : ℕ) → get_or counts k 0 ≤ most_counted) → (k : ℕ) → get_or (with_bool counts b) k 0 ≤ most_counted
unfolding with_bool
with_within counts b within =
    if_by (λ l. (k : ℕ) → get_or l k 0 ≤ most_counted) (nat_lt b.place (kind_size b.kind)) (set counts (counter_place b) (min (counter_of counts b + 1) most_counted)) counts
    (set_within counts (counter_place b) (min (counter_of counts b + 1) most_counted) (min-le_right (counter_of counts b + 1) most_counted) within) within

after_within : (counts : List ℕ) (bools : List CountedBool) → ((k : ℕ) → get_or counts k 0 ≤ most_counted) → (k : ℕ) → get_or (counts_after counts bools) k 0 ≤ most_counted
unfolding counts_after
after_within counts [] within = within
after_within counts (b ∷ bools) within = after_within (with_bool counts b) bools (with_within counts b within)

none_within : (n k : ℕ) → get_or (replicate n 0) k 0 ≤ most_counted
none_within zero k = omega arith
none_within (suc n) zero = omega arith
none_within (suc n) (suc k) = none_within n k

pub parts_joined : (bools more : List CountedBool) → joined_counts (counts_after no_counts bools) (counts_after no_counts more) ≡ counts_after no_counts (bools ++ more)
parts_joined bools more =
    added (counts_after no_counts bools) more (length_after no_counts bools ∙ length-replicate {A = ℕ} 3790 0) (after_within no_counts bools (none_within 3790))
    ∙ sym (after_both no_counts bools more)
