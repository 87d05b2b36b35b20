-- Counts don't depend on the order in which bools are counted, and those of parts add up.
use Rattle.std.proofs.Common.{◌≡◌, ◌∙◌, ◌++◌, ℕ, zero, suc, ◌+◌, ◌<◌, ◌≤◌, Bool, List, length, refl, sym, ap, arith, cond, append_assoc}
use Rattle.std.specs.Prelude.{get_or, count_by, sum_by, min}
use Rattle.std.specs.List.{flat_map, range_with_len}
use Rattle.std.proofs.lemmas.List.{ext_get_or, get_or-replicate, length-replicate, append-nil}
use Rattle.std.proofs.lemmas.List.Sums.{sum_by-cons, sum_by-append}
use Rattle.prob_contexts.specs.Counted.{most_counted}
use Rattle.prob_contexts.specs.Code.{counts_after, joined_counts, no_counts}
use Rattle.prob_contexts.specs.declared.kind.CountedBool.{CountedBool}
use Rattle.prob_contexts.proofs.Counting.{counter_after, counts_at}
use Rattle.prob_contexts.proofs.Joining.{length_after, parts_joined}
use Rattle.frame_state.specs.Laws.{counts_of_all}

flat_more : {A : Type 0} (f : ℕ → List A) (a n : ℕ) → flat_map f (range_with_len a (suc n)) ≡ flat_map f (range_with_len a n) ++ f (a + n)
flat_more f a zero = let here : a + 0 ≡ a = omega arith in rw here (append-nil (f a))
flat_more f a (suc n) =
    let place : a + suc n ≡ a + 1 + n = omega arith in
    rw place (ap (λ xs. f a ++ xs) (flat_more f (a + 1) n) ∙ sym (append_assoc (f a) (flat_map f (range_with_len (a + 1) n)) (f (a + 1 + n))))

pub flat_first : {A : Type 0} (f : ℕ → List A) (n : ℕ) → flat_map f (range_with_len 0 (suc n)) ≡ flat_map f (range_with_len 0 n) ++ f n
flat_first {A} f n = let here : 0 + n ≡ n = omega arith in rw here at (flat_more {A = A} f 0 n)

-- the same bools in another order come to the same counts
pub in_any_order : (xs ys : List CountedBool) → ((which : CountedBool → Bool) → count_by which xs ≡ count_by which ys) → counts_after no_counts xs ≡ counts_after no_counts ys
in_any_order xs ys same =
    let long = length-replicate {A = ℕ} 3790 0 in
    ext_get_or 0 (counts_after no_counts xs) (counts_after no_counts ys) (length_after no_counts xs ∙ sym (length_after no_counts ys))
    (λ i low.
    let below : i < length no_counts = omega (arith, low, length_after no_counts xs) in
    let none : get_or no_counts i 0 ≤ most_counted = let is : get_or no_counts i 0 ≡ 0 = get_or-replicate 3790 i 0 0 (omega (arith, below, long)) in omega (arith, is) in
    counter_after no_counts xs i below none ∙ (ap (λ n. min (get_or no_counts i 0 + n) most_counted) (same (counts_at i)) ∙ sym (counter_after no_counts ys i below none)))

-- the counts of all parts
joined_parts : (counted : ℕ → List CountedBool) (n : ℕ) → counts_of_all counted n ≡ counts_after no_counts (flat_map counted (range_with_len 0 n))
unfolding counts_after
joined_parts counted zero = refl
joined_parts counted (suc n) =
    ap (λ c. joined_counts c (counts_after no_counts (counted n))) (joined_parts counted n)
    ∙ (parts_joined (flat_map counted (range_with_len 0 n)) (counted n) ∙ ap (counts_after no_counts) (sym (flat_first counted n)))

count_parts : (p : CountedBool → Bool) (counted : ℕ → List CountedBool) (a n : ℕ) → count_by p (flat_map counted (range_with_len a n)) ≡ sum_by (λ k. count_by p (counted k)) (range_with_len a n)
count_parts p counted a zero = refl
count_parts p counted a (suc n) =
    sum_by-append (λ x. cond (p x) 1 0) (counted a) (flat_map counted (range_with_len (a + 1) n))
    ∙ (ap (λ m. count_by p (counted a) + m) (count_parts p counted (a + 1) n) ∙ sym (sum_by-cons (λ k. count_by p (counted k)) a (range_with_len (a + 1) n)))

pub parts_add_up : (bools : List CountedBool) (counted : ℕ → List CountedBool) (n : ℕ) → ((which : CountedBool → Bool) → count_by which bools ≡ sum_by (λ k. count_by which (counted k)) (range_with_len 0 n))
    → counts_after no_counts bools ≡ counts_of_all counted n
parts_add_up bools counted n same =
    in_any_order bools (flat_map counted (range_with_len 0 n)) (λ p. same p ∙ sym (count_parts p counted 0 n)) ∙ sym (joined_parts counted n)
