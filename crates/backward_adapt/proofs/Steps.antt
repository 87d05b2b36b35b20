-- How lists follow their counts, place by place.
use Rattle.std.proofs.Common.{◌≡◌, ◌<◌, ◌+◌, ◌-◌, ℕ, inl, inr, zero, suc, true, false, refl, sym, ◌∙◌, ap, arith, List, [], ◌∷◌, ◌++◌, length, map, get_or, take, set}
use Rattle.std.specs.Prelude.{Option, Some, None}
use Rattle.std.specs.List.{range_with_len}
use Rattle.std.proofs.lemmas.Bool.{cases_lt}
use Rattle.std.proofs.lemmas.List.{length-append, get_or_append_left, get_or-append_right, ext_get_or, take_more_set}
use Rattle.std.proofs.lemmas.List.FromFn.{length-map-range_with_len, get_or-map-range_with_len, map-range_with_len_more}
use Rattle.prob_contexts.specs.declared.kind.CountedBool.{CountedBool}
use Rattle.prob_contexts.specs.declared.kind.ProbKind.{ProbKind}
use Rattle.backward_adapt.specs.declared.merge.Rate.{Rate}
use Rattle.backward_adapt.specs.declared.merge.Rate.TheVariants.{Coefs, CoefsAfterKey, Others}
use Rattle.backward_adapt.specs.Merge.{counted_prob, update_factor, merge_prob}
use Rattle.backward_adapt.specs.Adaptation.{adapted_prob, left_by}
use Rattle.backward_adapt.specs.Laws.{merge_probs}

abbrev pub one_at : Rate → (CountedBool → ℕ) → ProbKind → ℕ → ℕ → ℕ
one_at rate times kind place before = merge_prob rate before (times (left_by kind place false)) (times (left_by kind place true))

-- by a rate, as `adapted_from` is by a frame
abbrev pub adapted_by : Option Rate → (CountedBool → ℕ) → ProbKind → ℕ → List ℕ → List ℕ → List ℕ
adapted_by rate times kind from saved forward =
    map (λ k. adapted_prob rate times kind (from + k) (get_or saved k 0) (get_or forward k 0)) (range_with_len 0 (length saved))

-- the first ones of a list that is merged
abbrev pub first_merged : Rate → (CountedBool → ℕ) → ProbKind → ℕ → List ℕ → ℕ → List ℕ
first_merged rate times kind from saved n = map (λ k. one_at rate times kind (from + k) (get_or saved k 0)) (range_with_len 0 n)

-- a loop that merges in place: one more probability
pub adapt_step : (rate : Rate) (times : CountedBool → ℕ) (kind : ProbKind) (from : ℕ) (saved probs : List ℕ) (i y : ℕ)
    → i < length probs → take i probs ≡ first_merged rate times kind from saved i → y ≡ one_at rate times kind (from + i) (get_or saved i 0)
    → take (i + 1) (set probs i y) ≡ first_merged rate times kind from saved (i + 1)
adapt_step rate times kind from saved probs i y low before value =
    rw (take_more_set probs i y low, before, value) (sym (map-range_with_len_more (λ k. one_at rate times kind (from + k) (get_or saved k 0)) 0 i i (omega arith)))

-- a list that isn't adapted
pub all_kept : (rate : Option Rate) (times : CountedBool → ℕ) (kind : ProbKind) (from : ℕ) (saved forward : List ℕ)
    → rate ≡ None → length forward ≡ length saved → forward ≡ adapted_by rate times kind from saved forward
all_kept rate times kind from saved forward is same =
    let f : ℕ → ℕ = λ k. get_or forward k 0 in
    rw is (ext_get_or 0 forward (map f (range_with_len 0 (length saved))) (same ∙ sym (length-map-range_with_len f 0 (length saved)))
    (λ k low. sym (get_or-map-range_with_len f 0 (length saved) k k 0 (omega arith) (omega arith))))

-- a list that has at each place, from one of its kind on, what a rule makes of another list's number there
pub record IsMade (rule : ℕ → ℕ → ℕ) (from : ℕ) (old new : List ℕ) : Type 0 where
  pub size : length new ≡ length old
  pub each : (k : ℕ) → k < length old → get_or new k 0 ≡ rule (from + k) (get_or old k 0)

pub made : (rule : ℕ → ℕ → ℕ) (from : ℕ) (old : List ℕ) → IsMade rule from old (map (λ k. rule (from + k) (get_or old k 0)) (range_with_len 0 (length old)))
made rule from old =
    let f : ℕ → ℕ = λ k. rule (from + k) (get_or old k 0) in
    record {
      size = length-map-range_with_len f 0 (length old);
      each = λ k low. get_or-map-range_with_len f 0 (length old) k k 0 low (omega arith);
    }

pub made_joined : (rule : ℕ → ℕ → ℕ) (from next : ℕ) (xs ys us vs : List ℕ) → from + length xs ≡ next → IsMade rule from xs us → IsMade rule next ys vs
    → IsMade rule from (xs ++ ys) (us ++ vs)
made_joined rule from next xs ys us vs e left right = record {
  size = length-append us vs ∙ rw (left.size, right.size) (sym (length-append xs ys));
  each = λ k low. elim (cases_lt k (length xs)) [
    | inl inside ↦
        let there : k < length us = omega (arith, left.size) in
        rw (get_or_append_left xs ys 0 k inside, get_or_append_left us vs 0 k there) (left.each k inside)
    | inr past ↦
        let place : next + (k - length xs) ≡ from + k = omega arith in
        let low_in : k - length xs < length ys = omega (arith, length-append xs ys) in
        rw (get_or-append_right xs ys (length xs) k 0 refl past, get_or-append_right us vs (length xs) k 0 left.size past)
        (right.each (k - length xs) low_in ∙ ap (λ p. rule p (get_or ys (k - length xs) 0)) place)
  ];
}

-- merging one after another
in_order : (rate : Rate) (times : CountedBool → ℕ) (kind : ProbKind) (from : ℕ) (saved : List ℕ) → IsMade (one_at rate times kind) from saved (merge_probs rate times kind from saved)
unfolding merge_probs
in_order rate times kind from [] = record { size = refl; each = λ k low. let no : ⊥ = omega arith in absurd no }
in_order rate times kind from (x ∷ xs) =
    made_joined (one_at rate times kind) from (from + 1) (x ∷ []) xs (one_at rate times kind from x ∷ []) (merge_probs rate times kind (from + 1) xs)
    refl (record { size = refl; each = only rate times kind from x }) (in_order rate times kind (from + 1) xs)
  where
    only : (rate : Rate) (times : CountedBool → ℕ) (kind : ProbKind) (from x k : ℕ) → k < 1
        → get_or (one_at rate times kind from x ∷ []) k 0 ≡ one_at rate times kind (from + k) (get_or (x ∷ []) k 0)
    only rate times kind from x zero low = let e : from ≡ from + 0 = omega arith in ap (λ p. one_at rate times kind p x) e
    only rate times kind from x (suc k) low = let no : ⊥ = omega arith in absurd no

pub merged_in_order : (rate : Option Rate) (r : Rate) (times : CountedBool → ℕ) (kind : ProbKind) (from : ℕ) (saved forward : List ℕ)
    → rate ≡ Some r → adapted_by rate times kind from saved forward ≡ merge_probs r times kind from saved
merged_in_order rate r times kind from saved forward is =
    let whole : IsMade (one_at r times kind) from saved (first_merged r times kind from saved (length saved)) = made (one_at r times kind) from saved in
    let walk = in_order r times kind from saved in
    rw is (ext_get_or 0 (first_merged r times kind from saved (length saved)) (merge_probs r times kind from saved) (whole.size ∙ sym walk.size)
    (λ k low. let low_in : k < length saved = omega (arith, whole.size) in whole.each k low_in ∙ sym (walk.each k low_in)))

-- what wasn't counted stays
unchanged : (rate : Rate) (before : ℕ) → merge_prob rate before 0 0 ≡ before
unfolding merge_prob update_factor counted_prob
unchanged Coefs before = omega arith
unchanged CoefsAfterKey before = omega arith
unchanged Others before = omega arith

pub uncoded : (rate : Option Rate) (times : CountedBool → ℕ) (kind : ProbKind) (place saved forward : ℕ)
    → times (left_by kind place false) + times (left_by kind place true) ≡ 0 → forward ≡ saved → adapted_prob rate times kind place saved forward ≡ forward
uncoded (Some rate) times kind place saved forward none same =
    let zeros : times (left_by kind place false) ≡ 0 = omega arith in
    let ones : times (left_by kind place true) ≡ 0 = omega arith in
    rw (zeros, ones, unchanged rate saved) (sym same)
uncoded None times kind place saved forward none same = refl
