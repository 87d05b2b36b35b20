-- Levels placed in the order of a scan.
use Rattle.std.proofs.Common.{◌≡◌, ◌≢◌, ◌∙◌, ℕ, zero, suc, ◌+◌, ◌-◌, ◌<◌, ◌≤◌, ℤ, pos, true, false, not, ◌&&◌, ◌||◌, List, [], ◌∷◌, length, drop, refl, sym, ap, arith, inl, inr}
use Rattle.std.specs.Prelude.{nat_eq, nat_le, replicate, slice_index, slice_index_or, slice_set, unsigned_abs}
use Rattle.std.specs.List.{All, list_all}
use Rattle.std.proofs.lemmas.Bool.{and_parts, or_cases, eqb-true, leb-true, ltb-true}
use Rattle.std.proofs.lemmas.List.{drop_all, length-replicate, length-set}
use Rattle.std.proofs.lemmas.List.Elements.{All-head, All-tail, All-set, All-replicate}
use Rattle.vp9_types.specs.declared.shape.Depth.{Depth}
use Rattle.coef_tokens.specs.Places.{Tables}
use Rattle.token_writer.specs.TokenFits.{IsCoded, level_in, CanPut}
use Rattle.listed_symbols.specs.ListedLevels.{by_position, can_levels, ends, is_coded, is_zero, placed_from}

rest_from : (levels : List ℤ) (k : ℕ) → k < length levels → drop k levels ≡ slice_index_or levels k (pos 0) ∷ drop (suc k) levels
rest_from [] k low = absurd (omega (arith, low))
rest_from (level ∷ levels) zero low = refl
rest_from (level ∷ levels) (suc k) low = rest_from levels k (omega (arith, low))

next : (k : ℕ) → k + 1 ≡ suc k
next k = omega arith

pub placed_step : (scan : List ℕ) (levels values : List ℤ) (k : ℕ) → k < length levels
    → placed_from k scan (drop k levels) values ≡ placed_from (k + 1) scan (drop (k + 1) levels) (slice_set values (slice_index scan k) (slice_index_or levels k (pos 0)))
placed_step scan levels values k low = rw (next k, rest_from levels k low) refl

pub placed_all : (scan : List ℕ) (levels values : List ℤ) (k : ℕ) → length levels ≤ k → placed_from k scan (drop k levels) values ≡ values
placed_all scan levels values k all = rw (drop_all k levels all) refl

---- They can be put ----

beside : (xs : List ℤ) (k j : ℕ) (x : ℤ) → k ≢ j → level_in (slice_set xs k x) j ≡ level_in xs j
beside [] k j x other = refl
beside (y ∷ xs) zero zero x other = absurd (other refl)
beside (y ∷ xs) zero (suc j) x other = refl
beside (y ∷ xs) (suc k) zero x other = refl
beside (y ∷ xs) (suc k) (suc j) x other = beside xs k j x (λ same. other (ap (λ n. suc n) same))

there : (xs : List ℤ) (k : ℕ) (x : ℤ) → k < length xs → level_in (slice_set xs k x) k ≡ x
there [] k x low = absurd (omega (arith, low))
there (y ∷ xs) zero x low = refl
there (y ∷ xs) (suc k) x low = there xs k x (omega (arith, low))

zero_at : (n p : ℕ) → level_in (replicate n (pos 0)) p ≡ pos 0
zero_at zero p = refl
zero_at (suc n) zero = refl
zero_at (suc n) (suc p) = zero_at n p

at_within : (n : ℕ) (ps : List ℕ) (k : ℕ) → All (λ p. p < n) ps → k < length ps → slice_index ps k < n
at_within n [] k all low = absurd (omega (arith, low))
at_within n (p ∷ ps) zero all low = All-head (λ p. p < n) p ps all
at_within n (p ∷ ps) (suc k) all low = at_within n ps k (All-tail (λ p. p < n) p ps all) (omega (arith, low))

abbrev AreCoded : Depth → List ℤ → Type 0
AreCoded depth xs = All (λ level. IsCoded depth (unsigned_abs level)) xs

coded : (depth : Depth) (scan : List ℕ) (levels : List ℤ) (k : ℕ) (values : List ℤ) → list_all (is_coded depth) levels ≡ true → AreCoded depth values
    → AreCoded depth (placed_from k scan levels values)
coded depth scan [] k values few all = all
coded depth scan (level ∷ levels) k values few all =
    let parts = and_parts (is_coded depth level) (list_all (is_coded depth) levels) few in
    coded depth scan levels (suc k) (slice_set values (slice_index scan k) level) parts.1
    (All-set (λ level. IsCoded depth (unsigned_abs level)) values (slice_index scan k) level (ltb-true _ _ parts.0) all)

others : (scan : List ℕ) (levels : List ℤ) (k : ℕ) (values : List ℤ) (position : ℕ)
    → ((j : ℕ) → k ≤ j → j < k + length levels → slice_index scan j ≢ position) → level_in (placed_from k scan levels values) position ≡ level_in values position
others scan [] k values position away = refl
others scan (level ∷ levels) k values position away =
    others scan levels (suc k) (slice_set values (slice_index scan k) level) position (λ j low high. away j (omega (arith, low)) (omega (arith, high)))
    ∙ beside values (slice_index scan k) position level (away k (omega arith) (omega arith))

at_end : (k : ℕ) → k + 0 ≡ k
at_end k = omega arith

further : (k m : ℕ) → k + suc m ≡ suc k + m
further k m = omega arith

-- the last one isn't written over
last : (scan : List ℕ) (level : ℤ) (levels : List ℤ) (k n : ℕ) (values : List ℤ) → length values ≡ n
    → All (λ p. p < n) scan → k + length levels < length scan → level_in (placed_from k scan (level ∷ levels) values) (slice_index scan (k + length levels)) ≡ level_in (level ∷ levels) (length levels)
last scan level [] k n values same within low =
    rw (at_end k) (there values (slice_index scan k) level (rw same (at_within n scan k within (omega (arith, low)))))
last scan level (next ∷ levels) k n values same within low =
    rw (further k (length levels))
    (last scan next levels (suc k) n (slice_set values (slice_index scan k) level) (length-set values (slice_index scan k) level ∙ same) within (omega (arith, low)))

before_last : (m : ℕ) → suc m - 1 ≡ m
before_last m = omega arith

from_zero : (m : ℕ) → 0 + m ≡ m
from_zero m = omega arith

no : true ≡ false → ⊥
no e = cc

not_zero : (x : ℤ) → not (is_zero x) ≡ true → x ≢ pos 0
not_zero x some none = no (sym some ∙ ap (λ y. not (is_zero y)) none)

some_long : (n : ℕ) → suc n ≡ 0 → ⊥
some_long n is = omega (arith, is)

ends_so : (level : ℤ) (levels : List ℤ) → ends (level ∷ levels) ≡ true → level_in (level ∷ levels) (length levels) ≢ pos 0
ends_so level levels end =
    elim (or_cases (nat_eq (suc (length levels)) 0) (not (is_zero (slice_index_or (level ∷ levels) (suc (length levels) - 1) (pos 0)))) end) [
      | inl none ↦ absurd (some_long (length levels) (eqb-true (suc (length levels)) 0 none))
      | inr some ↦ not_zero _ (rw (before_last (length levels)) at some)
    ]

short : (a b : ℕ) → a < b → nat_eq a b ≡ true → ⊥
short a b low same = let is : a ≡ b = eqb-true a b same in omega (arith, low, is)

last_of : (scan : List ℕ) (levels values : List ℤ) → All (λ p. p < length values) scan → (nat_eq (length levels) (length scan) || ends levels) ≡ true
    → 0 < length levels → length levels < length scan → level_in (placed_from 0 scan levels values) (slice_index scan (length levels - 1)) ≢ pos 0
last_of scan [] values within end any low = absurd (omega (arith, any))
last_of scan (level ∷ levels) values within end any low =
    elim (or_cases (nat_eq (suc (length levels)) (length scan)) (ends (level ∷ levels)) end) [
      | inl same ↦ absurd (short (suc (length levels)) (length scan) low same)
      | inr some ↦ rw (before_last (length levels))
          (λ none. ends_so level levels some (sym (rw (from_zero (length levels)) at (last scan level levels 0 (length values) values refl within (omega (arith, low)))) ∙ none))
    ]

zeros_coded : (depth : Depth) (n : ℕ) → AreCoded depth (replicate n (pos 0))
zeros_coded depth n = All-replicate (λ level. IsCoded depth (unsigned_abs level)) n (pos 0) (omega arith)

placed_can : (t : Tables) (scan : List ℕ) (levels : List ℤ) (n : ℕ) → t.scan ≡ scan → length scan ≡ n → All (λ p. p < n) scan
    → can_levels t.depth n levels ≡ true → CanPut t (placed_from 0 scan levels (replicate n (pos 0))) (length levels)
unfolding can_levels
placed_can t scan levels n is long within can =
    let both = and_parts (nat_le (length levels) n && list_all (is_coded t.depth) levels) (nat_eq (length levels) n || ends levels) can in
    let first = and_parts (nat_le (length levels) n) (list_all (is_coded t.depth) levels) both.0 in
    let size : length (replicate n (pos 0)) ≡ n = length-replicate n (pos 0) in record {
      most = rw (is, long) (leb-true (length levels) n first.0);
      coded = coded t.depth scan levels 0 _ first.1 (zeros_coded t.depth n);
      others = λ position away.
          others scan levels 0 _ position (λ j low high. rw (sym is) (away j (omega (arith, high)))) ∙ zero_at n position;
      last = rw is (last_of scan levels (replicate n (pos 0)) (rw size within) (rw long both.1));
    }

pub levels_can : (t : Tables) (scan : List ℕ) (levels values : List ℤ) (n : ℕ) → t.scan ≡ scan → length scan ≡ n → All (λ p. p < n) scan
    → can_levels t.depth n levels ≡ true → values ≡ by_position n scan levels → CanPut t values (length levels)
unfolding by_position
levels_can t scan levels values n is long within can made = rw made (placed_can t scan levels n is long within can)
