-- Levels that are drawn can be put.
use Rattle.std.proofs.Common.{◌≡◌, ◌≢◌, ◌∙◌, ℕ, zero, suc, ◌+◌, ◌-◌, ◌<◌, ◌≤◌, ℤ, pos, List, [], ◌∷◌, length, refl, sym, ap, arith}
use Rattle.std.specs.Prelude.{slice_index, slice_set, unsigned_abs}
use Rattle.std.specs.List.{All}
use Rattle.std.proofs.lemmas.List.Elements.{All-cons, All-head, All-tail, All-set}
use Rattle.std.proofs.lemmas.List.{length-set}
use Rattle.vp9_types.specs.declared.shape.Depth.{Depth}
use Rattle.coef_tokens.specs.Places.{Tables}
use Rattle.token_writer.specs.TokenFits.{IsCoded, level_in, CanPut}
use Rattle.drawn_symbols.specs.LevelDraws.{IsDrawnLevel, placed_from}

beside : (xs : List ℤ) (k j : ℕ) (x : ℤ) → k ≢ j → level_in (slice_set xs k x) j ≡ level_in xs j
beside [] k j x other = refl
beside (y ∷ xs) zero zero x other = absurd (other refl)
beside (y ∷ xs) zero (suc j) x other = refl
beside (y ∷ xs) (suc k) zero x other = refl
beside (y ∷ xs) (suc k) (suc j) x other = beside xs k j x (λ same. other (ap (λ n. suc n) same))

there : (xs : List ℤ) (k : ℕ) (x : ℤ) → k < length xs → level_in (slice_set xs k x) k ≡ x
there [] k x low = absurd (omega (arith, low))
there (y ∷ xs) zero x low = refl
there (y ∷ xs) (suc k) x low = there xs k x (omega (arith, low))

zero_at : (xs : List ℤ) → All (λ v. v ≡ pos 0) xs → (p : ℕ) → level_in xs p ≡ pos 0
zero_at [] zeros p = refl
zero_at (x ∷ xs) zeros zero = All-head (λ v. v ≡ pos 0) x xs zeros
zero_at (x ∷ xs) zeros (suc p) = zero_at xs (All-tail (λ v. v ≡ pos 0) x xs zeros) p

at_within : (n : ℕ) (ps : List ℕ) (k : ℕ) → All (λ p. p < n) ps → k < length ps → slice_index ps k < n
at_within n [] k all low = absurd (omega (arith, low))
at_within n (p ∷ ps) zero all low = All-head (λ p. p < n) p ps all
at_within n (p ∷ ps) (suc k) all low = at_within n ps k (All-tail (λ p. p < n) p ps all) (omega (arith, low))

some : (x : ℤ) → IsDrawnLevel x → x ≢ pos 0
some x level none = let zero_size : unsigned_abs x ≡ 0 = ap (λ y. unsigned_abs y) none in absurd (omega (arith, level.some, zero_size))

few : (depth : Depth) (x : ℤ) → IsDrawnLevel x → IsCoded depth (unsigned_abs x)
few depth x level = omega (arith, level.small)

abbrev AreCoded : Depth → List ℤ → Type 0
AreCoded depth xs = All (λ level. IsCoded depth (unsigned_abs level)) xs

zeros_coded : (depth : Depth) (xs : List ℤ) → All (λ v. v ≡ pos 0) xs → AreCoded depth xs
zeros_coded depth [] zeros = λ k d low. absurd (omega (arith, low))
zeros_coded depth (x ∷ xs) zeros =
    All-cons (λ level. IsCoded depth (unsigned_abs level)) x xs
    (rw (All-head (λ v. v ≡ pos 0) x xs zeros) (omega arith)) (zeros_coded depth xs (All-tail (λ v. v ≡ pos 0) x xs zeros))

coded : (depth : Depth) (scan : List ℕ) (levels : List ℤ) (k : ℕ) (values : List ℤ) → All IsDrawnLevel levels → AreCoded depth values
    → AreCoded depth (placed_from k scan levels values)
coded depth scan [] k values small all = all
coded depth scan (level ∷ levels) k values small all =
    coded depth scan levels (suc k) (slice_set values (slice_index scan k) level) (All-tail IsDrawnLevel level levels small)
    (All-set (λ level. IsCoded depth (unsigned_abs level)) values (slice_index scan k) level (few depth level (All-head IsDrawnLevel level levels small)) all)

others : (scan : List ℕ) (levels : List ℤ) (k : ℕ) (values : List ℤ) (position : ℕ)
    → ((j : ℕ) → k ≤ j → j < k + length levels → slice_index scan j ≢ position) → level_in (placed_from k scan levels values) position ≡ level_in values position
others scan [] k values position away = refl
others scan (level ∷ levels) k values position away =
    others scan levels (suc k) (slice_set values (slice_index scan k) level) position (λ j low high. away j (omega (arith, low)) (omega (arith, high)))
    ∙ beside values (slice_index scan k) position level (away k (omega arith) (omega arith))

at_end : (k : ℕ) → k + 0 ≡ k
at_end k = omega arith

further : (k m : ℕ) → k + suc m ≡ suc k + m
further k m = omega arith

last : (scan : List ℕ) (level : ℤ) (levels : List ℤ) (k n : ℕ) (values : List ℤ) → All IsDrawnLevel (level ∷ levels) → length values ≡ n
    → All (λ p. p < n) scan → k + length levels < length scan → level_in (placed_from k scan (level ∷ levels) values) (slice_index scan (k + length levels)) ≢ pos 0
last scan level [] k n values small same within low =
    rw (at_end k) (λ none. some level (All-head IsDrawnLevel level [] small)
    (sym (there values (slice_index scan k) level (rw same (at_within n scan k within (omega (arith, low))))) ∙ none))
last scan level (next ∷ levels) k n values small same within low =
    rw (further k (length levels))
    (last scan next levels (suc k) n (slice_set values (slice_index scan k) level) (All-tail IsDrawnLevel level (next ∷ levels) small)
    (length-set values (slice_index scan k) level ∙ same) within (omega (arith, low)))

before_last : (m : ℕ) → suc m - 1 ≡ 0 + m
before_last m = omega arith

last_of : (scan : List ℕ) (levels values : List ℤ) → All IsDrawnLevel levels → All (λ p. p < length values) scan → 0 < length levels → length levels < length scan
    → level_in (placed_from 0 scan levels values) (slice_index scan (length levels - 1)) ≢ pos 0
last_of scan [] values small within any low = absurd (omega (arith, any))
last_of scan (level ∷ levels) values small within any low =
    rw (before_last (length levels)) (last scan level levels 0 (length values) values small refl within (omega (arith, low)))

by_length : (t : Tables) (scan : List ℕ) (levels values : List ℤ) → t.scan ≡ scan → length levels ≤ 3 → 3 < length scan
    → All (λ p. p < length values) scan → All (λ v. v ≡ pos 0) values → All IsDrawnLevel levels → CanPut t (placed_from 0 scan levels values) (length levels)
by_length t scan levels values is most long within zeros small = record {
  most = rw is (omega (arith, most, long));
  coded = coded t.depth scan levels 0 values small (zeros_coded t.depth values zeros);
  others = λ position away.
      others scan levels 0 values position (λ j low high. rw (sym is) (away j (omega (arith, high))))
      ∙ zero_at values zeros position;
  last = rw is (last_of scan levels values small within);
}

pub levels_can : (t : Tables) (scan : List ℕ) (levels values : List ℤ) (count : ℕ) → length levels ≡ count → t.scan ≡ scan → count ≤ 3 → 3 < length scan
    → All (λ p. p < length values) scan → All (λ v. v ≡ pos 0) values → All IsDrawnLevel levels → CanPut t (placed_from 0 scan levels values) count
levels_can t scan levels values count counted is most long within zeros small =
    rw (sym counted) (by_length t scan levels values is (rw counted most) long within zeros small)
