-- Columns that a transform keeps within 16 bits.
use Rattle.std.proofs.Common.{◌≡◌, ℕ, zero, suc, ◌+◌, drop, get_or, refl, ap, add-one, drop-cons, ◌*◌, ◌<◌, ◌≤◌, ◌^◌, ℤ, pos, unsigned_abs, List, [], ◌∷◌, length, sym, ◌∙◌, arith, All, Result, Ok, Err}
use Rattle.std.proofs.lemmas.List.{length-map}
use Rattle.vp9_types.specs.declared.rule.Rule.{Rule}
use Rattle.vp9_types.specs.declared.shape.Depth.{Depth}
use Rattle.vp9_types.specs.declared.shape.Depth.TheVariants.{Eight, Ten, Twelve}
use Rattle.inverse_transforms.specs.Flow.{at, magnitude, IsCalm}
use Rattle.inverse_transforms.specs.LaneColumns.{column, GivesColumns, FitsAll}
use Rattle.inverse_transforms.specs.Ranges.{IsSmall, limit_of}
use Rattle.std.proofs.lemmas.List.Elements.{All-map}
use Rattle.inverse_transforms.proofs.Small.{at_small}

pub limit_at_least : (depth : Depth) → 2 ^ 15 ≤ limit_of depth
limit_at_least Eight = omega arith
limit_at_least Ten = omega arith
limit_at_least Twelve = omega arith

pub magnitude_bounds : (n : ℕ) (xs : List ℤ) → magnitude xs ≤ n → All (λ x. unsigned_abs x ≤ n) xs
magnitude_bounds n [] few k d low = absurd (omega arith)
magnitude_bounds n (x ∷ xs) few zero d low = omega (arith, few)
magnitude_bounds n (x ∷ xs) few (suc k) d low = magnitude_bounds n xs (omega (arith, few)) k d (omega (arith, low))

pub magnitude_at_most : (m : ℕ) (xs : List ℤ) → All (λ x. unsigned_abs x ≤ m) xs → magnitude xs ≤ length xs * m
magnitude_at_most m [] most = omega arith
magnitude_at_most m (x ∷ xs) most =
    omega (arith, most zero (pos 0) (omega arith), magnitude_at_most m xs (λ k d low. most (suc k) d (omega (arith, low))))

pub column_weight : (t : List (List ℤ)) (j : ℕ) → length t ≤ 32 → All (All IsSmall) t → magnitude (column j t) ≤ 2 ^ 29
column_weight t j few small =
    let column_small : All IsSmall (column j t) = All-map IsSmall (λ row. at row j) t (λ k d low. at_small (2 ^ 24) (get_or t k d) j (small k d low)) in
    omega (arith, magnitude_at_most (2 ^ 24) (column j t) column_small, length-map t (λ row. at row j))

-- what is left of a column, from a row on
pub column_left : (t : List (List ℤ)) (j i : ℕ) (d : List ℤ) → i < length t →
    magnitude (column j (drop i t)) ≡ unsigned_abs (at (get_or t i d) j) + magnitude (column j (drop (i + 1) t))
column_left t j i d low = ap (λ rows. magnitude (column j rows)) (drop-cons t i d low) ∙ rw (add-one i) refl

pub calm_same : (n most : ℕ) (f g : ℕ → List ℤ → Result (List ℤ) Rule) → ((limit : ℕ) (xs : List ℤ) → length xs ≡ n → g limit xs ≡ f limit xs) →
    IsCalm n most f → IsCalm n most g
unfolding IsCalm
calm_same n most f g same calm = λ xs size small.
    let given = calm xs size small in (given.0, λ limit at_least. same limit xs size ∙ given.1 limit at_least)

-- columns whose magnitudes add up to w at most, which is no more than is calm
pub columns_fit : (n most w : ℕ) (f : ℕ → List ℤ → Result (List ℤ) Rule) (t : List (List ℤ)) → length t ≡ n → w ≤ most → IsCalm n most f →
    ((j : ℕ) → j < 8 → magnitude (column j t) ≤ w) → (j : ℕ) → j < 8 →
    (ys : List ℤ) × ((limit : ℕ) → 2 ^ 15 ≤ limit → f limit (column j t) ≡ Ok ys)
unfolding IsCalm
columns_fit n most w f t size less calm few j low =
    calm (column j t) (length-map t (λ row. at row j) ∙ size) (omega (arith, few j low))

pub calm_fits : (f : ℕ → List ℤ → Result (List ℤ) Rule) (t : List (List ℤ)) →
    ((j : ℕ) → j < 8 → (ys : List ℤ) × ((limit : ℕ) → 2 ^ 15 ≤ limit → f limit (column j t) ≡ Ok ys)) → FitsAll (f (2 ^ 15)) t
calm_fits f t calm = λ j low. let given = calm j low in (given.0, given.1 (2 ^ 15) (omega arith))

pub calm_gives : (f : ℕ → List ℤ → Result (List ℤ) Rule) (limit : ℕ) (r : Result (Unit {0}) Rule) (old new : List (List ℤ)) → 2 ^ 15 ≤ limit →
    ((j : ℕ) → j < 8 → (ys : List ℤ) × ((limit : ℕ) → 2 ^ 15 ≤ limit → f limit (column j old) ≡ Ok ys)) →
    GivesColumns (f (2 ^ 15)) r old new → GivesColumns (f limit) r old new
calm_gives f limit (Ok _) old new most calm gives = λ j low.
    let given = calm j low in
    given.1 limit most ∙ (sym (given.1 (2 ^ 15) (omega arith)) ∙ gives j low)
calm_gives f limit (Err rule) old new most calm gives =
    let given = calm gives.0 gives.1 in
    let both : Ok given.0 ≡ Err rule = sym (given.1 (2 ^ 15) (omega arith)) ∙ gives.2 in
    let no : ⊥ = cc in absurd no
