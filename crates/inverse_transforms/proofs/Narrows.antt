-- Narrow values.
use Rattle.std.proofs.Common.{◌≡◌, ℕ, ◌+◌, take, ◌*◌, ◌<◌, ◌≤◌, ◌^◌, ℤ, ◌*ℤ◌, unsigned_abs, Bool, true, false, List, [], length, get_or, refl, subst, arith, All, to_z, of_z}
use Rattle.std.specs.Bool.{OnTrue}
use Rattle.std.specs.List.{flat_map}
use Rattle.std.proofs.lemmas.List.Concat.{get_or-flat_map}
use Rattle.std.proofs.lemmas.List.Folds.{length-flat_map-take}
use Rattle.std.proofs.Math.Nat.{mul-le-mul}
use Rattle.std.proofs.lemmas.Int.{to_z-of_z, unsigned_abs-mul, fits_signed_mul}
use Rattle.std.proofs.lemmas.List.Elements.{All-map}
use mir.Syntax.{w32}
use Rattle.inverse_transforms.specs.Flow.{at}
use Rattle.inverse_transforms.specs.LaneColumns.{column}
use Rattle.inverse_transforms.specs.Ranges.{IsSmall, IsNarrow}
use Rattle.inverse_transforms.proofs.Small.{at_small}
use Rattle.inverse_transforms.proofs.LaneLemmas.{kept}
use Rattle.inverse_transforms.proofs.ColumnLemmas.{column_at}

pub narrow_small : (x : ℤ) → IsNarrow x → IsSmall x
narrow_small x narrow = omega arith

product_size : (x c : ℤ) → IsNarrow x → unsigned_abs c ≤ 16384 → unsigned_abs (x *ℤ c) ≤ 2 ^ 29
product_size x c narrow most =
    let both : unsigned_abs x * unsigned_abs c ≤ 2 ^ 15 * 16384 = mul-le-mul narrow most in
    omega (arith, unsigned_abs-mul x c)

pub product_value : (x c : ℤ) → IsNarrow x → unsigned_abs c ≤ 16384 →
    to_z w32 (of_z w32 (to_z w32 (of_z w32 x) *ℤ to_z w32 (of_z w32 c))) ≡ x *ℤ c
product_value x c narrow most =
    rw (kept x (narrow_small x narrow), kept c (omega arith))
    (to_z-of_z w32 (x *ℤ c) (fits_signed_mul w32 x c (2 ^ 15) 16384 narrow most (omega arith)))

pub product_sized : (x c : ℤ) → IsNarrow x → unsigned_abs c ≤ 16384 →
    unsigned_abs (to_z w32 (of_z w32 (to_z w32 (of_z w32 x) *ℤ to_z w32 (of_z w32 c)))) ≤ 2 ^ 29
product_sized x c narrow most = rw (product_value x c narrow most) (product_size x c narrow most)

pub flat_narrow : (t : List (List ℤ)) (n : ℕ) (test : Bool) → (test ≡ true → n ≤ 2 ^ 15) → All (λ x. unsigned_abs x ≤ n) (flat_map (λ x. x) t) →
    OnTrue test (All (All IsNarrow) t)
flat_narrow t n true few flat = λ i e i_low j d j_low.
    let place : unsigned_abs (get_or (flat_map (λ x. x) t) (length (flat_map (λ x. x) (take i t)) + j) d) ≤ n =
    flat (length (flat_map (λ x. x) (take i t)) + j) d (omega (arith, length-flat_map-take (λ x. x) t i e i_low)) in
    let here : unsigned_abs (get_or (get_or t i e) j d) ≤ n =
    subst (λ z. unsigned_abs z ≤ n) (get_or-flat_map (λ x. x) t i j e d i_low j_low) place in
    omega (arith, few refl)
flat_narrow t n false few flat = tt

pub narrow_columns : (t : List (List ℤ)) → All (All IsNarrow) t → (j : ℕ) → All IsNarrow (column j t)
narrow_columns t narrow j = All-map IsNarrow (λ row. at row j) t (λ k d low. at_small (2 ^ 15) (get_or t k d) j (narrow k d low))

pub narrow_all_small : (t : List (List ℤ)) → All (All IsNarrow) t → All (All IsSmall) t
narrow_all_small t narrow k d low i e i_low = narrow_small (get_or (get_or t k d) i e) (narrow k d low i e i_low)

pub narrow_at : (t : List (List ℤ)) (a : ℕ) → a < length t → ((j : ℕ) → j < 8 → All IsNarrow (column j t)) → (j : ℕ) → j < 8 → IsNarrow (at (get_or t a []) j)
narrow_at t a low narrow j j_low =
    subst IsNarrow (column_at j t a low) (at_small (2 ^ 15) (column j t) a (narrow j j_low))
