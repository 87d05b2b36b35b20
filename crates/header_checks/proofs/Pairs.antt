-- Tests of lists, element by element.
use Rattle.std.proofs.Common.{◌≡◌, ◌<◌, ◌≤◌, ◌+◌, ℕ, zero, suc, Bool, true, List, [], ◌∷◌, refl, arith, length, drop, get_or}
use Rattle.std.specs.Prelude.{◌&&◌}
use Rattle.std.specs.Cmp.Lexicographic.{pointwise}
use Rattle.std.specs.List.{list_all}
use Rattle.std.proofs.lemmas.Bool.{and_parts}
use Rattle.std.proofs.lemmas.List.{drop_all, drop_more}

---- Two lists ----

pair_more : {A : Type 0} (E : A → A → Bool) (xs ys : List A) (i : ℕ) (d : A) → i < length xs → i < length ys
    → pointwise E (drop i xs) (drop i ys) ≡ (E (get_or xs i d) (get_or ys i d) && pointwise E (drop (i + 1) xs) (drop (i + 1) ys))
pair_more E xs ys i d low low_too = rw (drop_more xs i d low, drop_more ys i d low_too) refl

pub pair_passes : {A : Type 0} (E : A → A → Bool) (xs ys : List A) (i : ℕ) (d : A) → i < length xs → i < length ys → E (get_or xs i d) (get_or ys i d) ≡ true
    → pointwise E (drop i xs) (drop i ys) ≡ pointwise E (drop (i + 1) xs) (drop (i + 1) ys)
pair_passes E xs ys i d low low_too passes = rw (pair_more E xs ys i d low low_too, passes) refl

pub pairs_end : {A : Type 0} (E : A → A → Bool) (xs ys : List A) (i : ℕ) → length xs ≤ i → length ys ≤ i → pointwise E (drop i xs) (drop i ys) ≡ true
pairs_end E xs ys i all all_too = rw (drop_all i xs all, drop_all i ys all_too) refl

-- what each pair says
pub pair_at : {A : Type 0} (E : A → A → Bool) (xs ys : List A) (i : ℕ) (d : A) → pointwise E xs ys ≡ true → i < length ys → E (get_or xs i d) (get_or ys i d) ≡ true
pair_at E [] [] i d pass low = absurd (omega (arith, low))
pair_at E [] (y ∷ ys) i d pass low = absurd (cc)
pair_at E (x ∷ xs) [] i d pass low = absurd (cc)
pair_at E (x ∷ xs) (y ∷ ys) zero d pass low = (and_parts (E x y) (pointwise E xs ys) pass).0
pair_at E (x ∷ xs) (y ∷ ys) (suc i) d pass low = pair_at E xs ys i d (and_parts (E x y) (pointwise E xs ys) pass).1 (omega (arith, low))

---- One list ----

pub one_passes : {A : Type 0} (P : A → Bool) (xs : List A) (i : ℕ) (d : A) → i < length xs → P (get_or xs i d) ≡ true → list_all P (drop i xs) ≡ list_all P (drop (i + 1) xs)
one_passes P xs i d low passes = rw (drop_more xs i d low, passes) refl
