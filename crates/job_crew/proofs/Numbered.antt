-- The first of a list that has a number. The list comes first, which tells the type of what has the number.
use Rattle.std.proofs.Common.{◌≡◌, ◌∙◌, ℕ, ◌+◌, ◌<◌, ◌≤◌, List, ◌∷◌, length, drop, get_or, Some, None, ap, sym, subst, refl}
use Rattle.std.proofs.lemmas.Bool.{eq-eqb, ne_eqb}
use Rattle.std.proofs.lemmas.List.{drop_more, drop_all}
use Rattle.job_crew.specs.Code.{numbered}

is_first : {A : Type 0} (x : A) (xs : List A) (number : A → ℕ) (n : ℕ) → number x ≡ n → numbered (x ∷ xs) number n ≡ Some x
is_first x xs number n e = rw (eq-eqb (number x) n e) refl

pub is_behind : {A : Type 0} (x : A) (xs : List A) (number : A → ℕ) (n : ℕ) → (number x ≡ n → ⊥) → numbered (x ∷ xs) number n ≡ numbered xs number n
is_behind x xs number n other = rw (ne_eqb (number x) n other) refl

-- what is left of a list from a place on, where the number stands there
pub is_here : {A : Type 0} (xs : List A) (at : ℕ) (y : A) (number : A → ℕ) (n : ℕ) → at < length xs → y ≡ get_or xs at y → number y ≡ n → numbered (drop at xs) number n ≡ Some y
is_here xs at y number n inside is e =
    ap (λ l. numbered l number n) (drop_more xs at y inside)
    ∙ (is_first (get_or xs at y) (drop (at + 1) xs) number n (subst (λ z. number z ≡ n) is e) ∙ ap Some (sym is))

-- where another one stands there
pub is_further : {A : Type 0} (xs : List A) (at : ℕ) (y : A) (number : A → ℕ) (n : ℕ) → at < length xs → y ≡ get_or xs at y → (number y ≡ n → ⊥)
    → numbered (drop at xs) number n ≡ numbered (drop (at + 1) xs) number n
is_further xs at y number n inside is other =
    ap (λ l. numbered l number n) (drop_more xs at y inside) ∙ is_behind (get_or xs at y) (drop (at + 1) xs) number n (subst (λ z. number z ≡ n → ⊥) is other)

-- and where none does
pub is_nowhere : {A : Type 0} (xs : List A) (at : ℕ) (number : A → ℕ) (n : ℕ) → length xs ≤ at → numbered (drop at xs) number n ≡ None
is_nowhere xs at number n end = ap (λ l. numbered l number n) (drop_all at xs end)
