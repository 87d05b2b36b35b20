-- The names of a list of cells, or of bands.
use Rattle.std.proofs.Common.{◌≡◌, ℕ, ◌+◌, ◌<◌, List, [], ◌∷◌, ◌++◌, length, map, get_or, refl, sym, ◌∙◌, ap, subst}
use Rattle.std.proofs.Math.ListN.{get_or-map}
use Rattle.std.proofs.lemmas.List.{length-map, map_push}
use Rattle.std.proofs.lemmas.List.FromFn.{length-map-range_with_len, get_or-map-range_with_len, map-range_with_len_more}
use Rattle.std.specs.List.{range_with_len}

pub same_length : {A B : Type 0} (f : A → B) (g : ℕ → B) (xs : List A) (a n : ℕ) → map f xs ≡ map g (range_with_len a n) → length xs ≡ n
same_length f g xs a n e = sym (length-map xs f) ∙ (ap length e ∙ length-map-range_with_len g a n)

-- the name of the one at i
pub name_at : {A B : Type 0} (f : A → B) (g : ℕ → B) (xs : List A) (a n i j : ℕ) (x : A) → map f xs ≡ map g (range_with_len a n) → i < n → a + i ≡ j → x ≡ get_or xs i x → f x ≡ g j
name_at {A} {B} f g xs a n i j x e h there is =
    ap f is ∙ (sym (get_or-map f xs i x) ∙ (ap (λ (l : List B). get_or l i (f x)) e ∙ get_or-map-range_with_len g a n i j (f x) h there))

-- one more
pub name_more : {A B : Type 0} (f : A → B) (g : ℕ → B) (xs more : List A) (a n j : ℕ) (x : A) → map f xs ≡ map g (range_with_len a n) → a + n ≡ j → f x ≡ g j → more ≡ xs ++ x ∷ [] → map f more ≡ map g (range_with_len a (n + 1))
name_more {A} {B} f g xs more a n j x e there is pushed =
    ap (map f) pushed ∙ (map_push f xs x ∙ (ap (λ (l : List B). l ++ f x ∷ []) e ∙ (ap (λ (b : B). map g (range_with_len a n) ++ b ∷ []) is ∙ sym (map-range_with_len_more g a n j there))))

-- the name of what is found at i
pub found_name : {A B : Type 0} (f : A → B) (g : ℕ → B) (xs : List A) (a n i j : ℕ) (d : A) → map f xs ≡ map g (range_with_len a n) → i < n → a + i ≡ j → f (get_or xs i d) ≡ g j
found_name {A} {B} f g xs a n i j d e h there =
    sym (get_or-map f xs i d) ∙ (ap (λ (l : List B). get_or l i (f d)) e ∙ get_or-map-range_with_len g a n i j (f d) h there)

-- one more, by how many there are then
pub next_name : {A B : Type 0} (f : A → B) (g : ℕ → B) (xs more : List A) (a n m j : ℕ) (x : A) → map f xs ≡ map g (range_with_len a n) → a + n ≡ j → n + 1 ≡ m → f x ≡ g j → more ≡ xs ++ x ∷ [] → map f more ≡ map g (range_with_len a m)
next_name {A} {B} f g xs more a n m j x e there many is pushed = subst (λ k. map f more ≡ map g (range_with_len a k)) many (name_more f g xs more a n j x e there is pushed)

pub no_names : {A B : Type 0} (f : A → B) (g : ℕ → B) (xs : List A) (a n : ℕ) → xs ≡ [] → n ≡ 0 → map f xs ≡ map g (range_with_len a n)
no_names f g xs a n none few = rw (none, few) refl

-- all of them
pub all_names : {A B : Type 0} (f : A → B) (g : ℕ → B) (xs : List A) (a n m : ℕ) → map f xs ≡ map g (range_with_len a n) → n ≡ m → map f xs ≡ map g (range_with_len a m)
all_names f g xs a n m e many = subst (λ k. map f xs ≡ map g (range_with_len a k)) many e
