-- Elements of lists by their places.
use Rattle.std.proofs.Common.{◌≡◌, ℕ, zero, suc, ◌+◌, ◌*◌, ◌<◌, ◌⊎◌, inl, inr, ⊎_elim, refl, sym, ◌∙◌, ap, subst, List, [], ◌∷◌, ◌++◌, length, map, flat_map, slice_get, Some, arith, suc-mul, add-mul, length-append}
use Rattle.std.specs.List.{range_with_len}
use Rattle.std.proofs.lemmas.Option.{none-some, same_Some}

pub got_left : {A : Type 0} (xs ys : List A) (k : ℕ) (x : A) → slice_get xs k ≡ Some x → slice_get (xs ++ ys) k ≡ Some x
got_left [] ys k x e = absurd (none-some x e)
got_left (y ∷ xs) ys zero x e = e
got_left (y ∷ xs) ys (suc k) x e = got_left xs ys k x e

at_sum : {A : Type 0} (xs : List A) (n k : ℕ) (x : A) → n ≡ k → slice_get xs k ≡ Some x → slice_get xs n ≡ Some x
at_sum xs n k x same e = subst (λ i. slice_get xs i ≡ Some x) (sym same) e

pub got_right : {A : Type 0} (xs ys : List A) (k : ℕ) (x : A) → slice_get ys k ≡ Some x → slice_get (xs ++ ys) (length xs + k) ≡ Some x
got_right [] ys k x e = at_sum ys (0 + k) k x (omega arith) e
got_right (y ∷ xs) ys k x e = at_sum (y ∷ (xs ++ ys)) (suc (length xs) + k) (suc (length xs + k)) x (omega arith) (got_right xs ys k x e)

-- an element of two lists is in the first one or in the second
pub record IsBehindIn {A : Type 0} (xs ys : List A) (k : ℕ) (x : A) : Type 0 where
  pub place : ℕ
  pub is : k ≡ length xs + place
  pub there : slice_get ys place ≡ Some x

pub got_either : {A : Type 0} (xs ys : List A) (k : ℕ) (x : A) → slice_get (xs ++ ys) k ≡ Some x → (slice_get xs k ≡ Some x) ⊎ IsBehindIn xs ys k x
got_either [] ys k x e = inr (record { place = k; is = omega arith; there = e })
got_either (y ∷ xs) ys zero x e = inl e
got_either (y ∷ xs) ys (suc k) x e =
    ⊎_elim inl (λ (h : IsBehindIn xs ys k x). inr (record { place = h.place; is = let i = h.is in omega (arith, i); there = h.there })) (got_either xs ys k x e)

-- the only element of a list of one
pub only : {A : Type 0} (y x : A) (k : ℕ) → slice_get (y ∷ []) k ≡ Some x → (k ≡ 0) × (y ≡ x)
only y x zero e = (refl, same_Some y x e)
only y x (suc k) e = absurd (none-some x e)

-- what is made of the numbers of a range
pub of_range : {A : Type 0} (f : ℕ → A) (n a k : ℕ) (x : A) → slice_get (map f (range_with_len a n)) k ≡ Some x → (k < n) × (f (a + k) ≡ x)
of_range f zero a k x e = absurd (none-some x e)
of_range f (suc n) a zero x e = (omega arith, ap f (omega arith) ∙ same_Some (f a) x e)
of_range f (suc n) a (suc k) x e = let h = of_range f n (a + 1) k x e in (omega (arith, h.0), ap f (omega arith) ∙ h.1)

pub in_range : {A : Type 0} (f : ℕ → A) (n a k : ℕ) → k < n → slice_get (map f (range_with_len a n)) k ≡ Some (f (a + k))
in_range f zero a k less = absurd (omega arith)
in_range f (suc n) a zero less = ap (λ i. Some (f i)) (omega arith)
in_range f (suc n) a (suc k) less = in_range f n (a + 1) k (omega arith) ∙ ap (λ i. Some (f i)) (omega arith)

pub length_made : {A : Type 0} (f : ℕ → A) (n a : ℕ) → length (map f (range_with_len a n)) ≡ n
length_made f zero a = refl
length_made f (suc n) a = ap suc (length_made f n (a + 1))

-- an element of lists in a row that are all as long
pub record IsInRow {A : Type 0} (f : ℕ → List A) (long n a k : ℕ) (x : A) : Type 0 where
  pub row : ℕ
  pub inside : row < n
  pub place : ℕ
  pub is : k ≡ row * long + place
  pub there : slice_get (f (a + row)) place ≡ Some x

pub of_rows : {A : Type 0} (f : ℕ → List A) (long : ℕ) → ((r : ℕ) → length (f r) ≡ long) → (n a k : ℕ) (x : A)
    → slice_get (flat_map f (range_with_len a n)) k ≡ Some x → IsInRow f long n a k x
of_rows f long same zero a k x e = absurd (none-some x e)
of_rows f long same (suc n) a k x e =
    ⊎_elim
    (λ (h : slice_get (f a) k ≡ Some x). record { row = 0; inside = omega arith; place = k; is = omega arith; there = subst (λ r. slice_get (f r) k ≡ Some x) (let z : a ≡ a + 0 = omega arith in z) h })
    (λ (h : IsBehindIn (f a) (flat_map f (range_with_len (a + 1) n)) k x).
    let more = of_rows f long same n (a + 1) h.place x h.there in
    record {
      row = more.row + 1;
      inside = let i = more.inside in omega (arith, i);
      place = more.place;
      is = let i = more.is in let j = h.is in let s = same a in let m : (more.row + 1) * long ≡ more.row * long + 1 * long = add-mul more.row 1 long in omega (arith, i, j, s, m);
      there = subst (λ r. slice_get (f r) more.place ≡ Some x) (let z : a + 1 + more.row ≡ a + (more.row + 1) = omega arith in z) more.there;
    })
    (got_either (f a) (flat_map f (range_with_len (a + 1) n)) k x e)

pub in_rows : {A : Type 0} (f : ℕ → List A) (long : ℕ) → ((r : ℕ) → length (f r) ≡ long) → (n a row place : ℕ) (x : A)
    → row < n → slice_get (f (a + row)) place ≡ Some x → slice_get (flat_map f (range_with_len a n)) (row * long + place) ≡ Some x
in_rows f long same zero a row place x less e = absurd (omega arith)
in_rows f long same (suc n) a zero place x less e =
    at_sum (f a ++ flat_map f (range_with_len (a + 1) n)) (0 * long + place) place x (omega arith)
    (got_left (f a) (flat_map f (range_with_len (a + 1) n)) place x (subst (λ r. slice_get (f r) place ≡ Some x) (let z : a + 0 ≡ a = omega arith in z) e))
in_rows f long same (suc n) a (suc row) place x less e =
    let more = in_rows f long same n (a + 1) row place x (omega arith) (subst (λ r. slice_get (f r) place ≡ Some x) (let z : a + suc row ≡ a + 1 + row = omega arith in z) e) in
    let m = suc-mul row long in
    let s = same a in
    at_sum (f a ++ flat_map f (range_with_len (a + 1) n)) (suc row * long + place) (length (f a) + (row * long + place)) x (omega (arith, m, s))
    (got_right (f a) (flat_map f (range_with_len (a + 1) n)) (row * long + place) x more)

pub length_rows : {A : Type 0} (f : ℕ → List A) (long : ℕ) → ((r : ℕ) → length (f r) ≡ long) → (n a : ℕ) → length (flat_map f (range_with_len a n)) ≡ n * long
length_rows f long same zero a = let z : 0 * long ≡ 0 = omega arith in sym z
length_rows f long same (suc n) a =
    let more = length_rows f long same n (a + 1) in
    let m = suc-mul n long in
    let s = same a in
    let l = length-append (f a) (flat_map f (range_with_len (a + 1) n)) in omega (arith, more, m, s, l)
