-- The results of a frame's rows, one more of them.
use Rattle.std.proofs.Common.{◌≡◌, ℕ, zero, suc, List, [], ◌∷◌, ◌++◌, length, Option, Some, subst, sym, refl, arith}
use Rattle.std.specs.Prelude.{IfSome, slice_get}
use Rattle.vp9_types.specs.declared.job.JobName.TheVariants.{Filter}
use Rattle.job_order.specs.Truths.{Truth}
use Rattle.job_crew.specs.Left.{AreRightRows}

-- what stands behind a list is what is found there, or it stands in the list
behind : {A : Type 0} (P : ℕ → A → Type 0) (xs : List A) (y : A) (r : ℕ) (x : A) → ((r : ℕ) (x : A) → slice_get xs r ≡ Some x → P r x) → P (length xs) y
    → slice_get (xs ++ y ∷ []) r ≡ Some x → P r x
behind P [] y zero x all last is = let same : y ≡ x = cc in subst (λ z. P 0 z) same last
behind P [] y (suc r) x all last is = absurd cc
behind P (z ∷ xs) y zero x all last is = all zero x is
behind P (z ∷ xs) y (suc r) x all last is =
    let end : length (z ∷ xs) ≡ suc (length xs) = omega arith in
    behind (λ k w. P (suc k) w) xs y r x (λ q w h. all (suc q) w h) (subst (λ k. P k y) end last) is

right_if : {X : Type 0} (t : Truth X) (f r : ℕ) (o : Option X) (x : X) → IfSome o (λ x. t.right (Filter f r) x) → o ≡ Some x → t.right (Filter f r) x
right_if t f r o x h is = subst (λ p. IfSome p (λ x. t.right (Filter f r) x)) is h

pub one_more_row : {X : Type 0} (t : Truth X) (f n : ℕ) (rows new : List (Option X)) (value : Option X) → AreRightRows t f rows → length rows ≡ n
    → IfSome value (λ x. t.right (Filter f n) x) → new ≡ rows ++ value ∷ [] → AreRightRows t f new
one_more_row {X} t f n rows new value all long last is r x there =
    behind (λ k (o : Option X). (x : X) → o ≡ Some x → t.right (Filter f k) x) rows value r (Some x)
    (λ q o h y same. all q y (subst (λ p. slice_get rows q ≡ Some p) same h))
    (subst (λ k. (x : X) → value ≡ Some x → t.right (Filter f k) x) (sym long) (λ y same. right_if t f n value y last same))
    (subst (λ xs. slice_get xs r ≡ Some (Some x)) is there) x refl
