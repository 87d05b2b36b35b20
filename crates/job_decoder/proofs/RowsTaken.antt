-- Rows of results that are taken out, one after another.
use Rattle.std.proofs.Common.{◌≡◌, ◌∙◌, ◌<◌, ℕ, zero, suc, List, [], ◌∷◌, length, get_or, ap, sym, subst, refl, arith}
use Rattle.std.specs.Prelude.{Option, Some, None, IfSome, slice_get, slice_set}
use Rattle.vp9_types.specs.declared.job.JobName.TheVariants.{Filter}
use Rattle.job_order.specs.Truths.{Truth}
use Rattle.job_crew.specs.Left.{AreRightRows}

-- where one is gone the others stay
found_before : {A : Type 0} (xs : List (Option A)) (at r : ℕ) (x : A) → slice_get (slice_set xs at None) r ≡ Some (Some x) → slice_get xs r ≡ Some (Some x)
found_before [] at r x is = is
found_before (y ∷ xs) zero zero x is = absurd cc
found_before (y ∷ xs) zero (suc r) x is = is
found_before (y ∷ xs) (suc at) zero x is = is
found_before (y ∷ xs) (suc at) (suc r) x is = found_before xs at r x is

pub right_without : {X : Type 0} (t : Truth X) (f at : ℕ) (rows new : List (Option X)) → new ≡ slice_set rows at None → AreRightRows t f rows → AreRightRows t f new
right_without {X} t f at rows new is all r x there = all r x (found_before rows at r x (subst (λ (xs : List (Option X)). slice_get xs r ≡ Some (Some x)) is there))

found : {A : Type 0} (xs : List A) (at : ℕ) (d : A) → at < length xs → slice_get xs at ≡ Some (get_or xs at d)
found [] at d low = absurd (omega (arith, low))
found (x ∷ xs) zero d low = refl
found (x ∷ xs) (suc at) d low = found xs at d (omega (arith, low))

-- the one that was there, and what lasts of it
pub right_taken : {X : Type 0} (t : Truth X) (f at : ℕ) (rows : List (Option X)) (row kept : Option X) → at < length rows → row ≡ get_or rows at row → AreRightRows t f rows → IfSome kept (λ x. row ≡ Some x)
    → IfSome kept (λ x. t.right (Filter f at) x)
right_taken t f at rows row None low is all h = tt
right_taken t f at rows row (Some x) low is all h = all at x (found rows at row low ∙ ap Some (sym is ∙ h))
