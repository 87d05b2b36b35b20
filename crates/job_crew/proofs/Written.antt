-- What the output has taken after one write more.
use Rattle.std.proofs.Common.{◌≡◌, ℕ, suc, ◌+◌, Bool, true, false, List, ◌++◌, Option, subst, arith}
use Rattle.edge_io.specs.Putting.{Takes}
use Rattle.edge_io.proofs.Fronts.{takes_both}
use Rattle.job_order.specs.Truths.{IsFront, IsRightText}
use Rattle.job_order.specs.Sound.{texts_below}

pub one_more : (before old new : Option (List ℕ)) (text : ℕ → List ℕ) (f next : ℕ) (fails : Bool) → next ≡ f + 1 → fails ≡ false → Takes before old (texts_below text f)
    → (put : List ℕ) × Takes old new put × IsRightText fails put (text f) → Takes before new (texts_below text next)
one_more before old new text f next fails is not_refused first more =
    let behind : suc f ≡ next = omega (arith, is) in
    let whole : more.0 ≡ text f = subst (λ b. IsRightText b more.0 (text f)) not_refused more.2 in
    subst (λ n. Takes before new (texts_below text n)) behind
    (takes_both before old new (texts_below text f) (text f) first (subst (λ put. Takes old new put) whole more.1))

-- and after one that was refused
pub front_more : (before old new : Option (List ℕ)) (text : ℕ → List ℕ) (f : ℕ) (fails : Bool) → fails ≡ true → Takes before old (texts_below text f)
    → (put : List ℕ) × Takes old new put × IsRightText fails put (text f) → (front : List ℕ) × IsFront front (text f) × Takes before new (texts_below text f ++ front)
front_more before old new text f fails refused first more =
    (more.0, subst (λ b. IsRightText b more.0 (text f)) refused more.2, takes_both before old new (texts_below text f) more.0 first more.1)
