-- Samples that stand for numbers, one of them written.
use Rattle.std.proofs.Common.{◌≡◌, ◌<◌, ◌∙◌, ℕ, ap, sym, arith, List, length, get_or, map}
use Rattle.std.specs.Prelude.{slice_set}
use Rattle.std.proofs.lemmas.List.{map-set, length-map, get_or-set_same, get_or-set_other, get_or-map}

pub put_here : {X : Type 0} (f : X → ℕ) (xs : List X) (k : ℕ) (x : X) → k < length xs → get_or (map f (slice_set xs k x)) k 0 ≡ f x
put_here f xs k x here = ap (λ (l : List ℕ). get_or l k 0) (map-set f xs k x) ∙ get_or-set_same (map f xs) k (f x) 0 (rw (length-map xs f) here)

pub put_before : {X : Type 0} (f : X → ℕ) (xs : List X) (k : ℕ) (x : X) (i : ℕ) → i < k → get_or (map f (slice_set xs k x)) i 0 ≡ get_or (map f xs) i 0
put_before f xs k x i low = ap (λ (l : List ℕ). get_or l i 0) (map-set f xs k x) ∙ get_or-set_other (map f xs) k i (f x) 0 (λ same. omega (arith, low, same))

pub put_after : {X : Type 0} (f : X → ℕ) (xs : List X) (k : ℕ) (x : X) (i : ℕ) → k < i → get_or (map f (slice_set xs k x)) i 0 ≡ get_or (map f xs) i 0
put_after f xs k x i high = ap (λ (l : List ℕ). get_or l i 0) (map-set f xs k x) ∙ get_or-set_other (map f xs) k i (f x) 0 (λ same. omega (arith, high, same))

-- the number that the sample at a place stands for
pub value_at : {X : Type 0} (f : X → ℕ) (xs : List X) (k n : ℕ) (x : X) → k < length xs → x ≡ get_or xs k x → n ≡ f x → n ≡ get_or (map f xs) k 0
value_at f xs k n x here is same = same ∙ (ap f is ∙ sym (get_or-map f xs k x 0 here))
