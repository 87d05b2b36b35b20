-- Where nothing is left in front of a source, its bytes are the source's.
use Rattle.std.proofs.Common.{◌≡◌, ◌∙◌, ℕ, List, ◌++◌, length, ap, refl, subst, sym, arith}
use Rattle.std.specs.Prelude.{Option, Some, None, Result}
use Rattle.std.proofs.lemmas.List.{drop_all}
use Rattle.edge_io.specs.Filling.{Fills}
use Rattle.edge_io.specs.Prefixed.{all_of}

all_is : (front : List ℕ) (o : Option (List ℕ)) → length front ≡ 4 → all_of front 0 o ≡ o
all_is front None long = refl
all_is front (Some bytes) long = ap (λ f. Some (f ++ bytes)) (drop_all 4 front (omega (arith, long)))

pub fills_behind : {E : Type 0} (front : List ℕ) (left : ℕ) (old new : Option (List ℕ)) (buf : List ℕ) (r : Result ℕ E) → left ≡ 0 → length front ≡ 4 → Fills old new buf r
    → Fills (all_of front left old) (all_of front left new) buf r
fills_behind front left old new buf r none long h =
    let same : (o : Option (List ℕ)) → o ≡ all_of front left o = λ o. sym (all_is front o long) ∙ ap (λ n. all_of front n o) (sym none) in
    subst (λ o. Fills o (all_of front left new) buf r) (same old) (subst (λ o. Fills old o buf r) (same new) h)
