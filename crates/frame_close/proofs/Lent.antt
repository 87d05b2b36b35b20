-- Tile columns whose counts are lent.
use Rattle.std.proofs.Common.{◌≡◌, ◌∙◌, ◌<◌, ◌+◌, ℕ, List, length, get_or, sym, ap, arith, inl, inr, Bor}
use Rattle.std.specs.Prelude.{◌==◌, Result, Err}
use Rattle.std.proofs.lemmas.Bool.{cases_Bool, eqb-false, eqb-true}
use Rattle.std.proofs.lemmas.List.{get_or-map, length-map}
use Rattle.tile_syntax.specs.declared.plans.Unplanned.{Unplanned}
use Rattle.tile_syntax.specs.declared.plans.Unplanned.TheVariants as unplanned
use Rattle.frame_close.specs.Code.{lent, lent_result, result_at}

-- none of the first n wants memory
abbrev pub NoneWants : List (Result (Bor (List ℕ)) Unplanned) → ℕ → Type 0
NoneWants columns n = (k : ℕ) → k < n → result_at (lent columns) k ≡ Err unplanned.OutOfMemory → ⊥

pub none_more : (columns : List (Result (Bor (List ℕ)) Unplanned)) (n : ℕ) (d : Result (Bor (List ℕ)) Unplanned) → n < length columns → NoneWants columns n
    → (lent_result (get_or columns n d) ≡ Err unplanned.OutOfMemory → ⊥) → NoneWants columns (n + 1)
none_more columns n d low none other k below wants = elim (cases_Bool (k == n)) [
  | inl same ↦
      let same : k ≡ n = eqb-true k n same in
      other (sym (get_or-map lent_result columns n d (Err unplanned.OutOfMemory) low) ∙ (ap (result_at (lent columns)) (sym same) ∙ wants))
  | inr before ↦
      let before : k < n = omega (arith, below, eqb-false k n before) in
      none k before wants
]

pub lent_many : (columns : List (Result (Bor (List ℕ)) Unplanned)) → length columns ≡ length (lent columns)
lent_many columns = sym (length-map columns lent_result)
