-- Levels become coefficients one place after another.
use Rattle.std.proofs.Common.{◌≡◌, ℕ, ◌+◌, ◌<◌, ◌≤◌, ℤ, pos, true, false, List, length, set, refl, sym, ◌∙◌, ap, arith, below_more, length-set, All, to_z, of_z, Ok, Err}
use Rattle.std.proofs.lemmas.Int.{to_z-of_z}
use mir.Syntax.{w32}
use mir.Val.{SFits}
use Rattle.vp9_types.specs.declared.rule.Rule.{Rule}
use Rattle.vp9_types.specs.declared.rule.Rule.TheVariants.{CoefRange}
use Rattle.inverse_transforms.proofs.LaneLemmas.{kept}
use Rattle.std.specs.List.{list_all}
use Rattle.std.proofs.lemmas.Grind.{get_or-set_at}
use Rattle.std.proofs.lemmas.List.{get_or-set_other, get_or_default, ext_get_or}
use Rattle.std.proofs.lemmas.List.Folds.{list_all_at}
use Rattle.std.proofs.lemmas.List.Sums.{list_all-from_AllPass}
use Rattle.std.proofs.lemmas.List.FromFn.{get_or-map-range_with_len, length-map-range_with_len}
use Rattle.vp9_types.specs.declared.block.TxSize.{TxSize}
use Rattle.inverse_transforms.specs.Ranges.{fits, limit_of, IsSmall}
use Rattle.inverse_transforms.specs.Flow.{at}
use Rattle.residue_transforms.specs.declared.quant.Quant.{Quant}
use Rattle.residue_transforms.specs.Residue.{IsLevel, Fitting, coefficient, coefficients}

-- the first n places are done, and all fit
pub record SoFar (quant : Quant) (tx : TxSize) (old now : List ℤ) (n : ℕ) : Type 0 where
  pub size : length now ≡ length old
  pub done : (k : ℕ) → k < n → at now k ≡ coefficient quant tx k (at old k)
  pub fit : (k : ℕ) → k < n → fits (limit_of quant.depth) (coefficient quant tx k (at old k)) ≡ true
  pub rest : (k : ℕ) → n ≤ k → at now k ≡ at old k

pub one_more : (quant : Quant) (tx : TxSize) (old now : List ℤ) (n : ℕ) (v : ℤ) → n < length now → SoFar quant tx old now n →
    fits (limit_of quant.depth) (coefficient quant tx n (at now n)) ≡ true → v ≡ coefficient quant tx n (at now n) →
    SoFar quant tx old (set now n v) (n + 1)
one_more quant tx old now n v low s fit is =
    let here : at now n ≡ at old n = s.rest n (omega arith) in
    let value : v ≡ coefficient quant tx n (at old n) = is ∙ ap (coefficient quant tx n) here in
    record {
      size = simp length-set s.size;
      done = below_more (λ k. at (set now n v) k ≡ coefficient quant tx k (at old k)) n
          (λ k h. get_or-set_other now n k v (pos 0) (λ same. omega arith) ∙ s.done k h)
          (get_or-set_at now n n v (pos 0) refl low ∙ value);
      fit = below_more (λ k. fits (limit_of quant.depth) (coefficient quant tx k (at old k)) ≡ true) n s.fit
          (ap (λ z. fits (limit_of quant.depth) (coefficient quant tx n z)) (sym here) ∙ fit);
      rest = λ k h. get_or-set_other now n k v (pos 0) (λ same. omega arith) ∙ s.rest k (omega arith);
    }

pub at_coefficients : (quant : Quant) (tx : TxSize) (old : List ℤ) (k : ℕ) → k < length old →
    at (coefficients quant tx old) k ≡ coefficient quant tx k (at old k)
at_coefficients quant tx old k low =
    get_or-map-range_with_len (λ place. coefficient quant tx place (at old place)) 0 (length old) k k (pos 0) low (omega arith)

pub misfit_at : (quant : Quant) (tx : TxSize) (old : List ℤ) (n : ℕ) → n < length old → fits (limit_of quant.depth) (coefficient quant tx n (at old n)) ≡ false →
    list_all (fits (limit_of quant.depth)) (coefficients quant tx old) ≡ false
misfit_at quant tx old n low fails =
    let size = length-map-range_with_len (λ place. coefficient quant tx place (at old place)) 0 (length old) in
    list_all_at (fits (limit_of quant.depth)) (coefficients quant tx old) n (pos 0) (omega (arith, size))
    (ap (fits (limit_of quant.depth)) (at_coefficients quant tx old n low) ∙ fails)

one_misfit : (quant : Quant) (tx : TxSize) (old now : List ℤ) (n : ℕ) → n < length now → SoFar quant tx old now n →
    fits (limit_of quant.depth) (coefficient quant tx n (at now n)) ≡ false →
    list_all (fits (limit_of quant.depth)) (coefficients quant tx old) ≡ false
one_misfit quant tx old now n low s fails =
    misfit_at quant tx old n (omega (arith, s.size))
    (ap (λ z. fits (limit_of quant.depth) (coefficient quant tx n z)) (sym (s.rest n (omega arith))) ∙ fails)

level_kept : (old now : List ℤ) (n : ℕ) → All IsLevel old → length now ≡ length old → n < length now → at now n ≡ at old n →
    to_z w32 (of_z w32 (at now n)) ≡ at now n
level_kept old now n levels size low here =
    let level : IsLevel (at old n) = levels n (pos 0) (omega (arith, size)) in
    let small : IsSmall (at now n) = rw here (omega (arith, level)) in
    kept (at now n) small

pub one_step : (quant : Quant) (tx : TxSize) (old now : List ℤ) (n : ℕ) (v : ℤ) → All IsLevel old → n < length now → SFits w32 v →
    SoFar quant tx old now n → Fitting (limit_of quant.depth) (coefficient quant tx n (to_z w32 (of_z w32 (at now n)))) (Ok v) →
    SoFar quant tx old (set now n (to_z w32 (of_z w32 v))) (n + 1)
one_step quant tx old now n v levels low in_i32 s h =
    let same = level_kept old now n levels s.size low (s.rest n (omega arith)) in
    let there = rw same at h in
    rw (to_z-of_z w32 v in_i32) (one_more quant tx old now n v low s there.0 there.1)

pub one_refused : (quant : Quant) (tx : TxSize) (old now : List ℤ) (n : ℕ) (rule : Rule) → All IsLevel old → n < length now →
    SoFar quant tx old now n → Fitting (limit_of quant.depth) (coefficient quant tx n (to_z w32 (of_z w32 (at now n)))) (Err rule) →
    (list_all (fits (limit_of quant.depth)) (coefficients quant tx old) ≡ false) × (rule ≡ CoefRange)
one_refused quant tx old now n rule levels low s h =
    let same = level_kept old now n levels s.size low (s.rest n (omega arith)) in
    let there = rw same at h in
    (one_misfit quant tx old now n low s there.0, there.1)

pub all_done : (quant : Quant) (tx : TxSize) (old now : List ℤ) (n : ℕ) → length now ≤ n → SoFar quant tx old now n →
    (list_all (fits (limit_of quant.depth)) (coefficients quant tx old) ≡ true) × (now ≡ coefficients quant tx old)
all_done quant tx old now n past s =
    let size = length-map-range_with_len (λ place. coefficient quant tx place (at old place)) 0 (length old) in (
      list_all-from_AllPass (fits (limit_of quant.depth)) (coefficients quant tx old) (λ k d low.
          rw (get_or_default (coefficients quant tx old) k d (pos 0) low)
          (ap (fits (limit_of quant.depth)) (at_coefficients quant tx old k (omega (arith, size))) ∙ s.fit k (omega (arith, size, s.size)))),
      ext_get_or (pos 0) now (coefficients quant tx old) (s.size ∙ sym size) (λ k low.
          s.done k (omega arith) ∙ sym (at_coefficients quant tx old k (omega (arith, s.size)))),
    )
