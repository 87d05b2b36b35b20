-- A flow runs step by step.
use Rattle.std.proofs.Common.{◌≡◌, ℕ, ◌+◌, ◌<◌, ◌≤◌, ℤ, List, length, drop, get_or, refl, sym, ◌∙◌, ap, Result, Ok, Err, add-one, drop-cons}
use Rattle.std.proofs.lemmas.List.{drop_all}
use Rattle.vp9_types.specs.declared.rule.Rule.{Rule}
use Rattle.vp9_tables.specs.declared.flow_row.FlowRow.{FlowRow}
use Rattle.inverse_transforms.specs.Flow.{flow_step, run_flow, and_then}

-- what is left of the flow, at step i, gives what the whole gives
next : (limit : ℕ) (rows : List FlowRow) (d : FlowRow) (i : ℕ) (xs : List ℤ) → i < length rows →
    run_flow limit (drop i rows) xs ≡ and_then (flow_step limit (get_or rows i d) xs) (run_flow limit (drop (i + 1) rows))
next limit rows d i xs low =
    ap (λ rest. run_flow limit rest xs) (drop-cons rows i d low)
    ∙ rw (add-one i) refl

pub stepped : (limit : ℕ) (rows : List FlowRow) (d : FlowRow) (i : ℕ) (xs ys : List ℤ) (whole : Result (List ℤ) Rule) →
    i < length rows → run_flow limit (drop i rows) xs ≡ whole → flow_step limit (get_or rows i d) xs ≡ Ok ys →
    run_flow limit (drop (i + 1) rows) ys ≡ whole
stepped limit rows d i xs ys whole low so_far gives =
    ap (λ r. and_then r (run_flow limit (drop (i + 1) rows))) (sym gives) ∙ (sym (next limit rows d i xs low) ∙ so_far)

pub broke : (limit : ℕ) (rows : List FlowRow) (d : FlowRow) (i : ℕ) (xs : List ℤ) (rule : Rule) (whole : Result (List ℤ) Rule) →
    i < length rows → run_flow limit (drop i rows) xs ≡ whole → flow_step limit (get_or rows i d) xs ≡ Err rule →
    whole ≡ Err rule
broke limit rows d i xs rule whole low so_far gives =
    sym so_far ∙ (next limit rows d i xs low ∙ ap (λ r. and_then r (run_flow limit (drop (i + 1) rows))) gives)

pub ended : (limit : ℕ) (rows : List FlowRow) (i : ℕ) (xs : List ℤ) (whole : Result (List ℤ) Rule) →
    length rows ≤ i → run_flow limit (drop i rows) xs ≡ whole → whole ≡ Ok xs
ended limit rows i xs whole past so_far = sym so_far ∙ ap (λ rest. run_flow limit rest xs) (drop_all i rows past)

first_gives : (r : Result (List ℤ) Rule) (f : List ℤ → Result (List ℤ) Rule) (ys : List ℤ) → and_then r f ≡ Ok ys → (zs : List ℤ) × (r ≡ Ok zs)
first_gives (Ok zs) f ys h = (zs, refl)
first_gives (Err rule) f ys h = let no : ⊥ = cc in absurd no

-- where the whole gives some list, so does each step
pub goes_on : (limit : ℕ) (rows : List FlowRow) (d : FlowRow) (i : ℕ) (xs ys : List ℤ) (whole : Result (List ℤ) Rule) → i < length rows →
    run_flow limit (drop i rows) xs ≡ whole → whole ≡ Ok ys → (zs : List ℤ) × (flow_step limit (get_or rows i d) xs ≡ Ok zs)
goes_on limit rows d i xs ys whole low so_far is =
    first_gives (flow_step limit (get_or rows i d) xs) (run_flow limit (drop (i + 1) rows)) ys (sym (next limit rows d i xs low) ∙ (so_far ∙ is))
