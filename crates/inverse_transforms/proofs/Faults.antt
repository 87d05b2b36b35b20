-- What doesn't fit breaks one rule.
use Rattle.std.proofs.Common.{◌≡◌, ℕ, ℤ, Bool, true, false, List, [], ◌∷◌, cond, Result, Ok, Err, nat_eq}
use Rattle.vp9_types.specs.declared.rule.Rule.{Rule}
use Rattle.vp9_types.specs.declared.rule.Rule.TheVariants.{TransformRange}
use Rattle.vp9_tables.specs.declared.flow_row.FlowRow.{FlowRow}
use Rattle.vp9_tables.specs.declared.flow_row.FlowRow.TheVariants.{Perm, Rot, Sum, Neg, Wide}
use Rattle.vp9_tables.specs.TransformTables.{dct_of}
use Rattle.inverse_transforms.specs.Flow.{at, rotated, sum_and_difference, rotated_wide, two_fit, four_fit, flow_step, run_flow, and_then}
use Rattle.inverse_transforms.specs.Transforms.{dct, adst, adst_rows, adst_quad, adst_of_4, wht, size_of_log2}

refusal : (b : Bool) (ys : List ℤ) (rule : Rule) → cond {A = Result (List ℤ) Rule} b (Ok ys) (Err TransformRange) ≡ Err rule → rule ≡ TransformRange
refusal true ys rule h = let no : ⊥ = cc in absurd no
refusal false ys rule h = cc

step_fault : (limit : ℕ) (row : FlowRow) (xs : List ℤ) (rule : Rule) → flow_step limit row xs ≡ Err rule → rule ≡ TransformRange
unfolding flow_step
step_fault limit (Perm order) xs rule h = let no : ⊥ = cc in absurd no
step_fault limit (Rot a b k) xs rule h = refusal (two_fit limit (rotated k (at xs a) (at xs b))) _ rule h
step_fault limit (Sum a b) xs rule h = refusal (two_fit limit (sum_and_difference (at xs a) (at xs b))) _ rule h
step_fault limit (Neg a) xs rule h = refusal _ _ rule h
step_fault limit (Wide a b k c d m) xs rule h =
    refusal (four_fit limit (rotated_wide limit k m (at xs a) (at xs b) (at xs c) (at xs d))) _ rule h

-- a step, and what follows it
joined : (r : Result (List ℤ) Rule) (f : List ℤ → Result (List ℤ) Rule) (rule : Rule) →
    ((fault : Rule) → r ≡ Err fault → fault ≡ TransformRange) → ((xs : List ℤ) → f xs ≡ Err rule → rule ≡ TransformRange) →
    and_then r f ≡ Err rule → rule ≡ TransformRange
joined (Ok xs) f rule first rest h = rest xs h
joined (Err fault) f rule first rest h = first rule h

pub run_fault : (limit : ℕ) (rows : List FlowRow) (xs : List ℤ) (rule : Rule) → run_flow limit rows xs ≡ Err rule → rule ≡ TransformRange
run_fault limit [] xs rule h = let no : ⊥ = cc in absurd no
run_fault limit (row ∷ rows) xs rule h =
    joined (flow_step limit row xs) (run_flow limit rows) rule (λ fault. step_fault limit row xs fault) (λ ys. run_fault limit rows ys rule) h

pub dct_fault : (limit log2 : ℕ) (xs : List ℤ) (rule : Rule) → dct limit log2 xs ≡ Err rule → rule ≡ TransformRange
unfolding dct
dct_fault limit log2 xs rule h = run_fault limit (dct_of (size_of_log2 log2)) xs rule h

adst_of_4_fault : (limit : ℕ) (xs : List ℤ) (rule : Rule) → adst_of_4 limit xs ≡ Err rule → rule ≡ TransformRange
unfolding adst_of_4
adst_of_4_fault limit xs rule h = refusal (four_fit limit (adst_quad limit (at xs 0) (at xs 1) (at xs 2) (at xs 3))) _ rule h

either : (b : Bool) (r s : Result (List ℤ) Rule) (rule : Rule) → (r ≡ Err rule → rule ≡ TransformRange) → (s ≡ Err rule → rule ≡ TransformRange) →
    cond b r s ≡ Err rule → rule ≡ TransformRange
either true r s rule one other h = one h
either false r s rule one other h = other h

pub adst_fault : (limit log2 : ℕ) (xs : List ℤ) (rule : Rule) → adst limit log2 xs ≡ Err rule → rule ≡ TransformRange
unfolding adst
adst_fault limit log2 xs rule h =
    either (nat_eq log2 2) (adst_of_4 limit xs) (run_flow limit (adst_rows log2) xs) rule (adst_of_4_fault limit xs rule) (run_fault limit (adst_rows log2) xs rule) h

pub wht_fault : (limit shift : ℕ) (xs : List ℤ) (rule : Rule) → wht limit shift xs ≡ Err rule → rule ≡ TransformRange
unfolding wht
wht_fault limit shift xs rule h = refusal (four_fit limit _) _ rule h
