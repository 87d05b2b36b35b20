-- What is stored is small: at most m, which may be any bound that is no less than the limit.
use Rattle.std.proofs.Common.{◌≡◌, ℕ, ◌≤◌, ℤ, pos, negsuc, neg_ℤ, unsigned_abs, Bool, true, false, inl, inr, List, take, length, set, get_or, refl, subst, arith, All, Result, Ok, Err, cond, nat_eq, ◌∷◌, []}
use Rattle.std.proofs.lemmas.List.Elements.{All-set, All-map}
use Rattle.std.proofs.lemmas.List.{get_or_past}
use Rattle.std.proofs.lemmas.Bool.{and_parts, cases_lt}
use Rattle.vp9_types.specs.declared.rule.Rule.TheVariants.{TransformRange}
use Rattle.vp9_types.specs.declared.rule.Rule.{Rule}
use Rattle.vp9_tables.specs.declared.flow_row.FlowRow.{FlowRow}
use Rattle.vp9_tables.specs.declared.flow_row.FlowRow.TheVariants.{Perm, Rot, Sum, Neg, Wide}
use borrow.Author.Tests.{ltb-true}
use Rattle.inverse_transforms.specs.declared.values.Two.{Two}
use Rattle.inverse_transforms.specs.declared.values.Four.{Four}
use Rattle.inverse_transforms.specs.Flow.{at, two_fit, four_fit, permuted, store_one, store_two, store_four, flow_step, rotated, sum_and_difference, rotated_wide, run_flow, and_then}
use Rattle.inverse_transforms.specs.Transforms.{dct, adst, adst_rows, adst_of_4, adst_quad, wht, wht_quad, size_of_log2}
use Rattle.vp9_tables.specs.TransformTables.{dct_of}
use Rattle.inverse_transforms.specs.Ranges.{fits}

abbrev pub AtMost : ℕ → ℤ → Type 0
AtMost m x = unsigned_abs x ≤ m

pub fits_small : (m limit : ℕ) (x : ℤ) → limit ≤ m → fits limit x ≡ true → AtMost m x
fits_small m limit (pos x) most h = omega (arith, ltb-true x limit h)
fits_small m limit (negsuc x) most h = omega (arith, ltb-true x limit h)

pub two_small : (m limit : ℕ) (v : Two) → limit ≤ m → two_fit limit v ≡ true → AtMost m v.first × AtMost m v.second
unfolding two_fit
two_small m limit v most h =
    let parts = and_parts _ _ h in
    (fits_small m limit v.first most parts.0, fits_small m limit v.second most parts.1)

pub four_small : (m limit : ℕ) (v : Four) → limit ≤ m → four_fit limit v ≡ true → AtMost m v.first × AtMost m v.second × AtMost m v.third × AtMost m v.fourth
unfolding four_fit
four_small m limit v most h =
    let a = and_parts _ _ h in
    let b = and_parts _ _ a.1 in
    let c = and_parts _ _ b.1 in
    let d = and_parts _ _ c.1 in
    (fits_small m limit v.first most b.0, fits_small m limit v.second most c.0, fits_small m limit v.third most d.0, fits_small m limit v.fourth most d.1)

pub at_small : (m : ℕ) (xs : List ℤ) (i : ℕ) → All (AtMost m) xs → AtMost m (at xs i)
at_small m xs i h =
    elim (cases_lt i (length xs)) [
      | inl low ↦ h i (pos 0) low
      | inr past ↦ rw (get_or_past xs i (pos 0) past) (omega arith)
    ]

pub permuted_small : (m : ℕ) (order : List ℕ) (xs : List ℤ) → All (AtMost m) xs → All (AtMost m) (permuted order xs)
permuted_small m order xs h = All-map (AtMost m) (λ i. at xs i) (take (length xs) order) (λ k d low. at_small m xs (get_or (take (length xs) order) k d) h)

-- what is stored is stored under its test
pub kept : (b : Bool) (zs ys : List ℤ) (rule : Rule) → cond {A = Result (List ℤ) Rule} b (Ok zs) (Err rule) ≡ Ok ys → (b ≡ true) × (zs ≡ ys)
kept true zs ys rule h = (refl, cc)
kept false zs ys rule h = let no : ⊥ = cc in absurd no

pub two_fits : (limit : ℕ) (xs ys : List ℤ) (a b : ℕ) (v : Two) → store_two limit xs a b v ≡ Ok ys → two_fit limit v ≡ true
two_fits limit xs ys a b v h = (kept (two_fit limit v) (set (set xs a v.first) b v.second) ys TransformRange h).0

one_small : (m limit : ℕ) (xs ys : List ℤ) (a : ℕ) (v : ℤ) → limit ≤ m → All (AtMost m) xs → store_one limit xs a v ≡ Ok ys → All (AtMost m) ys
one_small m limit xs ys a v most small h =
    let k = kept (fits limit v) (set xs a v) ys TransformRange h in
    subst (All (AtMost m)) k.1 (All-set (AtMost m) xs a v (fits_small m limit v most k.0) small)

stored_two_small : (m limit : ℕ) (xs ys : List ℤ) (a b : ℕ) (v : Two) → limit ≤ m → All (AtMost m) xs → store_two limit xs a b v ≡ Ok ys → All (AtMost m) ys
stored_two_small m limit xs ys a b v most small h =
    let k = kept (two_fit limit v) (set (set xs a v.first) b v.second) ys TransformRange h in
    let s = two_small m limit v most k.0 in
    subst (All (AtMost m)) k.1 (All-set (AtMost m) _ b v.second s.1 (All-set (AtMost m) xs a v.first s.0 small))

pub stored_four_small : (m limit : ℕ) (xs ys : List ℤ) (a b c d : ℕ) (v : Four) → limit ≤ m → All (AtMost m) xs → store_four limit xs a b c d v ≡ Ok ys → All (AtMost m) ys
stored_four_small m limit xs ys a b c d v most small h =
    let k = kept (four_fit limit v) (set (set (set (set xs a v.first) b v.second) c v.third) d v.fourth) ys TransformRange h in
    let s = four_small m limit v most k.0 in
    subst (All (AtMost m)) k.1 (All-set (AtMost m) _ d v.fourth s.3 (All-set (AtMost m) _ c v.third s.2
    (All-set (AtMost m) _ b v.second s.1 (All-set (AtMost m) xs a v.first s.0 small))))

pub step_small : (m limit : ℕ) (row : FlowRow) (xs ys : List ℤ) → limit ≤ m → All (AtMost m) xs → flow_step limit row xs ≡ Ok ys → All (AtMost m) ys
unfolding flow_step
step_small m limit (Perm order) xs ys most small h =
    let same : permuted order xs ≡ ys = cc in subst (All (AtMost m)) same (permuted_small m order xs small)
step_small m limit (Rot a b k) xs ys most small h = stored_two_small m limit xs ys a b (rotated k (at xs a) (at xs b)) most small h
step_small m limit (Sum a b) xs ys most small h = stored_two_small m limit xs ys a b (sum_and_difference (at xs a) (at xs b)) most small h
step_small m limit (Neg a) xs ys most small h = one_small m limit xs ys a (neg_ℤ (at xs a)) most small h
step_small m limit (Wide a b k c d n) xs ys most small h =
    stored_four_small m limit xs ys a b c d (rotated_wide limit k n (at xs a) (at xs b) (at xs c) (at xs d)) most small h

-- what comes of a step, and of what follows it
then_small : (m : ℕ) (r : Result (List ℤ) Rule) (f : List ℤ → Result (List ℤ) Rule) (ys : List ℤ) →
    ((xs : List ℤ) → r ≡ Ok xs → All (AtMost m) xs) → ((xs : List ℤ) → All (AtMost m) xs → f xs ≡ Ok ys → All (AtMost m) ys) →
    and_then r f ≡ Ok ys → All (AtMost m) ys
then_small m (Ok xs) f ys first rest h = rest xs (first xs refl) h
then_small m (Err rule) f ys first rest h = let no : ⊥ = cc in absurd no

pub run_small : (m limit : ℕ) (rows : List FlowRow) (xs ys : List ℤ) → limit ≤ m → All (AtMost m) xs → run_flow limit rows xs ≡ Ok ys → All (AtMost m) ys
run_small m limit [] xs ys most small h = let same : xs ≡ ys = cc in subst (All (AtMost m)) same small
run_small m limit (row ∷ rows) xs ys most small h =
    then_small m (flow_step limit row xs) (run_flow limit rows) ys (λ zs is. step_small m limit row xs zs most small is)
    (λ zs zs_small is. run_small m limit rows zs ys most zs_small is) h

pub dct_small : (m limit log2 : ℕ) (xs ys : List ℤ) → limit ≤ m → All (AtMost m) xs → dct limit log2 xs ≡ Ok ys → All (AtMost m) ys
unfolding dct
dct_small m limit log2 xs ys most small h = run_small m limit (dct_of (size_of_log2 log2)) xs ys most small h

adst_of_4_small : (m limit : ℕ) (xs ys : List ℤ) → limit ≤ m → All (AtMost m) xs → adst_of_4 limit xs ≡ Ok ys → All (AtMost m) ys
unfolding adst_of_4
adst_of_4_small m limit xs ys most small h =
    stored_four_small m limit xs ys 0 1 2 3 (adst_quad limit (at xs 0) (at xs 1) (at xs 2) (at xs 3)) most small h

one_of : (m : ℕ) (b : Bool) (r s : Result (List ℤ) Rule) (ys : List ℤ) → (r ≡ Ok ys → All (AtMost m) ys) → (s ≡ Ok ys → All (AtMost m) ys) →
    cond b r s ≡ Ok ys → All (AtMost m) ys
one_of m true r s ys one other h = one h
one_of m false r s ys one other h = other h

pub adst_small : (m limit log2 : ℕ) (xs ys : List ℤ) → limit ≤ m → All (AtMost m) xs → adst limit log2 xs ≡ Ok ys → All (AtMost m) ys
unfolding adst
adst_small m limit log2 xs ys most small h =
    one_of m (nat_eq log2 2) (adst_of_4 limit xs) (run_flow limit (adst_rows log2) xs) ys (adst_of_4_small m limit xs ys most small)
    (run_small m limit (adst_rows log2) xs ys most small) h

pub wht_small : (m limit shift : ℕ) (xs ys : List ℤ) → limit ≤ m → All (AtMost m) xs → wht limit shift xs ≡ Ok ys → All (AtMost m) ys
unfolding wht
wht_small m limit shift xs ys most small h =
    stored_four_small m limit xs ys 0 1 2 3 (wht_quad shift (at xs 0) (at xs 1) (at xs 2) (at xs 3)) most small h
