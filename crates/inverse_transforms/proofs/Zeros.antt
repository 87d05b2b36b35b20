-- A flow leaves zeros.
use Rattle.std.proofs.Common.{◌≡◌, ℕ, zero, suc, ◌*◌, ◌<◌, ◌≤◌, ◌^◌, pos, true, inl, inr, List, [], ◌∷◌, map, take, length, set, refl, sym, ◌∙◌, ap, arith, Ok, nat_le}
use Rattle.std.specs.List.{list_all}
use Rattle.std.proofs.Math.IntN.{zero-*ℤ}
use Rattle.std.proofs.lemmas.List.{get_or-replicate, get_or_past, set-get_or, length-replicate, length-take-le}
use Rattle.std.proofs.lemmas.Bool.{and_parts, lt-ltb, cases_lt}
use borrow.Author.Tests.{leb-true}
use Rattle.std.proofs.lemmas.Simd.{splat_is_map}
use Rattle.vp9_tables.specs.declared.flow_row.FlowRow.{FlowRow}
use Rattle.vp9_tables.specs.declared.flow_row.FlowRow.TheVariants.{Perm, Rot, Sum, Neg, Wide}
use Rattle.vp9_tables.specs.TransformTables.{cosine_of, dct_of, is_order}
use Rattle.inverse_transforms.specs.declared.values.Two.{Two}
use Rattle.inverse_transforms.specs.declared.values.Four.{Four}
use Rattle.inverse_transforms.specs.Angles.{sine_of}
use Rattle.inverse_transforms.specs.Ranges.{round14}
use Rattle.inverse_transforms.specs.Flow.{at, zeros, turned_x, turned_y, rotated, sum_and_difference, rotated_wide, wide, two_fit, four_fit, store_two, store_four, permuted, flow_step, run_flow, is_within, is_reorder}
use Rattle.inverse_transforms.specs.Transforms.{dct, adst, adst_rows, adst_quad, adst_of_4, size_of_log2, wht, wht_quad, first_lifts, middle_lifts, last_lifts}

pub at_zeros : (n i : ℕ) → at (zeros n) i ≡ pos 0
at_zeros n i = elim (cases_lt i n) [
  | inl low ↦ get_or-replicate n i (pos 0) (pos 0) low
  | inr past ↦ get_or_past (zeros n) i (pos 0) (rw (length-replicate n (pos 0)) past)
]

set_zeros : (n i : ℕ) → set (zeros n) i (pos 0) ≡ zeros n
set_zeros n i = ap (set (zeros n) i) (sym (at_zeros n i)) ∙ set-get_or (zeros n) i (pos 0)

no_turn_x : (k : ℕ) → turned_x k (pos 0) (pos 0) ≡ pos 0
unfolding turned_x
no_turn_x k = rw (zero-*ℤ (cosine_of k), zero-*ℤ (sine_of k)) refl

no_turn_y : (k : ℕ) → turned_y k (pos 0) (pos 0) ≡ pos 0
unfolding turned_y
no_turn_y k = rw (zero-*ℤ (sine_of k), zero-*ℤ (cosine_of k)) refl

abbrev two_zeros : Two
two_zeros = record { first = pos 0; second = pos 0 }

abbrev four_zeros : Four
four_zeros = record { in_range = true; first = pos 0; second = pos 0; third = pos 0; fourth = pos 0 }

rotated_zeros : (k : ℕ) → rotated k (pos 0) (pos 0) ≡ two_zeros
unfolding rotated round14
rotated_zeros k = rw (no_turn_x k, no_turn_y k) refl

added_zeros : sum_and_difference (pos 0) (pos 0) ≡ two_zeros
unfolding sum_and_difference
added_zeros = refl

wide_zero : (limit : ℕ) → 0 < limit → wide limit (pos 0) ≡ true
wide_zero limit some = lt-ltb 0 (limit * 65536) (omega arith)

rotated_wide_zeros : (limit k m : ℕ) → 0 < limit → rotated_wide limit k m (pos 0) (pos 0) (pos 0) (pos 0) ≡ four_zeros
unfolding rotated_wide round14
rotated_wide_zeros limit k m some = rw (no_turn_x k, no_turn_y k, no_turn_x m, no_turn_y m, wide_zero limit some) refl

two_zeros_fit : (limit : ℕ) → 0 < limit → two_fit limit two_zeros ≡ true
unfolding two_fit
two_zeros_fit limit some = rw (lt-ltb 0 limit some) refl

four_zeros_fit : (limit : ℕ) → 0 < limit → four_fit limit four_zeros ≡ true
unfolding four_fit
four_zeros_fit limit some = rw (lt-ltb 0 limit some) refl

store_two_zeros : (limit n a b : ℕ) → 0 < limit → store_two limit (zeros n) a b two_zeros ≡ Ok (zeros n)
store_two_zeros limit n a b some = rw (two_zeros_fit limit some, set_zeros n a, set_zeros n b) refl

store_four_zeros : (limit n a b c d : ℕ) → 0 < limit → store_four limit (zeros n) a b c d four_zeros ≡ Ok (zeros n)
store_four_zeros limit n a b c d some = rw (four_zeros_fit limit some, set_zeros n a, set_zeros n b, set_zeros n c, set_zeros n d) refl

all_zeros : (n : ℕ) (places : List ℕ) → map (λ i. at (zeros n) i) places ≡ map (λ i. pos 0) places
all_zeros n [] = refl
all_zeros n (i ∷ places) = ap (λ z. z ∷ map (λ k. at (zeros n) k) places) (at_zeros n i) ∙ ap (λ zs. pos 0 ∷ zs) (all_zeros n places)

permuted_zeros : (n : ℕ) (order : List ℕ) → n ≤ length order → permuted order (zeros n) ≡ zeros n
permuted_zeros n order enough =
    ap (λ m. map (λ i. at (zeros n) i) (take m order)) (length-replicate n (pos 0))
    ∙ (all_zeros n (take n order) ∙ sym (splat_is_map (take n order) n (pos 0) (length-take-le n order enough)))

step_zeros : (limit n : ℕ) (row : FlowRow) → 0 < limit → is_within n row ≡ true → flow_step limit row (zeros n) ≡ Ok (zeros n)
unfolding flow_step
step_zeros limit n (Perm order) some within =
    let parts = and_parts (is_order n order) (is_reorder n (Perm order)) within in
    let sizes = and_parts (nat_le n (length order)) _ parts.1 in
    ap Ok (permuted_zeros n order (leb-true n (length order) sizes.0))
step_zeros limit n (Rot a b k) some within =
    rw (at_zeros n a, at_zeros n b, rotated_zeros k) (store_two_zeros limit n a b some)
step_zeros limit n (Sum a b) some within = rw (at_zeros n a, at_zeros n b, added_zeros) (store_two_zeros limit n a b some)
step_zeros limit n (Neg a) some within = rw (at_zeros n a, lt-ltb 0 limit some, set_zeros n a) refl
step_zeros limit n (Wide a b k c d m) some within =
    rw (at_zeros n a, at_zeros n b, at_zeros n c, at_zeros n d, rotated_wide_zeros limit k m some) (store_four_zeros limit n a b c d some)

pub run_zeros : (limit n : ℕ) (rows : List FlowRow) → 0 < limit → list_all (is_within n) rows ≡ true → run_flow limit rows (zeros n) ≡ Ok (zeros n)
run_zeros limit n [] some within = refl
run_zeros limit n (row ∷ rows) some within =
    let parts = and_parts _ _ within in
    rw (step_zeros limit n row some parts.0) (run_zeros limit n rows some parts.1)

pub dct_zeros : (limit log2 : ℕ) → 0 < limit → 2 ≤ log2 → log2 ≤ 5 → dct limit log2 (zeros (2 ^ log2)) ≡ Ok (zeros (2 ^ log2))
unfolding dct
dct_zeros limit zero some least most = absurd (omega arith)
dct_zeros limit (suc zero) some least most = absurd (omega arith)
dct_zeros limit (suc (suc zero)) some least most = run_zeros limit 4 (dct_of (size_of_log2 2)) some refl
dct_zeros limit (suc (suc (suc zero))) some least most = run_zeros limit 8 (dct_of (size_of_log2 3)) some refl
dct_zeros limit (suc (suc (suc (suc zero)))) some least most = run_zeros limit 16 (dct_of (size_of_log2 4)) some refl
dct_zeros limit (suc (suc (suc (suc (suc zero))))) some least most = run_zeros limit 32 (dct_of (size_of_log2 5)) some refl
dct_zeros limit (suc (suc (suc (suc (suc (suc k)))))) some least most = absurd (omega arith)

adst_quad_zeros : (limit : ℕ) → 0 < limit → adst_quad limit (pos 0) (pos 0) (pos 0) (pos 0) ≡ four_zeros
unfolding adst_quad round14
adst_quad_zeros limit some = rw (wide_zero limit some, lt-ltb 0 limit some) refl

pub adst_zeros : (limit log2 : ℕ) → 0 < limit → 2 ≤ log2 → log2 ≤ 4 → adst limit log2 (zeros (2 ^ log2)) ≡ Ok (zeros (2 ^ log2))
unfolding adst adst_of_4
adst_zeros limit zero some least most = absurd (omega arith)
adst_zeros limit (suc zero) some least most = absurd (omega arith)
adst_zeros limit (suc (suc zero)) some least most = rw (adst_quad_zeros limit some) (store_four_zeros limit 4 0 1 2 3 some)
adst_zeros limit (suc (suc (suc zero))) some least most = run_zeros limit 8 (adst_rows 3) some refl
adst_zeros limit (suc (suc (suc (suc zero)))) some least most = run_zeros limit 16 (adst_rows 4) some refl
adst_zeros limit (suc (suc (suc (suc (suc k))))) some least most = absurd (omega arith)

no_lifts : first_lifts (pos 0) (pos 0) (pos 0) (pos 0) ≡ four_zeros
unfolding first_lifts middle_lifts last_lifts
no_lifts = refl

wht_quad_zeros : (shift : ℕ) → shift ≤ 2 → wht_quad shift (pos 0) (pos 0) (pos 0) (pos 0) ≡ four_zeros
unfolding wht_quad
wht_quad_zeros zero most = no_lifts
wht_quad_zeros (suc zero) most = no_lifts
wht_quad_zeros (suc (suc zero)) most = no_lifts
wht_quad_zeros (suc (suc (suc k))) most = absurd (omega arith)

pub wht_zeros : (limit shift : ℕ) → 0 < limit → shift ≤ 2 → wht limit shift (zeros 4) ≡ Ok (zeros 4)
unfolding wht
wht_zeros limit shift some most = rw (wht_quad_zeros shift most) (store_four_zeros limit 4 0 1 2 3 some)
