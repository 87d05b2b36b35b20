-- The DCT of 4 as a formula: what the flow gives, where it gives some list.
use Rattle.std.proofs.Common.{◌≡◌, ℕ, ◌<◌, ◌≤◌, ◌^◌, ℤ, pos, neg_ℤ, List, [], ◌∷◌, length, set, get_or, refl, sym, ◌∙◌, ap, subst, arith, All, Result, Ok, Err}
use Rattle.std.proofs.lemmas.List.{length-map}
use Rattle.std.proofs.lemmas.List.Elements.{All-set}
use Rattle.vp9_types.specs.declared.rule.Rule.{Rule}
use Rattle.vp9_types.specs.declared.rule.Rule.TheVariants.{TransformRange}
use Rattle.vp9_tables.specs.declared.flow_row.FlowRow.{FlowRow}
use Rattle.vp9_tables.specs.declared.flow_row.FlowRow.TheVariants.{Perm, Rot, Sum, Neg, Wide}
use Rattle.vp9_tables.specs.declared.data.flows.TheConstants.{FLOW_DCT_4}
use Rattle.inverse_transforms.specs.declared.values.Two.{Two}
use Rattle.inverse_transforms.specs.declared.values.Four.{Four}
use Rattle.inverse_transforms.specs.Flow.{at, magnitude, flow_step, run_flow, and_then, permuted, two_fit, four_fit, rotated, sum_and_difference, rotated_wide, IsCalm}
use Rattle.inverse_transforms.specs.LaneColumns.{column, FourLanes}
use Rattle.inverse_transforms.specs.Ranges.{IsSmall, fits}
use Rattle.inverse_transforms.specs.Transforms.{dct}
use Rattle.inverse_transforms.specs.Straight.{dct_quad}
use Rattle.inverse_transforms.proofs.Small.{kept, dct_small}
use Rattle.inverse_transforms.proofs.ColumnLemmas.{column_set_four, four_of_column, lanes_small}
use Rattle.inverse_transforms.proofs.CalmColumns.{magnitude_bounds}
use Rattle.inverse_transforms.proofs.CalmTables.{calm_dct_4}

abbrev two_put : List ℤ → ℕ → ℕ → Two → List ℤ
two_put xs a b v = set (set xs a v.first) b v.second

abbrev four_put : List ℤ → ℕ → ℕ → ℕ → ℕ → Four → List ℤ
four_put xs a b c d v = set (set (set (set xs a v.first) b v.second) c v.third) d v.fourth

-- a step whose values aren't tested
abbrev loosely : FlowRow → List ℤ → List ℤ
loosely (Perm order) xs = permuted order xs
loosely (Rot a b k) xs = two_put xs a b (rotated k (at xs a) (at xs b))
loosely (Sum a b) xs = two_put xs a b (sum_and_difference (at xs a) (at xs b))
loosely (Neg a) xs = set xs a (neg_ℤ (at xs a))
loosely (Wide a b k c d m) xs = four_put xs a b c d (rotated_wide 0 k m (at xs a) (at xs b) (at xs c) (at xs d))

abbrev pub loose : List FlowRow → List ℤ → List ℤ
loose [] xs = xs
loose (row ∷ rows) xs = loose rows (loosely row xs)

step_loosely : (limit : ℕ) (row : FlowRow) (xs ys : List ℤ) → flow_step limit row xs ≡ Ok ys → loosely row xs ≡ ys
unfolding flow_step rotated_wide
step_loosely limit (Perm order) xs ys h = cc
step_loosely limit (Rot a b k) xs ys h =
    let v = rotated k (at xs a) (at xs b) in (kept (two_fit limit v) (two_put xs a b v) ys TransformRange h).1
step_loosely limit (Sum a b) xs ys h =
    let v = sum_and_difference (at xs a) (at xs b) in (kept (two_fit limit v) (two_put xs a b v) ys TransformRange h).1
step_loosely limit (Neg a) xs ys h =
    let v = neg_ℤ (at xs a) in (kept (fits limit v) (set xs a v) ys TransformRange h).1
step_loosely limit (Wide a b k c d m) xs ys h =
    let v = rotated_wide limit k m (at xs a) (at xs b) (at xs c) (at xs d) in (kept (four_fit limit v) (four_put xs a b c d v) ys TransformRange h).1

then_loosely : (r : Result (List ℤ) Rule) (f : List ℤ → Result (List ℤ) Rule) (row : FlowRow) (rows : List FlowRow) (xs ys : List ℤ) →
    ((zs : List ℤ) → r ≡ Ok zs → loosely row xs ≡ zs) → ((zs : List ℤ) → f zs ≡ Ok ys → loose rows zs ≡ ys) →
    and_then r f ≡ Ok ys → loose rows (loosely row xs) ≡ ys
then_loosely (Ok zs) f row rows xs ys first rest h = ap (loose rows) (first zs refl) ∙ rest zs h
then_loosely (Err rule) f row rows xs ys first rest h = let no : ⊥ = cc in absurd no

pub run_loosely : (limit : ℕ) (rows : List FlowRow) (xs ys : List ℤ) → run_flow limit rows xs ≡ Ok ys → loose rows xs ≡ ys
run_loosely limit [] xs ys h = cc
run_loosely limit (row ∷ rows) xs ys h =
    then_loosely (flow_step limit row xs) (run_flow limit rows) row rows xs ys (λ zs is. step_loosely limit row xs zs is) (λ zs is. run_loosely limit rows zs ys is) h

abbrev quad_of : List ℤ → Four
quad_of xs = dct_quad (at xs 0) (at xs 1) (at xs 2) (at xs 3)

four_values : (xs : List ℤ) → length xs ≡ 4 → loose FLOW_DCT_4 xs ≡ four_put xs 0 1 2 3 (quad_of xs)
unfolding dct_quad
four_values [] size = absurd (omega (arith, size))
four_values (a ∷ []) size = absurd (omega (arith, size))
four_values (a ∷ b ∷ []) size = absurd (omega (arith, size))
four_values (a ∷ b ∷ c ∷ []) size = absurd (omega (arith, size))
four_values (a ∷ b ∷ c ∷ d ∷ []) size = refl
four_values (a ∷ b ∷ c ∷ d ∷ e ∷ xs) size = absurd (omega (arith, size))

pub straight : (limit : ℕ) (xs : List ℤ) → 2 ^ 15 ≤ limit → length xs ≡ 4 → magnitude xs ≤ 2 ^ 15 →
    dct limit 2 xs ≡ Ok (four_put xs 0 1 2 3 (quad_of xs))
unfolding dct IsCalm
straight limit xs most size few =
    let given = calm_dct_4 xs size few in
    let gives : run_flow limit FLOW_DCT_4 xs ≡ Ok given.0 = given.1 limit most in
    gives ∙ ap Ok (sym (run_loosely limit FLOW_DCT_4 xs given.0 gives) ∙ four_values xs size)

abbrev pub AreSmall : Four → Type 0
AreSmall w = IsSmall w.first × IsSmall w.second × IsSmall w.third × IsSmall w.fourth

put_small : (xs : List ℤ) (w : Four) → length xs ≡ 4 → All IsSmall (four_put xs 0 1 2 3 w) → AreSmall w
put_small [] w size small = absurd (omega (arith, size))
put_small (a ∷ []) w size small = absurd (omega (arith, size))
put_small (a ∷ b ∷ []) w size small = absurd (omega (arith, size))
put_small (a ∷ b ∷ c ∷ []) w size small = absurd (omega (arith, size))
put_small (a ∷ b ∷ c ∷ d ∷ []) w size small =
    (small 0 (pos 0) (omega arith), small 1 (pos 0) (omega arith), small 2 (pos 0) (omega arith), small 3 (pos 0) (omega arith))
put_small (a ∷ b ∷ c ∷ d ∷ e ∷ xs) w size small = absurd (omega (arith, size))

pub quad_small : (xs : List ℤ) → length xs ≡ 4 → magnitude xs ≤ 2 ^ 15 → AreSmall (quad_of xs)
quad_small xs size few =
    let small : All IsSmall xs = λ k d low. omega (arith, magnitude_bounds (2 ^ 15) xs few k d low) in
    put_small xs (quad_of xs) size
    (dct_small (2 ^ 24) (2 ^ 15) 2 xs (four_put xs 0 1 2 3 (quad_of xs)) (omega arith) small (straight (2 ^ 15) xs (omega arith) size few))

-- four rows of lanes, made by the formula of the four rows of t
pub record QuadMade (t : List (List ℤ)) (p q r s : List ℤ) : Type 0 where
  pub size : length t ≡ 4
  pub few : (j : ℕ) → j < 8 → magnitude (column j t) ≤ 2 ^ 15
  pub made : FourLanes dct_quad (get_or t 0 []) (get_or t 1 []) (get_or t 2 []) (get_or t 3 []) p q r s 8

quad_is : (t : List (List ℤ)) (p q r s : List ℤ) → QuadMade t p q r s → (j : ℕ) →
    quad_of (column j t) ≡ dct_quad (at (get_or t 0 []) j) (at (get_or t 1 []) j) (at (get_or t 2 []) j) (at (get_or t 3 []) j)
quad_is t p q r s m j =
    four_of_column dct_quad t 0 1 2 3 (omega (arith, m.size)) (omega (arith, m.size)) (omega (arith, m.size)) (omega (arith, m.size)) j

put_given : (xs : List ℤ) (w : Four) (p q r s : ℤ) → p ≡ w.first → q ≡ w.second → r ≡ w.third → s ≡ w.fourth →
    four_put xs 0 1 2 3 w ≡ set (set (set (set xs 0 p) 1 q) 2 r) 3 s
put_given xs w p q r s p_is q_is r_is s_is = rw (p_is, q_is, r_is, s_is) refl

pub quads_given : (t : List (List ℤ)) (p q r s : List ℤ) → QuadMade t p q r s → (limit j : ℕ) → 2 ^ 15 ≤ limit → j < 8 →
    dct limit 2 (column j t) ≡ Ok (column j (set (set (set (set t 0 p) 1 q) 2 r) 3 s))
quads_given t p q r s m limit j most low =
    straight limit (column j t) most (length-map t (λ row. at row j) ∙ m.size) (m.few j low)
    ∙ ap Ok (ap (four_put (column j t) 0 1 2 3) (quad_is t p q r s m j)
    ∙ (put_given (column j t) (dct_quad (at (get_or t 0 []) j) (at (get_or t 1 []) j) (at (get_or t 2 []) j) (at (get_or t 3 []) j)) (at p j) (at q j) (at r j) (at s j) (m.made.first j low) (m.made.second j low) (m.made.third j low) (m.made.fourth j low)
    ∙ sym (column_set_four j t 0 1 2 3 p q r s)))

pub quads_small : (t : List (List ℤ)) (p q r s : List ℤ) → QuadMade t p q r s → length p ≡ 8 → length q ≡ 8 → length r ≡ 8 → length s ≡ 8 →
    All (All IsSmall) t → All (All IsSmall) (set (set (set (set t 0 p) 1 q) 2 r) 3 s)
quads_small t p q r s m p_size q_size r_size s_size small =
    let each = λ (j : ℕ) (low : j < 8). subst AreSmall (quad_is t p q r s m j)
    (quad_small (column j t) (length-map t (λ row. at row j) ∙ m.size) (m.few j low)) in
    let p_small : All IsSmall p = lanes_small p p_size (λ j low. rw (m.made.first j low) (each j low).0) in
    let q_small : All IsSmall q = lanes_small q q_size (λ j low. rw (m.made.second j low) (each j low).1) in
    let r_small : All IsSmall r = lanes_small r r_size (λ j low. rw (m.made.third j low) (each j low).2) in
    let s_small : All IsSmall s = lanes_small s s_size (λ j low. rw (m.made.fourth j low) (each j low).3) in
    All-set (All IsSmall) _ 3 s s_small (All-set (All IsSmall) _ 2 r r_small (All-set (All IsSmall) _ 1 q q_small (All-set (All IsSmall) t 0 p p_small small)))
