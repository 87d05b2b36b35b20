-- The DCT of 8 as a formula: what the flow gives, where it gives some list.
use Rattle.std.proofs.Common.{◌≡◌, ℕ, ◌+◌, ◌*◌, ◌<◌, ◌≤◌, ◌^◌, ℤ, pos, negsuc, ◌+ℤ◌, ◌-ℤ◌, ◌*ℤ◌, unsigned_abs, List, [], ◌∷◌, length, set, get_or, refl, sym, ◌∙◌, ap, subst, arith, All, Ok, to_z, of_z, true}
use Rattle.std.specs.Int.{int_shr}
use Rattle.std.proofs.lemmas.Int.{unsigned_abs-mul}
use Rattle.std.proofs.lemmas.List.{length-map}
use Rattle.std.proofs.lemmas.List.Elements.{All-set}
use Rattle.std.proofs.lemmas.Bool.{leb-true}
use Rattle.std.proofs.Math.Nat.{mul-le-mul}
use mir.Syntax.{w32}
use Rattle.vp9_tables.specs.TransformTables.{cosine_of}
use Rattle.vp9_tables.specs.declared.data.flows.TheConstants.{FLOW_DCT_8}
use Rattle.inverse_transforms.specs.declared.values.Two.{Two}
use Rattle.inverse_transforms.specs.declared.values.Four.{Four}
use Rattle.inverse_transforms.specs.Angles.{sine_of}
use Rattle.inverse_transforms.specs.Flow.{at, magnitude, run_flow, rotated, turned_x, turned_y, sum_and_difference, IsCalm}
use Rattle.inverse_transforms.specs.LaneColumns.{column, TwoLanes, FourLanes}
use Rattle.inverse_transforms.specs.Ranges.{IsSmall, IsNarrow, round14}
use Rattle.inverse_transforms.specs.Transforms.{dct}
use Rattle.inverse_transforms.specs.Straight.{dct_quad, odd_quad}
use Rattle.inverse_transforms.proofs.Small.{dct_small}
use Rattle.inverse_transforms.proofs.LaneLemmas.{kept}
use Rattle.inverse_transforms.proofs.ColumnLemmas.{column_at, four_of_column, lanes_small}
use Rattle.inverse_transforms.proofs.CalmColumns.{magnitude_bounds}
use Rattle.inverse_transforms.proofs.CalmTables.{calm_dct_8}
use Rattle.inverse_transforms.proofs.Straight.{loose, run_loosely, AreSmall, quad_small}

-- a point that is turned is in no coordinate further out than both were together

sum_at_most : (x y : ℤ) → unsigned_abs (x +ℤ y) ≤ unsigned_abs x + unsigned_abs y
sum_at_most x y = grind arith

difference_at_most : (x y : ℤ) → unsigned_abs (x -ℤ y) ≤ unsigned_abs x + unsigned_abs y
difference_at_most x y = grind arith

product_share : (x c : ℤ) → unsigned_abs c ≤ 2 ^ 14 → unsigned_abs (x *ℤ c) ≤ 2 ^ 14 * unsigned_abs x
product_share x c most =
    let less : unsigned_abs x * unsigned_abs c ≤ unsigned_abs x * 2 ^ 14 = mul-le-mul (omega arith) most in
    omega (arith, less, unsigned_abs-mul x c)

upper : (m a : ℕ) (x : ℤ) → unsigned_abs x ≤ m → x +ℤ pos 8192 ≡ pos a → a ≤ m + 8192
upper m a x h is = grind arith

lower : (m a : ℕ) (x : ℤ) → unsigned_abs x ≤ m → x +ℤ pos 8192 ≡ negsuc a → a + 8193 ≤ m
lower m a x h is = grind arith

shifted_share : (n : ℕ) (x z : ℤ) → unsigned_abs x ≤ 2 ^ 14 * n → x +ℤ pos 8192 ≡ z → unsigned_abs (int_shr z 14) ≤ n
shifted_share n x (pos a) h is = omega (arith, upper (2 ^ 14 * n) a x h is)
shifted_share n x (negsuc a) h is = omega (arith, lower (2 ^ 14 * n) a x h is)

rounded_share : (n : ℕ) (x : ℤ) → unsigned_abs x ≤ 2 ^ 14 * n → unsigned_abs (round14 x) ≤ n
unfolding round14
rounded_share n x h = shifted_share n x (x +ℤ pos 8192) h refl

-- its cosine and its sine are 1 at most
abbrev pub IsAngle : ℕ → Type 0
IsAngle k = (unsigned_abs (cosine_of k) ≤ 2 ^ 14) × (unsigned_abs (sine_of k) ≤ 2 ^ 14)

abbrev pub IsShared : ℤ → ℤ → Two → Type 0
IsShared x y v = (unsigned_abs v.first ≤ unsigned_abs x + unsigned_abs y) × (unsigned_abs v.second ≤ unsigned_abs x + unsigned_abs y)

pub rotated_share : (k : ℕ) (x y : ℤ) → IsAngle k → IsShared x y (rotated k x y)
unfolding rotated turned_x turned_y
rotated_share k x y angle = (
  rounded_share (unsigned_abs x + unsigned_abs y) ((x *ℤ cosine_of k) -ℤ (y *ℤ sine_of k))
      (omega (arith, difference_at_most (x *ℤ cosine_of k) (y *ℤ sine_of k), product_share x (cosine_of k) angle.0, product_share y (sine_of k) angle.1)),
  rounded_share (unsigned_abs x + unsigned_abs y) ((x *ℤ sine_of k) +ℤ (y *ℤ cosine_of k))
      (omega (arith, sum_at_most (x *ℤ sine_of k) (y *ℤ cosine_of k), product_share x (sine_of k) angle.1, product_share y (cosine_of k) angle.0)),
)

pub summed_share : (x y : ℤ) → IsShared x y (sum_and_difference x y)
unfolding sum_and_difference
summed_share x y = (sum_at_most x y, difference_at_most x y)

-- the same as the code computes it
pub turned_kept : (k : ℕ) (x y : ℤ) (v : Two) → IsAngle k → IsNarrow x → IsNarrow y →
    v ≡ rotated k (to_z w32 (of_z w32 x)) (to_z w32 (of_z w32 y)) → IsShared x y v
turned_kept k x y v angle x_narrow y_narrow made =
    let value : v ≡ rotated k x y = rw (kept x (omega (arith, x_narrow)), kept y (omega (arith, y_narrow))) at made in
    subst (IsShared x y) (sym value) (rotated_share k x y angle)

pub difference_kept : (x y : ℤ) (v : Two) → unsigned_abs x + unsigned_abs y ≤ 2 ^ 15 →
    v ≡ sum_and_difference (to_z w32 (of_z w32 x)) (to_z w32 (of_z w32 y)) → IsNarrow (to_z w32 (of_z w32 v.second))
difference_kept x y v few made =
    let value : v ≡ sum_and_difference x y = rw (kept x (omega (arith, few)), kept y (omega (arith, few))) at made in
    let share = subst (IsShared x y) (sym value) (summed_share x y) in
    let narrow : IsNarrow v.second = omega (arith, few, share.1) in
    rw (kept v.second (omega (arith, narrow))) narrow

abbrev pub four_magnitudes : ℤ → ℤ → ℤ → ℤ → ℕ
four_magnitudes a b c d = unsigned_abs a + unsigned_abs b + unsigned_abs c + unsigned_abs d

-- what the code makes of them
pub odd_made : (k m n : ℕ) (a b c d : ℤ) (o i l f t : Two) → IsAngle k → IsAngle m → IsAngle n → four_magnitudes a b c d ≤ 2 ^ 15 →
    o ≡ rotated k (to_z w32 (of_z w32 a)) (to_z w32 (of_z w32 d)) → i ≡ rotated m (to_z w32 (of_z w32 c)) (to_z w32 (of_z w32 b)) → l ≡ sum_and_difference (to_z w32 (of_z w32 o.second)) (to_z w32 (of_z w32 i.second)) → f ≡ sum_and_difference (to_z w32 (of_z w32 o.first)) (to_z w32 (of_z w32 i.first)) → t ≡ rotated n (to_z w32 (of_z w32 l.second)) (to_z w32 (of_z w32 f.second)) →
    record { in_range = true; first = to_z w32 (of_z w32 l.first); second = to_z w32 (of_z w32 t.second); third = to_z w32 (of_z w32 t.first); fourth = to_z w32 (of_z w32 f.first) }
    ≡ odd_quad k m n a b c d
unfolding odd_quad
odd_made k m n a b c d o i l f t k_angle m_angle n_angle few o_made i_made l_made f_made t_made =
    let o_is : o ≡ rotated k a d = rw (kept a (omega (arith, few)), kept d (omega (arith, few))) at o_made in
    let i_is : i ≡ rotated m c b = rw (kept c (omega (arith, few)), kept b (omega (arith, few))) at i_made in
    let o_share : IsShared a d o = subst (IsShared a d) (sym o_is) (rotated_share k a d k_angle) in
    let i_share : IsShared c b i = subst (IsShared c b) (sym i_is) (rotated_share m c b m_angle) in
    let l_is : l ≡ sum_and_difference o.second i.second = rw (kept o.second (omega (arith, few, o_share.1)), kept i.second (omega (arith, few, i_share.1))) at l_made in
    let f_is : f ≡ sum_and_difference o.first i.first = rw (kept o.first (omega (arith, few, o_share.0)), kept i.first (omega (arith, few, i_share.0))) at f_made in
    let l_share : IsShared o.second i.second l = subst (IsShared o.second i.second) (sym l_is) (summed_share o.second i.second) in
    let f_share : IsShared o.first i.first f = subst (IsShared o.first i.first) (sym f_is) (summed_share o.first i.first) in
    let l_most : unsigned_abs l.second ≤ 2 ^ 15 = omega (arith, few, o_share.1, i_share.1, l_share.1) in
    let f_most : unsigned_abs f.second ≤ 2 ^ 15 = omega (arith, few, o_share.0, i_share.0, f_share.1) in
    let t_is : t ≡ rotated n l.second f.second = rw (kept l.second (omega (arith, l_most)), kept f.second (omega (arith, f_most))) at t_made in
    let t_share : IsShared l.second f.second t = subst (IsShared l.second f.second) (sym t_is) (rotated_share n l.second f.second n_angle) in
    rw (
      kept l.first (omega (arith, few, o_share.1, i_share.1, l_share.0)),
      kept t.second (omega (arith, l_most, f_most, t_share.1)),
      kept t.first (omega (arith, l_most, f_most, t_share.0)),
      kept f.first (omega (arith, few, o_share.0, i_share.0, f_share.0)),
      t_is,
      l_is,
      f_is,
      o_is,
      i_is,
    ) refl

abbrev pub IsOddShare : ℕ → Four → Type 0
IsOddShare n v = (unsigned_abs v.first ≤ n) × (unsigned_abs v.second ≤ 2 * n) × (unsigned_abs v.third ≤ 2 * n) × (unsigned_abs v.fourth ≤ n)

pub odd_share : (k m n : ℕ) (a b c d : ℤ) → IsAngle k → IsAngle m → IsAngle n → IsOddShare (four_magnitudes a b c d) (odd_quad k m n a b c d)
unfolding odd_quad
odd_share k m n a b c d k_angle m_angle n_angle =
    let outer = rotated k a d in
    let inner = rotated m c b in
    let o = rotated_share k a d k_angle in
    let i = rotated_share m c b m_angle in
    let last = sum_and_difference outer.second inner.second in
    let first = sum_and_difference outer.first inner.first in
    let l = summed_share outer.second inner.second in
    let f = summed_share outer.first inner.first in
    let t = rotated_share n last.second first.second n_angle in (
      omega (arith, o.1, i.1, l.0),
      omega (arith, o.0, o.1, i.0, i.1, l.1, f.1, t.1),
      omega (arith, o.0, o.1, i.0, i.1, l.1, f.1, t.0),
      omega (arith, o.0, i.0, f.0),
    )

pub angle_28 : IsAngle 28
angle_28 = (leb-true (unsigned_abs (cosine_of 28)) (2 ^ 14) refl, leb-true (unsigned_abs (sine_of 28)) (2 ^ 14) refl)

pub angle_12 : IsAngle 12
angle_12 = (leb-true (unsigned_abs (cosine_of 12)) (2 ^ 14) refl, leb-true (unsigned_abs (sine_of 12)) (2 ^ 14) refl)

pub angle_16 : IsAngle 16
angle_16 = (leb-true (unsigned_abs (cosine_of 16)) (2 ^ 14) refl, leb-true (unsigned_abs (sine_of 16)) (2 ^ 14) refl)

pub angle_30 : IsAngle 30
angle_30 = (leb-true (unsigned_abs (cosine_of 30)) (2 ^ 14) refl, leb-true (unsigned_abs (sine_of 30)) (2 ^ 14) refl)

pub angle_14 : IsAngle 14
angle_14 = (leb-true (unsigned_abs (cosine_of 14)) (2 ^ 14) refl, leb-true (unsigned_abs (sine_of 14)) (2 ^ 14) refl)

pub angle_24 : IsAngle 24
angle_24 = (leb-true (unsigned_abs (cosine_of 24)) (2 ^ 14) refl, leb-true (unsigned_abs (sine_of 24)) (2 ^ 14) refl)

pub angle_6 : IsAngle 6
angle_6 = (leb-true (unsigned_abs (cosine_of 6)) (2 ^ 14) refl, leb-true (unsigned_abs (sine_of 6)) (2 ^ 14) refl)

pub angle_22 : IsAngle 22
angle_22 = (leb-true (unsigned_abs (cosine_of 22)) (2 ^ 14) refl, leb-true (unsigned_abs (sine_of 22)) (2 ^ 14) refl)

pub angle_56 : IsAngle 56
angle_56 = (leb-true (unsigned_abs (cosine_of 56)) (2 ^ 14) refl, leb-true (unsigned_abs (sine_of 56)) (2 ^ 14) refl)

odd_small : (a b c d : ℤ) → four_magnitudes a b c d ≤ 2 ^ 15 → AreSmall (odd_quad 28 12 16 a b c d)
odd_small a b c d few =
    let s = odd_share 28 12 16 a b c d angle_28 angle_12 angle_16 in
    (omega (arith, few, s.0), omega (arith, few, s.1), omega (arith, few, s.2), omega (arith, few, s.3))

-- the values that the even and the odd places make together
abbrev pub oct : Four → Four → List ℤ
oct e o =
    (sum_and_difference e.first o.first).first ∷ (sum_and_difference e.second o.second).first
    ∷ (sum_and_difference e.third o.third).first ∷ (sum_and_difference e.fourth o.fourth).first
    ∷ (sum_and_difference e.fourth o.fourth).second ∷ (sum_and_difference e.third o.third).second
    ∷ (sum_and_difference e.second o.second).second ∷ (sum_and_difference e.first o.first).second ∷ []

abbrev pub evens : List ℤ → Four
evens xs = dct_quad (at xs 0) (at xs 2) (at xs 4) (at xs 6)

abbrev pub odds : List ℤ → Four
odds xs = odd_quad 28 12 16 (at xs 1) (at xs 3) (at xs 5) (at xs 7)

eight_values : (xs : List ℤ) → length xs ≡ 8 → loose FLOW_DCT_8 xs ≡ oct (evens xs) (odds xs)
unfolding dct_quad odd_quad
eight_values [] size = absurd (omega (arith, size))
eight_values (a ∷ []) size = absurd (omega (arith, size))
eight_values (a ∷ b ∷ []) size = absurd (omega (arith, size))
eight_values (a ∷ b ∷ c ∷ []) size = absurd (omega (arith, size))
eight_values (a ∷ b ∷ c ∷ d ∷ []) size = absurd (omega (arith, size))
eight_values (a ∷ b ∷ c ∷ d ∷ e ∷ []) size = absurd (omega (arith, size))
eight_values (a ∷ b ∷ c ∷ d ∷ e ∷ f ∷ []) size = absurd (omega (arith, size))
eight_values (a ∷ b ∷ c ∷ d ∷ e ∷ f ∷ g ∷ []) size = absurd (omega (arith, size))
eight_values (a ∷ b ∷ c ∷ d ∷ e ∷ f ∷ g ∷ h ∷ []) size = refl
eight_values (a ∷ b ∷ c ∷ d ∷ e ∷ f ∷ g ∷ h ∷ i ∷ xs) size = absurd (omega (arith, size))

pub straight : (limit : ℕ) (xs : List ℤ) → 2 ^ 15 ≤ limit → length xs ≡ 8 → magnitude xs ≤ 2 ^ 15 →
    dct limit 3 xs ≡ Ok (oct (evens xs) (odds xs))
unfolding dct IsCalm
straight limit xs most size few =
    let given = calm_dct_8 xs size few in
    let gives : run_flow limit FLOW_DCT_8 xs ≡ Ok given.0 = given.1 limit most in
    gives ∙ ap Ok (sym (run_loosely limit FLOW_DCT_8 xs given.0 gives) ∙ eight_values xs size)

parts_few : (xs : List ℤ) → length xs ≡ 8 → magnitude xs ≤ 2 ^ 15 →
    (four_magnitudes (at xs 0) (at xs 2) (at xs 4) (at xs 6) ≤ 2 ^ 15) × (four_magnitudes (at xs 1) (at xs 3) (at xs 5) (at xs 7) ≤ 2 ^ 15)
parts_few [] size few = absurd (omega (arith, size))
parts_few (a ∷ []) size few = absurd (omega (arith, size))
parts_few (a ∷ b ∷ []) size few = absurd (omega (arith, size))
parts_few (a ∷ b ∷ c ∷ []) size few = absurd (omega (arith, size))
parts_few (a ∷ b ∷ c ∷ d ∷ []) size few = absurd (omega (arith, size))
parts_few (a ∷ b ∷ c ∷ d ∷ e ∷ []) size few = absurd (omega (arith, size))
parts_few (a ∷ b ∷ c ∷ d ∷ e ∷ f ∷ []) size few = absurd (omega (arith, size))
parts_few (a ∷ b ∷ c ∷ d ∷ e ∷ f ∷ g ∷ []) size few = absurd (omega (arith, size))
parts_few (a ∷ b ∷ c ∷ d ∷ e ∷ f ∷ g ∷ h ∷ []) size few = (omega (arith, few), omega (arith, few))
parts_few (a ∷ b ∷ c ∷ d ∷ e ∷ f ∷ g ∷ h ∷ i ∷ xs) size few = absurd (omega (arith, size))

even_small : (a b c d : ℤ) → four_magnitudes a b c d ≤ 2 ^ 15 → AreSmall (dct_quad a b c d)
even_small a b c d few = quad_small (a ∷ b ∷ c ∷ d ∷ []) refl (omega (arith, few))

-- eight rows in place of eight others
set_eight : (t : List (List ℤ)) (p q r s u v w x : List ℤ) → length t ≡ 8 →
    set (set (set (set (set (set (set (set t 0 p) 1 q) 2 r) 3 s) 4 u) 5 v) 6 w) 7 x ≡ p ∷ q ∷ r ∷ s ∷ u ∷ v ∷ w ∷ x ∷ []
set_eight [] p q r s u v w x size = absurd (omega (arith, size))
set_eight (a ∷ []) p q r s u v w x size = absurd (omega (arith, size))
set_eight (a ∷ b ∷ []) p q r s u v w x size = absurd (omega (arith, size))
set_eight (a ∷ b ∷ c ∷ []) p q r s u v w x size = absurd (omega (arith, size))
set_eight (a ∷ b ∷ c ∷ d ∷ []) p q r s u v w x size = absurd (omega (arith, size))
set_eight (a ∷ b ∷ c ∷ d ∷ e ∷ []) p q r s u v w x size = absurd (omega (arith, size))
set_eight (a ∷ b ∷ c ∷ d ∷ e ∷ f ∷ []) p q r s u v w x size = absurd (omega (arith, size))
set_eight (a ∷ b ∷ c ∷ d ∷ e ∷ f ∷ g ∷ []) p q r s u v w x size = absurd (omega (arith, size))
set_eight (a ∷ b ∷ c ∷ d ∷ e ∷ f ∷ g ∷ h ∷ []) p q r s u v w x size = refl
set_eight (a ∷ b ∷ c ∷ d ∷ e ∷ f ∷ g ∷ h ∷ i ∷ xs) p q r s u v w x size = absurd (omega (arith, size))

-- rows of lanes that the formula makes of eight rows: what their even places make, and their odd ones
pub record OctMade (t : List (List ℤ)) (e f g h p q r s : List ℤ) : Type 0 where
  pub size : length t ≡ 8
  pub few : (j : ℕ) → j < 8 → magnitude (column j t) ≤ 2 ^ 15
  pub even : FourLanes dct_quad (get_or t 0 []) (get_or t 2 []) (get_or t 4 []) (get_or t 6 []) e f g h 8
  pub odd : FourLanes (odd_quad 28 12 16) (get_or t 1 []) (get_or t 3 []) (get_or t 5 []) (get_or t 7 []) p q r s 8

abbrev even_of : List (List ℤ) → ℕ → Four
even_of t j = dct_quad (at (get_or t 0 []) j) (at (get_or t 2 []) j) (at (get_or t 4 []) j) (at (get_or t 6 []) j)

abbrev odd_of : List (List ℤ) → ℕ → Four
odd_of t j = odd_quad 28 12 16 (at (get_or t 1 []) j) (at (get_or t 3 []) j) (at (get_or t 5 []) j) (at (get_or t 7 []) j)

pub column_size : (t : List (List ℤ)) (j : ℕ) → length t ≡ 8 → length (column j t) ≡ 8
column_size t j size = length-map t (λ row. at row j) ∙ size

even_is : (t : List (List ℤ)) (j : ℕ) → length t ≡ 8 → evens (column j t) ≡ even_of t j
even_is t j size = four_of_column dct_quad t 0 2 4 6 (omega (arith, size)) (omega (arith, size)) (omega (arith, size)) (omega (arith, size)) j

odd_is : (t : List (List ℤ)) (j : ℕ) → length t ≡ 8 → odds (column j t) ≡ odd_of t j
odd_is t j size = four_of_column (odd_quad 28 12 16) t 1 3 5 7 (omega (arith, size)) (omega (arith, size)) (omega (arith, size)) (omega (arith, size)) j

evens_small : (t : List (List ℤ)) (j : ℕ) → length t ≡ 8 → magnitude (column j t) ≤ 2 ^ 15 → AreSmall (even_of t j)
evens_small t j size few =
    let xs = column j t in
    subst AreSmall (even_is t j size) (even_small (at xs 0) (at xs 2) (at xs 4) (at xs 6) (parts_few xs (column_size t j size) few).0)

odds_small : (t : List (List ℤ)) (j : ℕ) → length t ≡ 8 → magnitude (column j t) ≤ 2 ^ 15 → AreSmall (odd_of t j)
odds_small t j size few =
    let xs = column j t in
    subst AreSmall (odd_is t j size) (odd_small (at xs 1) (at xs 3) (at xs 5) (at xs 7) (parts_few xs (column_size t j size) few).1)

-- the odd places of each column are few enough
pub odds_few : (t : List (List ℤ)) → length t ≡ 8 → ((j : ℕ) → j < 8 → magnitude (column j t) ≤ 2 ^ 15) → (j : ℕ) → j < 8 →
    four_magnitudes (at (get_or t 1 []) j) (at (get_or t 3 []) j) (at (get_or t 5 []) j) (at (get_or t 7 []) j) ≤ 2 ^ 15
odds_few t size few j low =
    let here = (parts_few (column j t) (column_size t j size) (few j low)).1 in rw (
      column_at j t 1 (omega (arith, size)),
      column_at j t 3 (omega (arith, size)),
      column_at j t 5 (omega (arith, size)),
      column_at j t 7 (omega (arith, size)),
    ) at here

abbrev AreSmallRows : List ℤ → List ℤ → List ℤ → List ℤ → Type 0
AreSmallRows p q r s = All IsSmall p × All IsSmall q × All IsSmall r × All IsSmall s

rows_small : (f : ℤ → ℤ → ℤ → ℤ → Four) (a b c d p q r s : List ℤ) → length p ≡ 8 → length q ≡ 8 → length r ≡ 8 → length s ≡ 8 →
    FourLanes f a b c d p q r s 8 → ((j : ℕ) → j < 8 → AreSmall (f (at a j) (at b j) (at c j) (at d j))) → AreSmallRows p q r s
rows_small f a b c d p q r s p_size q_size r_size s_size made each = (
  lanes_small p p_size (λ j low. rw (made.first j low) (each j low).0),
  lanes_small q q_size (λ j low. rw (made.second j low) (each j low).1),
  lanes_small r r_size (λ j low. rw (made.third j low) (each j low).2),
  lanes_small s s_size (λ j low. rw (made.fourth j low) (each j low).3),
)

pub even_rows_small : (t : List (List ℤ)) (e f g h p q r s : List ℤ) → OctMade t e f g h p q r s →
    length e ≡ 8 → length f ≡ 8 → length g ≡ 8 → length h ≡ 8 → AreSmallRows e f g h
even_rows_small t e f g h p q r s o e_size f_size g_size h_size =
    rows_small dct_quad (get_or t 0 []) (get_or t 2 []) (get_or t 4 []) (get_or t 6 []) e f g h e_size f_size g_size h_size o.even
    (λ j low. evens_small t j o.size (o.few j low))

pub odd_rows_small : (t : List (List ℤ)) (e f g h p q r s : List ℤ) → OctMade t e f g h p q r s →
    length p ≡ 8 → length q ≡ 8 → length r ≡ 8 → length s ≡ 8 → AreSmallRows p q r s
odd_rows_small t e f g h p q r s o p_size q_size r_size s_size =
    rows_small (odd_quad 28 12 16) (get_or t 1 []) (get_or t 3 []) (get_or t 5 []) (get_or t 7 []) p q r s p_size q_size r_size s_size o.odd
    (λ j low. odds_small t j o.size (o.few j low))

-- the eight rows that are their sums and differences
pub record OctAdded (t : List (List ℤ)) (e f g h p q r s : List ℤ) (a b c d k l m n : List ℤ) : Type 0 where
  pub made : OctMade t e f g h p q r s
  pub first : TwoLanes sum_and_difference e p a n 8
  pub second : TwoLanes sum_and_difference f q b m 8
  pub third : TwoLanes sum_and_difference g r c l 8
  pub fourth : TwoLanes sum_and_difference h s d k 8

values_given : (v w : Four) (e f g h p q r s a b c d k l m n : ℤ) → e ≡ v.first → f ≡ v.second → g ≡ v.third → h ≡ v.fourth →
    p ≡ w.first → q ≡ w.second → r ≡ w.third → s ≡ w.fourth →
    a ≡ (sum_and_difference e p).first → b ≡ (sum_and_difference f q).first → c ≡ (sum_and_difference g r).first → d ≡ (sum_and_difference h s).first →
    k ≡ (sum_and_difference h s).second → l ≡ (sum_and_difference g r).second → m ≡ (sum_and_difference f q).second → n ≡ (sum_and_difference e p).second →
    oct v w ≡ a ∷ b ∷ c ∷ d ∷ k ∷ l ∷ m ∷ n ∷ []
values_given v w e f g h p q r s a b c d k l m n e_is f_is g_is h_is p_is q_is r_is s_is a_is b_is c_is d_is k_is l_is m_is n_is =
    rw (a_is, b_is, c_is, d_is, k_is, l_is, m_is, n_is, e_is, f_is, g_is, h_is, p_is, q_is, r_is, s_is) refl

oct_is : (t : List (List ℤ)) (e f g h p q r s a b c d k l m n : List ℤ) → OctAdded t e f g h p q r s a b c d k l m n → (limit j : ℕ) → 2 ^ 15 ≤ limit → j < 8 →
    dct limit 3 (column j t) ≡ Ok (at a j ∷ at b j ∷ at c j ∷ at d j ∷ at k j ∷ at l j ∷ at m j ∷ at n j ∷ [])
oct_is t e f g h p q r s a b c d k l m n o limit j most low =
    let made = o.made in
    straight limit (column j t) most (column_size t j made.size) (made.few j low)
    ∙ ap Ok (ap (λ v. oct v (odds (column j t))) (even_is t j made.size)
    ∙ (ap (oct (even_of t j)) (odd_is t j made.size)
    ∙ values_given (even_of t j) (odd_of t j) (at e j) (at f j) (at g j) (at h j) (at p j) (at q j) (at r j) (at s j)
    (at a j) (at b j) (at c j) (at d j) (at k j) (at l j) (at m j) (at n j)
    (made.even.first j low) (made.even.second j low) (made.even.third j low) (made.even.fourth j low)
    (made.odd.first j low) (made.odd.second j low) (made.odd.third j low) (made.odd.fourth j low)
    (o.first.first j low) (o.second.first j low) (o.third.first j low) (o.fourth.first j low)
    (o.fourth.second j low) (o.third.second j low) (o.second.second j low) (o.first.second j low)))

pub oct_given : (t : List (List ℤ)) (e f g h p q r s a b c d k l m n : List ℤ) → OctAdded t e f g h p q r s a b c d k l m n → (limit j : ℕ) → 2 ^ 15 ≤ limit → j < 8 →
    dct limit 3 (column j t) ≡ Ok (column j (set (set (set (set (set (set (set (set t 0 a) 1 b) 2 c) 3 d) 4 k) 5 l) 6 m) 7 n))
oct_given t e f g h p q r s a b c d k l m n o limit j most low =
    oct_is t e f g h p q r s a b c d k l m n o limit j most low
    ∙ ap Ok (sym (ap (column j) (set_eight t a b c d k l m n o.made.size)))

oct_values_small : (t : List (List ℤ)) (e f g h p q r s a b c d k l m n : List ℤ) → OctAdded t e f g h p q r s a b c d k l m n → (j : ℕ) → j < 8 →
    All IsSmall (at a j ∷ at b j ∷ at c j ∷ at d j ∷ at k j ∷ at l j ∷ at m j ∷ at n j ∷ [])
oct_values_small t e f g h p q r s a b c d k l m n o j low =
    let small : All IsSmall (column j t) = λ i x i_low. omega (arith, magnitude_bounds (2 ^ 15) (column j t) (o.made.few j low) i x i_low) in
    dct_small (2 ^ 24) (2 ^ 15) 3 (column j t) (at a j ∷ at b j ∷ at c j ∷ at d j ∷ at k j ∷ at l j ∷ at m j ∷ at n j ∷ []) (omega arith) small (oct_is t e f g h p q r s a b c d k l m n o (2 ^ 15) j (omega arith) low)

pub oct_small : (t : List (List ℤ)) (e f g h p q r s a b c d k l m n : List ℤ) → OctAdded t e f g h p q r s a b c d k l m n →
    length a ≡ 8 → length b ≡ 8 → length c ≡ 8 → length d ≡ 8 → length k ≡ 8 → length l ≡ 8 → length m ≡ 8 → length n ≡ 8 →
    All (All IsSmall) t → All (All IsSmall) (set (set (set (set (set (set (set (set t 0 a) 1 b) 2 c) 3 d) 4 k) 5 l) 6 m) 7 n)
oct_small t e f g h p q r s a b c d k l m n o a_size b_size c_size d_size k_size l_size m_size n_size small =
    let each = oct_values_small t e f g h p q r s a b c d k l m n o in
    let a_small : All IsSmall a = lanes_small a a_size (λ j low. each j low 0 (pos 0) (omega arith)) in
    let b_small : All IsSmall b = lanes_small b b_size (λ j low. each j low 1 (pos 0) (omega arith)) in
    let c_small : All IsSmall c = lanes_small c c_size (λ j low. each j low 2 (pos 0) (omega arith)) in
    let d_small : All IsSmall d = lanes_small d d_size (λ j low. each j low 3 (pos 0) (omega arith)) in
    let k_small : All IsSmall k = lanes_small k k_size (λ j low. each j low 4 (pos 0) (omega arith)) in
    let l_small : All IsSmall l = lanes_small l l_size (λ j low. each j low 5 (pos 0) (omega arith)) in
    let m_small : All IsSmall m = lanes_small m m_size (λ j low. each j low 6 (pos 0) (omega arith)) in
    let n_small : All IsSmall n = lanes_small n n_size (λ j low. each j low 7 (pos 0) (omega arith)) in
    All-set (All IsSmall) _ 7 n n_small (All-set (All IsSmall) _ 6 m m_small (All-set (All IsSmall) _ 5 l l_small (All-set (All IsSmall) _ 4 k k_small (All-set (All IsSmall) _ 3 d d_small (All-set (All IsSmall) _ 2 c c_small (All-set (All IsSmall) _ 1 b b_small (All-set (All IsSmall) t 0 a a_small small)))))))
