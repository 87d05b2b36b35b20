-- The DCT of 16 as a formula: what the flow gives, where it gives some list.
use Rattle.std.proofs.Common.{◌≡◌, ℕ, zero, suc, ◌+◌, ◌*◌, ◌<◌, ◌≤◌, ◌^◌, ℤ, pos, unsigned_abs, List, [], ◌∷◌, length, set, get_or, refl, sym, ◌∙◌, ap, subst, arith, All, Ok}
use Rattle.std.proofs.lemmas.List.{length-map}
use Rattle.std.proofs.lemmas.List.Elements.{All-set}
use Rattle.vp9_tables.specs.declared.data.flows.TheConstants.{FLOW_DCT_16}
use Rattle.inverse_transforms.specs.declared.values.Four.{Four}
use Rattle.inverse_transforms.specs.Flow.{at, magnitude, run_flow, rotated, sum_and_difference, IsCalm}
use Rattle.inverse_transforms.specs.LaneColumns.{column, TwoLanes, FourLanes}
use Rattle.inverse_transforms.specs.Ranges.{IsSmall, IsNarrow}
use Rattle.inverse_transforms.specs.Transforms.{dct}
use Rattle.inverse_transforms.specs.Straight.{dct_quad, odd_quad, odd_of_quads, odd_eight}
use Rattle.inverse_transforms.proofs.Small.{dct_small}
use Rattle.inverse_transforms.proofs.ColumnLemmas.{column_at, four_of_column, lanes_small}
use Rattle.inverse_transforms.proofs.CalmColumns.{magnitude_bounds}
use Rattle.inverse_transforms.proofs.CalmTables.{calm_dct_16}
use Rattle.inverse_transforms.proofs.Straight.{loose, run_loosely}
use Rattle.inverse_transforms.proofs.StraightEight as eight

pub listed : {A : Type 0} (d : A) (xs : List A) → length xs ≡ 16 → xs ≡ get_or xs 0 d ∷ get_or xs 1 d ∷ get_or xs 2 d ∷ get_or xs 3 d ∷ get_or xs 4 d ∷ get_or xs 5 d ∷ get_or xs 6 d ∷ get_or xs 7 d ∷ get_or xs 8 d ∷ get_or xs 9 d ∷ get_or xs 10 d ∷ get_or xs 11 d ∷ get_or xs 12 d ∷ get_or xs 13 d ∷ get_or xs 14 d ∷ get_or xs 15 d ∷ []
listed d [] size = absurd (omega (arith, size))
listed d (x0 ∷ []) size = absurd (omega (arith, size))
listed d (x0 ∷ x1 ∷ []) size = absurd (omega (arith, size))
listed d (x0 ∷ x1 ∷ x2 ∷ []) size = absurd (omega (arith, size))
listed d (x0 ∷ x1 ∷ x2 ∷ x3 ∷ []) size = absurd (omega (arith, size))
listed d (x0 ∷ x1 ∷ x2 ∷ x3 ∷ x4 ∷ []) size = absurd (omega (arith, size))
listed d (x0 ∷ x1 ∷ x2 ∷ x3 ∷ x4 ∷ x5 ∷ []) size = absurd (omega (arith, size))
listed d (x0 ∷ x1 ∷ x2 ∷ x3 ∷ x4 ∷ x5 ∷ x6 ∷ []) size = absurd (omega (arith, size))
listed d (x0 ∷ x1 ∷ x2 ∷ x3 ∷ x4 ∷ x5 ∷ x6 ∷ x7 ∷ []) size = absurd (omega (arith, size))
listed d (x0 ∷ x1 ∷ x2 ∷ x3 ∷ x4 ∷ x5 ∷ x6 ∷ x7 ∷ x8 ∷ []) size = absurd (omega (arith, size))
listed d (x0 ∷ x1 ∷ x2 ∷ x3 ∷ x4 ∷ x5 ∷ x6 ∷ x7 ∷ x8 ∷ x9 ∷ []) size = absurd (omega (arith, size))
listed d (x0 ∷ x1 ∷ x2 ∷ x3 ∷ x4 ∷ x5 ∷ x6 ∷ x7 ∷ x8 ∷ x9 ∷ x10 ∷ []) size = absurd (omega (arith, size))
listed d (x0 ∷ x1 ∷ x2 ∷ x3 ∷ x4 ∷ x5 ∷ x6 ∷ x7 ∷ x8 ∷ x9 ∷ x10 ∷ x11 ∷ []) size = absurd (omega (arith, size))
listed d (x0 ∷ x1 ∷ x2 ∷ x3 ∷ x4 ∷ x5 ∷ x6 ∷ x7 ∷ x8 ∷ x9 ∷ x10 ∷ x11 ∷ x12 ∷ []) size = absurd (omega (arith, size))
listed d (x0 ∷ x1 ∷ x2 ∷ x3 ∷ x4 ∷ x5 ∷ x6 ∷ x7 ∷ x8 ∷ x9 ∷ x10 ∷ x11 ∷ x12 ∷ x13 ∷ []) size = absurd (omega (arith, size))
listed d (x0 ∷ x1 ∷ x2 ∷ x3 ∷ x4 ∷ x5 ∷ x6 ∷ x7 ∷ x8 ∷ x9 ∷ x10 ∷ x11 ∷ x12 ∷ x13 ∷ x14 ∷ []) size = absurd (omega (arith, size))
listed d (x0 ∷ x1 ∷ x2 ∷ x3 ∷ x4 ∷ x5 ∷ x6 ∷ x7 ∷ x8 ∷ x9 ∷ x10 ∷ x11 ∷ x12 ∷ x13 ∷ x14 ∷ x15 ∷ []) size = refl
listed d (x0 ∷ x1 ∷ x2 ∷ x3 ∷ x4 ∷ x5 ∷ x6 ∷ x7 ∷ x8 ∷ x9 ∷ x10 ∷ x11 ∷ x12 ∷ x13 ∷ x14 ∷ x15 ∷ y ∷ xs) size = absurd (omega (arith, size))

-- the even places
abbrev pub halves : List ℤ → List ℤ
halves xs = at xs 0 ∷ at xs 2 ∷ at xs 4 ∷ at xs 6 ∷ at xs 8 ∷ at xs 10 ∷ at xs 12 ∷ at xs 14 ∷ []

abbrev sum_of : List ℤ → List ℤ → ℕ → ℤ
sum_of ys zs i = (sum_and_difference (at ys i) (at zs i)).first

abbrev difference_of : List ℤ → List ℤ → ℕ → ℤ
difference_of ys zs i = (sum_and_difference (at ys i) (at zs i)).second

-- the values that the even and the odd places make together
abbrev sixteen : List ℤ → List ℤ → List ℤ
sixteen ys zs =
    sum_of ys zs 0 ∷ sum_of ys zs 1 ∷ sum_of ys zs 2 ∷ sum_of ys zs 3 ∷ sum_of ys zs 4 ∷ sum_of ys zs 5 ∷ sum_of ys zs 6 ∷ sum_of ys zs 7
    ∷ difference_of ys zs 7 ∷ difference_of ys zs 6 ∷ difference_of ys zs 5 ∷ difference_of ys zs 4 ∷ difference_of ys zs 3 ∷ difference_of ys zs 2 ∷ difference_of ys zs 1 ∷ difference_of ys zs 0 ∷ []

abbrev evens_made : List ℤ → List ℤ
evens_made xs = eight.oct (eight.evens (halves xs)) (eight.odds (halves xs))

values : (x0 x1 x2 x3 x4 x5 x6 x7 x8 x9 x10 x11 x12 x13 x14 x15 : ℤ) → let xs = x0 ∷ x1 ∷ x2 ∷ x3 ∷ x4 ∷ x5 ∷ x6 ∷ x7 ∷ x8 ∷ x9 ∷ x10 ∷ x11 ∷ x12 ∷ x13 ∷ x14 ∷ x15 ∷ [] in loose FLOW_DCT_16 xs ≡ sixteen (evens_made xs) (odd_eight xs)
unfolding dct_quad odd_quad odd_of_quads odd_eight
values x0 x1 x2 x3 x4 x5 x6 x7 x8 x9 x10 x11 x12 x13 x14 x15 = refl

sixteen_values : (xs : List ℤ) → length xs ≡ 16 → loose FLOW_DCT_16 xs ≡ sixteen (evens_made xs) (odd_eight xs)
sixteen_values xs size =
    subst (λ zs. loose FLOW_DCT_16 zs ≡ sixteen (evens_made zs) (odd_eight zs)) (sym (listed (pos 0) xs size))
    (values (at xs 0) (at xs 1) (at xs 2) (at xs 3) (at xs 4) (at xs 5) (at xs 6) (at xs 7) (at xs 8) (at xs 9) (at xs 10) (at xs 11) (at xs 12) (at xs 13) (at xs 14) (at xs 15))

straight : (limit : ℕ) (xs : List ℤ) → 2 ^ 15 ≤ limit → length xs ≡ 16 → magnitude xs ≤ 2 ^ 14 →
    dct limit 4 xs ≡ Ok (sixteen (evens_made xs) (odd_eight xs))
unfolding dct IsCalm
straight limit xs most size few =
    let given = calm_dct_16 xs size (omega (arith, few)) in
    let gives : run_flow limit FLOW_DCT_16 xs ≡ Ok given.0 = given.1 limit most in
    gives ∙ ap Ok (sym (run_loosely limit FLOW_DCT_16 xs given.0 gives) ∙ sixteen_values xs size)

abbrev first_odds : List ℤ → ℕ
first_odds xs = eight.four_magnitudes (at xs 1) (at xs 7) (at xs 9) (at xs 15)

abbrev last_odds : List ℤ → ℕ
last_odds xs = eight.four_magnitudes (at xs 13) (at xs 11) (at xs 5) (at xs 3)

parts : (x0 x1 x2 x3 x4 x5 x6 x7 x8 x9 x10 x11 x12 x13 x14 x15 : ℤ) → let xs = x0 ∷ x1 ∷ x2 ∷ x3 ∷ x4 ∷ x5 ∷ x6 ∷ x7 ∷ x8 ∷ x9 ∷ x10 ∷ x11 ∷ x12 ∷ x13 ∷ x14 ∷ x15 ∷ [] in magnitude (halves xs) + (first_odds xs + last_odds xs) ≡ magnitude xs
parts x0 x1 x2 x3 x4 x5 x6 x7 x8 x9 x10 x11 x12 x13 x14 x15 = omega arith

pub parts_few : (xs : List ℤ) → length xs ≡ 16 → magnitude (halves xs) + (first_odds xs + last_odds xs) ≡ magnitude xs
parts_few xs size =
    subst (λ zs. magnitude (halves zs) + (first_odds zs + last_odds zs) ≡ magnitude zs) (sym (listed (pos 0) xs size))
    (parts (at xs 0) (at xs 1) (at xs 2) (at xs 3) (at xs 4) (at xs 5) (at xs 6) (at xs 7) (at xs 8) (at xs 9) (at xs 10) (at xs 11) (at xs 12) (at xs 13) (at xs 14) (at xs 15))

column_size : (t : List (List ℤ)) (j : ℕ) → length t ≡ 16 → length (column j t) ≡ 16
column_size t j size = length-map t (λ row. at row j) ∙ size

-- values of lanes under a bound of each
abbrev pub IsUnder : (ℕ → ℕ) → List ℤ → Type 0
IsUnder most u = (j : ℕ) → j < 8 → unsigned_abs (at u j) ≤ most j

under_small : (most : ℕ → ℕ) (u : List ℤ) → length u ≡ 8 → IsUnder most u → ((j : ℕ) → j < 8 → most j ≤ 2 ^ 24) → All IsSmall u
under_small most u size under few = lanes_small u size (λ j low. omega (arith, under j low, few j low))

sums_under : (m n : ℕ → ℕ) (x y u v : List ℤ) → TwoLanes sum_and_difference x y u v 8 → IsUnder m x → IsUnder n y →
    IsUnder (λ j. m j + n j) u × IsUnder (λ j. m j + n j) v
sums_under m n x y u v made x_under y_under = (
  λ j low. rw (made.first j low) (omega (arith, (eight.summed_share (at x j) (at y j)).0, x_under j low, y_under j low)),
  λ j low. rw (made.second j low) (omega (arith, (eight.summed_share (at x j) (at y j)).1, x_under j low, y_under j low)),
)

turned_under : (k : ℕ) (m n : ℕ → ℕ) (x y u v : List ℤ) → eight.IsAngle k → TwoLanes (rotated k) x y u v 8 → IsUnder m x → IsUnder n y →
    IsUnder (λ j. m j + n j) u × IsUnder (λ j. m j + n j) v
turned_under k m n x y u v angle made x_under y_under = (
  λ j low. rw (made.first j low) (omega (arith, (eight.rotated_share k (at x j) (at y j) angle).0, x_under j low, y_under j low)),
  λ j low. rw (made.second j low) (omega (arith, (eight.rotated_share k (at x j) (at y j) angle).1, x_under j low, y_under j low)),
)

abbrev sizes_of : List ℤ → List ℤ → List ℤ → List ℤ → ℕ → ℕ
sizes_of a b c d j = eight.four_magnitudes (at a j) (at b j) (at c j) (at d j)

abbrev AreUnder : (ℕ → ℕ) → List ℤ → List ℤ → List ℤ → List ℤ → Type 0
AreUnder n p q r s = IsUnder n p × IsUnder (λ j. 2 * n j) q × IsUnder (λ j. 2 * n j) r × IsUnder n s

quads_under : (k m n : ℕ) (a b c d p q r s : List ℤ) → eight.IsAngle k → eight.IsAngle m → eight.IsAngle n →
    FourLanes (odd_quad k m n) a b c d p q r s 8 → AreUnder (sizes_of a b c d) p q r s
quads_under k m n a b c d p q r s k_angle m_angle n_angle made = (
  λ j low. rw (made.first j low) (eight.odd_share k m n (at a j) (at b j) (at c j) (at d j) k_angle m_angle n_angle).0,
  λ j low. rw (made.second j low) (eight.odd_share k m n (at a j) (at b j) (at c j) (at d j) k_angle m_angle n_angle).1,
  λ j low. rw (made.third j low) (eight.odd_share k m n (at a j) (at b j) (at c j) (at d j) k_angle m_angle n_angle).2,
  λ j low. rw (made.fourth j low) (eight.odd_share k m n (at a j) (at b j) (at c j) (at d j) k_angle m_angle n_angle).3,
)

-- the rows that both halves of the odd rows make
pub record OddQuads (t : List (List ℤ)) (p q r s u v w x : List ℤ) : Type 0 where
  pub size : length t ≡ 16
  pub few : (j : ℕ) → j < 8 → magnitude (column j t) ≤ 2 ^ 14
  pub first : FourLanes (odd_quad 30 14 24) (get_or t 1 []) (get_or t 7 []) (get_or t 9 []) (get_or t 15 []) p q r s 8
  pub last : FourLanes (odd_quad 6 22 56) (get_or t 13 []) (get_or t 11 []) (get_or t 5 []) (get_or t 3 []) u v w x 8

abbrev first_sizes : List (List ℤ) → ℕ → ℕ
first_sizes t = sizes_of (get_or t 1 []) (get_or t 7 []) (get_or t 9 []) (get_or t 15 [])

abbrev last_sizes : List (List ℤ) → ℕ → ℕ
last_sizes t = sizes_of (get_or t 13 []) (get_or t 11 []) (get_or t 5 []) (get_or t 3 [])

pub sizes_few : (t : List (List ℤ)) → length t ≡ 16 → ((j : ℕ) → j < 8 → magnitude (column j t) ≤ 2 ^ 14) → (j : ℕ) → j < 8 →
    first_sizes t j + last_sizes t j ≤ 2 ^ 14
sizes_few t size few j low =
    let here : first_odds (column j t) + last_odds (column j t) ≤ 2 ^ 14 = omega (arith, parts_few (column j t) (column_size t j size), few j low) in rw (
      column_at j t 1 (omega (arith, size)),
      column_at j t 7 (omega (arith, size)),
      column_at j t 9 (omega (arith, size)),
      column_at j t 15 (omega (arith, size)),
      column_at j t 13 (omega (arith, size)),
      column_at j t 11 (omega (arith, size)),
      column_at j t 5 (omega (arith, size)),
      column_at j t 3 (omega (arith, size)),
    ) at here

first_under : (t : List (List ℤ)) (p q r s u v w x : List ℤ) → OddQuads t p q r s u v w x → AreUnder (first_sizes t) p q r s
first_under t p q r s u v w x o =
    quads_under 30 14 24 (get_or t 1 []) (get_or t 7 []) (get_or t 9 []) (get_or t 15 []) p q r s eight.angle_30 eight.angle_14 eight.angle_24 o.first

last_under : (t : List (List ℤ)) (p q r s u v w x : List ℤ) → OddQuads t p q r s u v w x → AreUnder (last_sizes t) u v w x
last_under t p q r s u v w x o =
    quads_under 6 22 56 (get_or t 13 []) (get_or t 11 []) (get_or t 5 []) (get_or t 3 []) u v w x eight.angle_6 eight.angle_22 eight.angle_56 o.last

abbrev AreSmallRows : List ℤ → List ℤ → List ℤ → List ℤ → Type 0
AreSmallRows p q r s = All IsSmall p × All IsSmall q × All IsSmall r × All IsSmall s

rows_small : (n : ℕ → ℕ) (p q r s : List ℤ) → length p ≡ 8 → length q ≡ 8 → length r ≡ 8 → length s ≡ 8 → AreUnder n p q r s →
    ((j : ℕ) → j < 8 → n j ≤ 2 ^ 14) → AreSmallRows p q r s
rows_small n p q r s p_size q_size r_size s_size under few = (
  under_small n p p_size under.0 (λ j low. omega (arith, few j low)),
  under_small (λ j. 2 * n j) q q_size under.1 (λ j low. omega (arith, few j low)),
  under_small (λ j. 2 * n j) r r_size under.2 (λ j low. omega (arith, few j low)),
  under_small n s s_size under.3 (λ j low. omega (arith, few j low)),
)

pub first_small : (t : List (List ℤ)) (p q r s u v w x : List ℤ) → OddQuads t p q r s u v w x →
    length p ≡ 8 → length q ≡ 8 → length r ≡ 8 → length s ≡ 8 → AreSmallRows p q r s
first_small t p q r s u v w x o p_size q_size r_size s_size =
    rows_small (first_sizes t) p q r s p_size q_size r_size s_size (first_under t p q r s u v w x o) (λ j low. omega (arith, sizes_few t o.size o.few j low))

pub last_small : (t : List (List ℤ)) (p q r s u v w x : List ℤ) → OddQuads t p q r s u v w x →
    length u ≡ 8 → length v ≡ 8 → length w ≡ 8 → length x ≡ 8 → AreSmallRows u v w x
last_small t p q r s u v w x o u_size v_size w_size x_size =
    rows_small (last_sizes t) u v w x u_size v_size w_size x_size (last_under t p q r s u v w x o) (λ j low. omega (arith, sizes_few t o.size o.few j low))

-- their sums and differences
pub record OddSums (t : List (List ℤ)) (p q r s u v w x a b c d e f g h : List ℤ) : Type 0 where
  pub quads : OddQuads t p q r s u v w x
  pub first : TwoLanes sum_and_difference p u a e 8
  pub second : TwoLanes sum_and_difference q v b f 8
  pub third : TwoLanes sum_and_difference r w c g 8
  pub fourth : TwoLanes sum_and_difference s x d h 8

abbrev both_sizes : List (List ℤ) → ℕ → ℕ
both_sizes t j = first_sizes t j + last_sizes t j

abbrev twice_both : List (List ℤ) → ℕ → ℕ
twice_both t j = 2 * first_sizes t j + 2 * last_sizes t j

record SumsUnder (t : List (List ℤ)) (a b c d e f g h : List ℤ) : Type 0 where
  a_under : IsUnder (both_sizes t) a
  b_under : IsUnder (twice_both t) b
  c_under : IsUnder (twice_both t) c
  d_under : IsUnder (both_sizes t) d
  e_under : IsUnder (both_sizes t) e
  f_under : IsUnder (twice_both t) f
  g_under : IsUnder (twice_both t) g
  h_under : IsUnder (both_sizes t) h

all_under : (t : List (List ℤ)) (p q r s u v w x a b c d e f g h : List ℤ) → OddSums t p q r s u v w x a b c d e f g h → SumsUnder t a b c d e f g h
all_under t p q r s u v w x a b c d e f g h o =
    let one = first_under t p q r s u v w x o.quads in
    let two = last_under t p q r s u v w x o.quads in
    let m = first_sizes t in
    let n = last_sizes t in
    let first = sums_under m n p u a e o.first one.0 two.0 in
    let second = sums_under (λ j. 2 * m j) (λ j. 2 * n j) q v b f o.second one.1 two.1 in
    let third = sums_under (λ j. 2 * m j) (λ j. 2 * n j) r w c g o.third one.2 two.2 in
    let fourth = sums_under m n s x d h o.fourth one.3 two.3 in record {
      a_under = first.0;
      b_under = second.0;
      c_under = third.0;
      d_under = fourth.0;
      e_under = first.1;
      f_under = second.1;
      g_under = third.1;
      h_under = fourth.1;
    }

abbrev AreNarrow : List ℤ → Type 0
AreNarrow u = (j : ℕ) → j < 8 → IsNarrow (at u j)

-- what is turned is narrow
pub turned_narrow : (t : List (List ℤ)) (p q r s u v w x a b c d e f g h : List ℤ) → OddSums t p q r s u v w x a b c d e f g h →
    AreNarrow e × AreNarrow f × AreNarrow g × AreNarrow h
turned_narrow t p q r s u v w x a b c d e f g h o =
    let under = all_under t p q r s u v w x a b c d e f g h o in
    let few = sizes_few t o.quads.size o.quads.few in (
      λ j low. omega (arith, under.e_under j low, few j low),
      λ j low. omega (arith, under.f_under j low, few j low),
      λ j low. omega (arith, under.g_under j low, few j low),
      λ j low. omega (arith, under.h_under j low, few j low),
    )

pub record OddRows (t : List (List ℤ)) (p q r s u v w x a b c d e f g h k l m n : List ℤ) : Type 0 where
  pub sums : OddSums t p q r s u v w x a b c d e f g h
  pub outer : TwoLanes (rotated 16) e h k l 8
  pub inner : TwoLanes (rotated 16) f g m n 8

odd_values : (v w : Four) (p q r s a b c d e f g h k l m n y z i o : ℤ) →
    p ≡ v.first → q ≡ v.second → r ≡ v.third → s ≡ v.fourth → y ≡ w.first → z ≡ w.second → i ≡ w.third → o ≡ w.fourth →
    a ≡ (sum_and_difference p y).first → e ≡ (sum_and_difference p y).second → b ≡ (sum_and_difference q z).first → f ≡ (sum_and_difference q z).second →
    c ≡ (sum_and_difference r i).first → g ≡ (sum_and_difference r i).second → d ≡ (sum_and_difference s o).first → h ≡ (sum_and_difference s o).second →
    k ≡ (rotated 16 e h).first → l ≡ (rotated 16 e h).second → m ≡ (rotated 16 f g).first → n ≡ (rotated 16 f g).second →
    a ∷ b ∷ n ∷ l ∷ k ∷ m ∷ c ∷ d ∷ [] ≡ odd_of_quads v w
unfolding odd_of_quads
odd_values v w p q r s a b c d e f g h k l m n y z i o p_is q_is r_is s_is y_is z_is i_is o_is a_is e_is b_is f_is c_is g_is d_is h_is k_is l_is m_is n_is =
    rw (k_is, l_is, m_is, n_is, a_is, b_is, c_is, d_is, e_is, f_is, g_is, h_is, p_is, q_is, r_is, s_is, y_is, z_is, i_is, o_is) refl

pub odd_given : (t : List (List ℤ)) (p q r s u v w x a b c d e f g h k l m n : List ℤ) → OddRows t p q r s u v w x a b c d e f g h k l m n →
    (j : ℕ) → j < 8 → column j (a ∷ b ∷ n ∷ l ∷ k ∷ m ∷ c ∷ d ∷ []) ≡ odd_eight (column j t)
unfolding odd_eight
odd_given t p q r s u v w x a b c d e f g h k l m n o j low =
    let sums = o.sums in
    let quads = sums.quads in
    let size = quads.size in
    let one = four_of_column (odd_quad 30 14 24) t 1 7 9 15 (omega (arith, size)) (omega (arith, size)) (omega (arith, size)) (omega (arith, size)) j in
    let two = four_of_column (odd_quad 6 22 56) t 13 11 5 3 (omega (arith, size)) (omega (arith, size)) (omega (arith, size)) (omega (arith, size)) j in
    rw (one, two) (odd_values _ _ (at p j) (at q j) (at r j) (at s j) (at a j) (at b j) (at c j) (at d j) (at e j) (at f j) (at g j) (at h j)
    (at k j) (at l j) (at m j) (at n j) (at u j) (at v j) (at w j) (at x j)
    (quads.first.first j low) (quads.first.second j low) (quads.first.third j low) (quads.first.fourth j low)
    (quads.last.first j low) (quads.last.second j low) (quads.last.third j low) (quads.last.fourth j low)
    (sums.first.first j low) (sums.first.second j low) (sums.second.first j low) (sums.second.second j low)
    (sums.third.first j low) (sums.third.second j low) (sums.fourth.first j low) (sums.fourth.second j low)
    (o.outer.first j low) (o.outer.second j low) (o.inner.first j low) (o.inner.second j low))

all_more : (u : List ℤ) (us : List (List ℤ)) → All IsSmall u → All (All IsSmall) us → All (All IsSmall) (u ∷ us)
all_more u us small rest zero d low = small
all_more u us small rest (suc k) d low = rest k d (omega (arith, low))

pub all_eight : (a b c d e f g h : List ℤ) → All IsSmall a → All IsSmall b → All IsSmall c → All IsSmall d → All IsSmall e → All IsSmall f → All IsSmall g → All IsSmall h →
    All (All IsSmall) (a ∷ b ∷ c ∷ d ∷ e ∷ f ∷ g ∷ h ∷ [])
all_eight a b c d e f g h a_small b_small c_small d_small e_small f_small g_small h_small =
    let none : All (All IsSmall) [] = λ k d low. absurd (omega (arith, low)) in
    all_more a (b ∷ c ∷ d ∷ e ∷ f ∷ g ∷ h ∷ []) a_small (all_more b (c ∷ d ∷ e ∷ f ∷ g ∷ h ∷ []) b_small (all_more c (d ∷ e ∷ f ∷ g ∷ h ∷ []) c_small (all_more d (e ∷ f ∷ g ∷ h ∷ []) d_small (all_more e (f ∷ g ∷ h ∷ []) e_small (all_more f (g ∷ h ∷ []) f_small (all_more g (h ∷ []) g_small (all_more h [] h_small none)))))))

pub odd_small : (t : List (List ℤ)) (p q r s u v w x a b c d e f g h k l m n : List ℤ) → OddRows t p q r s u v w x a b c d e f g h k l m n →
    length a ≡ 8 → length b ≡ 8 → length n ≡ 8 → length l ≡ 8 → length k ≡ 8 → length m ≡ 8 → length c ≡ 8 → length d ≡ 8 →
    All (All IsSmall) (a ∷ b ∷ n ∷ l ∷ k ∷ m ∷ c ∷ d ∷ [])
odd_small t p q r s u v w x a b c d e f g h k l m n o a_size b_size n_size l_size k_size m_size c_size d_size =
    let under = all_under t p q r s u v w x a b c d e f g h o.sums in
    let few = sizes_few t o.sums.quads.size o.sums.quads.few in
    let outer = turned_under 16 (both_sizes t) (both_sizes t) e h k l eight.angle_16 o.outer under.e_under under.h_under in
    let inner = turned_under 16 (twice_both t) (twice_both t) f g m n eight.angle_16 o.inner under.f_under under.g_under in
    all_eight a b n l k m c d
    (lanes_small a a_size (λ j low. omega (arith, under.a_under j low, few j low)))
    (lanes_small b b_size (λ j low. omega (arith, under.b_under j low, few j low)))
    (lanes_small n n_size (λ j low. omega (arith, inner.1 j low, few j low)))
    (lanes_small l l_size (λ j low. omega (arith, outer.1 j low, few j low)))
    (lanes_small k k_size (λ j low. omega (arith, outer.0 j low, few j low)))
    (lanes_small m m_size (λ j low. omega (arith, inner.0 j low, few j low)))
    (lanes_small c c_size (λ j low. omega (arith, under.c_under j low, few j low)))
    (lanes_small d d_size (λ j low. omega (arith, under.d_under j low, few j low)))

set_sixteen : (t : List (List ℤ)) (u0 u1 u2 u3 u4 u5 u6 u7 v0 v1 v2 v3 v4 v5 v6 v7 : List ℤ) → length t ≡ 16 → set (set (set (set (set (set (set (set (set (set (set (set (set (set (set (set t 0 u0) 15 v0) 1 u1) 14 v1) 2 u2) 13 v2) 3 u3) 12 v3) 4 u4) 11 v4) 5 u5) 10 v5) 6 u6) 9 v6) 7 u7) 8 v7 ≡ u0 ∷ u1 ∷ u2 ∷ u3 ∷ u4 ∷ u5 ∷ u6 ∷ u7 ∷ v7 ∷ v6 ∷ v5 ∷ v4 ∷ v3 ∷ v2 ∷ v1 ∷ v0 ∷ []
set_sixteen t u0 u1 u2 u3 u4 u5 u6 u7 v0 v1 v2 v3 v4 v5 v6 v7 size = ap (λ (t : List (List ℤ)). set (set (set (set (set (set (set (set (set (set (set (set (set (set (set (set t 0 u0) 15 v0) 1 u1) 14 v1) 2 u2) 13 v2) 3 u3) 12 v3) 4 u4) 11 v4) 5 u5) 10 v5) 6 u6) 9 v6) 7 u7) 8 v7) (listed [] t size)

abbrev pub even_rows : List (List ℤ) → List (List ℤ)
even_rows t = get_or t 0 [] ∷ get_or t 2 [] ∷ get_or t 4 [] ∷ get_or t 6 [] ∷ get_or t 8 [] ∷ get_or t 10 [] ∷ get_or t 12 [] ∷ get_or t 14 [] ∷ []

halves_is : (t : List (List ℤ)) (j : ℕ) → length t ≡ 16 → column j (even_rows t) ≡ halves (column j t)
halves_is t j size = rw (column_at j t 0 (omega (arith, size)), column_at j t 2 (omega (arith, size)), column_at j t 4 (omega (arith, size)), column_at j t 6 (omega (arith, size)), column_at j t 8 (omega (arith, size)), column_at j t 10 (omega (arith, size)), column_at j t 12 (omega (arith, size)), column_at j t 14 (omega (arith, size))) refl

pub even_few : (t : List (List ℤ)) → length t ≡ 16 → ((j : ℕ) → j < 8 → magnitude (column j t) ≤ 2 ^ 14) → (j : ℕ) → j < 8 →
    magnitude (column j (even_rows t)) ≤ 2 ^ 15
even_few t size few j low =
    subst (λ zs. magnitude zs ≤ 2 ^ 15) (sym (halves_is t j size)) (omega (arith, parts_few (column j t) (column_size t j size), few j low))

pub even_small : (t : List (List ℤ)) → length t ≡ 16 → All (All IsSmall) t → All (All IsSmall) (even_rows t)
even_small t size small =
    all_eight (get_or t 0 []) (get_or t 2 []) (get_or t 4 []) (get_or t 6 []) (get_or t 8 []) (get_or t 10 []) (get_or t 12 []) (get_or t 14 [])
    (small 0 [] (omega (arith, size))) (small 2 [] (omega (arith, size))) (small 4 [] (omega (arith, size))) (small 6 [] (omega (arith, size))) (small 8 [] (omega (arith, size))) (small 10 [] (omega (arith, size))) (small 12 [] (omega (arith, size))) (small 14 [] (omega (arith, size)))

-- rows of lanes that are sums and differences of what the even and what the odd rows make
pub record Sixteen (t even odd : List (List ℤ)) (u0 u1 u2 u3 u4 u5 u6 u7 v0 v1 v2 v3 v4 v5 v6 v7 : List ℤ) : Type 0 where
  pub size : length t ≡ 16
  pub few : (j : ℕ) → j < 8 → magnitude (column j t) ≤ 2 ^ 14
  pub even_size : length even ≡ 8
  pub odd_size : length odd ≡ 8
  pub even_made : (limit j : ℕ) → 2 ^ 15 ≤ limit → j < 8 → dct limit 3 (column j (even_rows t)) ≡ Ok (column j even)
  pub odd_made : (j : ℕ) → j < 8 → column j odd ≡ odd_eight (column j t)
  pub sums_0 : TwoLanes sum_and_difference (get_or even 0 []) (get_or odd 0 []) u0 v0 8
  pub sums_1 : TwoLanes sum_and_difference (get_or even 1 []) (get_or odd 1 []) u1 v1 8
  pub sums_2 : TwoLanes sum_and_difference (get_or even 2 []) (get_or odd 2 []) u2 v2 8
  pub sums_3 : TwoLanes sum_and_difference (get_or even 3 []) (get_or odd 3 []) u3 v3 8
  pub sums_4 : TwoLanes sum_and_difference (get_or even 4 []) (get_or odd 4 []) u4 v4 8
  pub sums_5 : TwoLanes sum_and_difference (get_or even 5 []) (get_or odd 5 []) u5 v5 8
  pub sums_6 : TwoLanes sum_and_difference (get_or even 6 []) (get_or odd 6 []) u6 v6 8
  pub sums_7 : TwoLanes sum_and_difference (get_or even 7 []) (get_or odd 7 []) u7 v7 8

sum_is : (even odd : List (List ℤ)) (i : ℕ) (u v : List ℤ) → i < length even → i < length odd → TwoLanes sum_and_difference (get_or even i []) (get_or odd i []) u v 8 →
    (j : ℕ) → j < 8 → (at u j ≡ sum_of (column j even) (column j odd) i) × (at v j ≡ difference_of (column j even) (column j odd) i)
unfolding sum_and_difference
sum_is even odd i u v even_low odd_low made j low = rw (column_at j even i even_low, column_at j odd i odd_low) (made.first j low, made.second j low)

even_value : (t even : List (List ℤ)) (j : ℕ) → length t ≡ 16 → magnitude (column j (even_rows t)) ≤ 2 ^ 15 →
    dct (2 ^ 15) 3 (column j (even_rows t)) ≡ Ok (column j even) → column j even ≡ evens_made (column j t)
even_value t even j size few is =
    let same = eight.straight (2 ^ 15) (column j (even_rows t)) (omega arith) refl few in
    let both : Ok (column j even) ≡ Ok (eight.oct (eight.evens (column j (even_rows t))) (eight.odds (column j (even_rows t)))) = sym is ∙ same in
    let value : column j even ≡ eight.oct (eight.evens (column j (even_rows t))) (eight.odds (column j (even_rows t))) = cc in
    value ∙ ap (λ zs. eight.oct (eight.evens zs) (eight.odds zs)) (halves_is t j size)

sixteen_is : (t even odd : List (List ℤ)) (u0 u1 u2 u3 u4 u5 u6 u7 v0 v1 v2 v3 v4 v5 v6 v7 : List ℤ) → Sixteen t even odd u0 u1 u2 u3 u4 u5 u6 u7 v0 v1 v2 v3 v4 v5 v6 v7 → (limit j : ℕ) → 2 ^ 15 ≤ limit → j < 8 →
    dct limit 4 (column j t) ≡ Ok (at u0 j ∷ at u1 j ∷ at u2 j ∷ at u3 j ∷ at u4 j ∷ at u5 j ∷ at u6 j ∷ at u7 j ∷ at v7 j ∷ at v6 j ∷ at v5 j ∷ at v4 j ∷ at v3 j ∷ at v2 j ∷ at v1 j ∷ at v0 j ∷ [])
sixteen_is t even odd u0 u1 u2 u3 u4 u5 u6 u7 v0 v1 v2 v3 v4 v5 v6 v7 s limit j most low =
    let even_is = even_value t even j s.size (even_few t s.size s.few j low) (s.even_made (2 ^ 15) j (omega arith) low) in
    let odd_is = s.odd_made j low in
    let whole : dct limit 4 (column j t) ≡ Ok (sixteen (evens_made (column j t)) (odd_eight (column j t))) = straight limit (column j t) most (column_size t j s.size) (s.few j low) in
    let made : dct limit 4 (column j t) ≡ Ok (sixteen (column j even) (column j odd)) =
    whole ∙ ap Ok (ap (λ ys. sixteen ys (odd_eight (column j t))) (sym even_is) ∙ ap (sixteen (column j even)) (sym odd_is)) in
    let sum_0 = sum_is even odd 0 u0 v0 (omega (arith, s.even_size)) (omega (arith, s.odd_size)) s.sums_0 j low in
    let sum_1 = sum_is even odd 1 u1 v1 (omega (arith, s.even_size)) (omega (arith, s.odd_size)) s.sums_1 j low in
    let sum_2 = sum_is even odd 2 u2 v2 (omega (arith, s.even_size)) (omega (arith, s.odd_size)) s.sums_2 j low in
    let sum_3 = sum_is even odd 3 u3 v3 (omega (arith, s.even_size)) (omega (arith, s.odd_size)) s.sums_3 j low in
    let sum_4 = sum_is even odd 4 u4 v4 (omega (arith, s.even_size)) (omega (arith, s.odd_size)) s.sums_4 j low in
    let sum_5 = sum_is even odd 5 u5 v5 (omega (arith, s.even_size)) (omega (arith, s.odd_size)) s.sums_5 j low in
    let sum_6 = sum_is even odd 6 u6 v6 (omega (arith, s.even_size)) (omega (arith, s.odd_size)) s.sums_6 j low in
    let sum_7 = sum_is even odd 7 u7 v7 (omega (arith, s.even_size)) (omega (arith, s.odd_size)) s.sums_7 j low in
    made ∙ ap Ok (rw (sum_0.0, sum_0.1, sum_1.0, sum_1.1, sum_2.0, sum_2.1, sum_3.0, sum_3.1, sum_4.0, sum_4.1, sum_5.0, sum_5.1, sum_6.0, sum_6.1, sum_7.0, sum_7.1) refl)

pub sixteen_given : (t even odd : List (List ℤ)) (u0 u1 u2 u3 u4 u5 u6 u7 v0 v1 v2 v3 v4 v5 v6 v7 : List ℤ) → Sixteen t even odd u0 u1 u2 u3 u4 u5 u6 u7 v0 v1 v2 v3 v4 v5 v6 v7 → (limit j : ℕ) → 2 ^ 15 ≤ limit → j < 8 →
    dct limit 4 (column j t) ≡ Ok (column j (set (set (set (set (set (set (set (set (set (set (set (set (set (set (set (set t 0 u0) 15 v0) 1 u1) 14 v1) 2 u2) 13 v2) 3 u3) 12 v3) 4 u4) 11 v4) 5 u5) 10 v5) 6 u6) 9 v6) 7 u7) 8 v7))
sixteen_given t even odd u0 u1 u2 u3 u4 u5 u6 u7 v0 v1 v2 v3 v4 v5 v6 v7 s limit j most low =
    sixteen_is t even odd u0 u1 u2 u3 u4 u5 u6 u7 v0 v1 v2 v3 v4 v5 v6 v7 s limit j most low ∙ ap Ok (sym (ap (column j) (set_sixteen t u0 u1 u2 u3 u4 u5 u6 u7 v0 v1 v2 v3 v4 v5 v6 v7 s.size)))

values_small : (t even odd : List (List ℤ)) (u0 u1 u2 u3 u4 u5 u6 u7 v0 v1 v2 v3 v4 v5 v6 v7 : List ℤ) → Sixteen t even odd u0 u1 u2 u3 u4 u5 u6 u7 v0 v1 v2 v3 v4 v5 v6 v7 → (j : ℕ) → j < 8 → All IsSmall (at u0 j ∷ at u1 j ∷ at u2 j ∷ at u3 j ∷ at u4 j ∷ at u5 j ∷ at u6 j ∷ at u7 j ∷ at v7 j ∷ at v6 j ∷ at v5 j ∷ at v4 j ∷ at v3 j ∷ at v2 j ∷ at v1 j ∷ at v0 j ∷ [])
values_small t even odd u0 u1 u2 u3 u4 u5 u6 u7 v0 v1 v2 v3 v4 v5 v6 v7 s j low =
    let small : All IsSmall (column j t) = λ i x i_low. omega (arith, magnitude_bounds (2 ^ 14) (column j t) (s.few j low) i x i_low) in
    dct_small (2 ^ 24) (2 ^ 15) 4 (column j t) (at u0 j ∷ at u1 j ∷ at u2 j ∷ at u3 j ∷ at u4 j ∷ at u5 j ∷ at u6 j ∷ at u7 j ∷ at v7 j ∷ at v6 j ∷ at v5 j ∷ at v4 j ∷ at v3 j ∷ at v2 j ∷ at v1 j ∷ at v0 j ∷ []) (omega arith) small (sixteen_is t even odd u0 u1 u2 u3 u4 u5 u6 u7 v0 v1 v2 v3 v4 v5 v6 v7 s (2 ^ 15) j (omega arith) low)

pub sixteen_small : (t even odd : List (List ℤ)) (u0 u1 u2 u3 u4 u5 u6 u7 v0 v1 v2 v3 v4 v5 v6 v7 : List ℤ) → Sixteen t even odd u0 u1 u2 u3 u4 u5 u6 u7 v0 v1 v2 v3 v4 v5 v6 v7 → length u0 ≡ 8 → length u1 ≡ 8 → length u2 ≡ 8 → length u3 ≡ 8 → length u4 ≡ 8 → length u5 ≡ 8 → length u6 ≡ 8 → length u7 ≡ 8 → length v0 ≡ 8 → length v1 ≡ 8 → length v2 ≡ 8 → length v3 ≡ 8 → length v4 ≡ 8 → length v5 ≡ 8 → length v6 ≡ 8 → length v7 ≡ 8 → All (All IsSmall) t → All (All IsSmall) (set (set (set (set (set (set (set (set (set (set (set (set (set (set (set (set t 0 u0) 15 v0) 1 u1) 14 v1) 2 u2) 13 v2) 3 u3) 12 v3) 4 u4) 11 v4) 5 u5) 10 v5) 6 u6) 9 v6) 7 u7) 8 v7)
sixteen_small t even odd u0 u1 u2 u3 u4 u5 u6 u7 v0 v1 v2 v3 v4 v5 v6 v7 s u0_size u1_size u2_size u3_size u4_size u5_size u6_size u7_size v0_size v1_size v2_size v3_size v4_size v5_size v6_size v7_size small =
    let each = values_small t even odd u0 u1 u2 u3 u4 u5 u6 u7 v0 v1 v2 v3 v4 v5 v6 v7 s in
    let u0_small : All IsSmall u0 = lanes_small u0 u0_size (λ j low. each j low 0 (pos 0) (omega arith)) in
    let u1_small : All IsSmall u1 = lanes_small u1 u1_size (λ j low. each j low 1 (pos 0) (omega arith)) in
    let u2_small : All IsSmall u2 = lanes_small u2 u2_size (λ j low. each j low 2 (pos 0) (omega arith)) in
    let u3_small : All IsSmall u3 = lanes_small u3 u3_size (λ j low. each j low 3 (pos 0) (omega arith)) in
    let u4_small : All IsSmall u4 = lanes_small u4 u4_size (λ j low. each j low 4 (pos 0) (omega arith)) in
    let u5_small : All IsSmall u5 = lanes_small u5 u5_size (λ j low. each j low 5 (pos 0) (omega arith)) in
    let u6_small : All IsSmall u6 = lanes_small u6 u6_size (λ j low. each j low 6 (pos 0) (omega arith)) in
    let u7_small : All IsSmall u7 = lanes_small u7 u7_size (λ j low. each j low 7 (pos 0) (omega arith)) in
    let v0_small : All IsSmall v0 = lanes_small v0 v0_size (λ j low. each j low 15 (pos 0) (omega arith)) in
    let v1_small : All IsSmall v1 = lanes_small v1 v1_size (λ j low. each j low 14 (pos 0) (omega arith)) in
    let v2_small : All IsSmall v2 = lanes_small v2 v2_size (λ j low. each j low 13 (pos 0) (omega arith)) in
    let v3_small : All IsSmall v3 = lanes_small v3 v3_size (λ j low. each j low 12 (pos 0) (omega arith)) in
    let v4_small : All IsSmall v4 = lanes_small v4 v4_size (λ j low. each j low 11 (pos 0) (omega arith)) in
    let v5_small : All IsSmall v5 = lanes_small v5 v5_size (λ j low. each j low 10 (pos 0) (omega arith)) in
    let v6_small : All IsSmall v6 = lanes_small v6 v6_size (λ j low. each j low 9 (pos 0) (omega arith)) in
    let v7_small : All IsSmall v7 = lanes_small v7 v7_size (λ j low. each j low 8 (pos 0) (omega arith)) in
    All-set (All IsSmall) _ 8 v7 v7_small (All-set (All IsSmall) _ 7 u7 u7_small (All-set (All IsSmall) _ 9 v6 v6_small (All-set (All IsSmall) _ 6 u6 u6_small (All-set (All IsSmall) _ 10 v5 v5_small (All-set (All IsSmall) _ 5 u5 u5_small (All-set (All IsSmall) _ 11 v4 v4_small (All-set (All IsSmall) _ 4 u4 u4_small (All-set (All IsSmall) _ 12 v3 v3_small (All-set (All IsSmall) _ 3 u3 u3_small (All-set (All IsSmall) _ 13 v2 v2_small (All-set (All IsSmall) _ 2 u2 u2_small (All-set (All IsSmall) _ 14 v1 v1_small (All-set (All IsSmall) _ 1 u1 u1_small (All-set (All IsSmall) _ 15 v0 v0_small (All-set (All IsSmall) t 0 u0 u0_small small)))))))))))))))
