-- Four rows of four values that are interleaved twice are their columns.
use Rattle.std.proofs.Common.{◌≡◌, ℕ, zero, suc, ◌+◌, ◌^◌, ◌<◌, ◌≤◌, ℤ, pos, List, [], ◌∷◌, ◌++◌, map, length, set, get_or, refl, sym, ◌∙◌, ap, subst, arith, All, to_z, of_z}
use mir.Syntax.{w32}
use lib.Lanes.{chunk, put_chunk}
use borrow.Rule.Slice.PartMut.{put_mid, mid_of}
use Rattle.std.proofs.lemmas.List.{get_or-map, length-map, get_or_append_left, get_or-append-add}
use Rattle.std.proofs.lemmas.Simd.{get_or-chunk, length-chunk}
use Rattle.inverse_transforms.specs.Ranges.{IsSmall}
use Rattle.inverse_transforms.specs.Flow.{at}
use Rattle.inverse_transforms.proofs.LaneLemmas.{kept}
use Rattle.inverse_transforms.proofs.Small.{at_small}
use Rattle.residue_transforms.specs.Fours.{IsFour, across}

four_values : (xs : List ℤ) → length xs ≡ 4 → xs ≡ at xs 0 ∷ at xs 1 ∷ at xs 2 ∷ at xs 3 ∷ []
four_values [] size = absurd (omega arith)
four_values (a ∷ []) size = absurd (omega arith)
four_values (a ∷ b ∷ []) size = absurd (omega arith)
four_values (a ∷ b ∷ c ∷ []) size = absurd (omega arith)
four_values (a ∷ b ∷ c ∷ d ∷ []) size = refl
four_values (a ∷ b ∷ c ∷ d ∷ e ∷ xs) size = absurd (omega arith)

pub kept_four : (a b c d : ℤ) → IsSmall a → IsSmall b → IsSmall c → IsSmall d →
    map (to_z w32) (map (of_z w32) (a ∷ b ∷ c ∷ d ∷ [])) ≡ a ∷ b ∷ c ∷ d ∷ []
kept_four a b c d a_small b_small c_small d_small = rw (kept a a_small, kept b b_small, kept c c_small, kept d d_small) refl

at_chunk : (place : ℕ) (xs : List ℤ) (k : ℕ) → k < 4 → at (chunk place 4 xs) k ≡ at xs (place + k)
at_chunk place xs k low = get_or-chunk place 4 xs k (pos 0) low

pub chunk_values : (place : ℕ) (xs : List ℤ) → place + 4 ≤ length xs →
    chunk place 4 xs ≡ at xs place ∷ at xs (place + 1) ∷ at xs (place + 2) ∷ at xs (place + 3) ∷ []
chunk_values place xs room =
    let start : place + 0 ≡ place = omega arith in
    four_values (chunk place 4 xs) (length-chunk place 4 xs room)
    ∙ rw (at_chunk place xs 0 (omega arith) ∙ ap (at xs) start, at_chunk place xs 1 (omega arith), at_chunk place xs 2 (omega arith), at_chunk place xs 3 (omega arith)) refl

pub chunk_kept : (place : ℕ) (xs : List ℤ) → place + 4 ≤ length xs → All IsSmall xs →
    map (to_z w32) (map (of_z w32) (chunk place 4 xs)) ≡ at xs place ∷ at xs (place + 1) ∷ at xs (place + 2) ∷ at xs (place + 3) ∷ []
chunk_kept place xs room small =
    ap (λ ys. map (to_z w32) (map (of_z w32) ys)) (chunk_values place xs room)
    ∙ kept_four (at xs place) (at xs (place + 1)) (at xs (place + 2)) (at xs (place + 3))
    (at_small (2 ^ 24) xs place small) (at_small (2 ^ 24) xs (place + 1) small) (at_small (2 ^ 24) xs (place + 2) small) (at_small (2 ^ 24) xs (place + 3) small)

at_front : (a c : List ℤ) (k : ℕ) → IsFour a → k < 4 → get_or (map (of_z w32) a ++ map (of_z w32) c) k 0 ≡ of_z w32 (at a k)
at_front a c k four low =
    get_or_append_left (map (of_z w32) a) (map (of_z w32) c) 0 k (omega (arith, length-map a (of_z w32), four.0))
    ∙ get_or-map (of_z w32) a k (pos 0) 0 (omega (arith, four.0))

at_behind : (a c : List ℤ) (k : ℕ) → IsFour a → IsFour c → k < 4 → get_or (map (of_z w32) a ++ map (of_z w32) c) (4 + k) 0 ≡ of_z w32 (at c k)
at_behind a c k four other low =
    ap (λ n. get_or (map (of_z w32) a ++ map (of_z w32) c) (n + k) 0) (sym (length-map a (of_z w32) ∙ four.0))
    ∙ (get_or-append-add (map (of_z w32) a) (map (of_z w32) c) k 0 ∙ get_or-map (of_z w32) c k (pos 0) 0 (omega (arith, other.0)))

-- one of two joined lists
front_kept : (a c : List ℤ) (k : ℕ) → IsFour a → k < 4 → to_z w32 (get_or (map (of_z w32) a ++ map (of_z w32) c) k 0) ≡ at a k
front_kept a c k four low = ap (to_z w32) (at_front a c k four low) ∙ kept (at a k) (at_small (2 ^ 24) a k four.1)

behind_kept : (a c : List ℤ) (k : ℕ) → IsFour a → IsFour c → k < 4 → to_z w32 (get_or (map (of_z w32) a ++ map (of_z w32) c) (4 + k) 0) ≡ at c k
behind_kept a c k four other low = ap (to_z w32) (at_behind a c k four other low) ∙ kept (at c k) (at_small (2 ^ 24) c k other.1)

twice_kept : (z x : ℤ) → z ≡ x → IsSmall x → to_z w32 (of_z w32 (to_z w32 (of_z w32 z))) ≡ x
twice_kept z x is small = rw is (rw (kept x small) (kept x small))

front_twice : (a c : List ℤ) (k : ℕ) → IsFour a → k < 4 →
    to_z w32 (of_z w32 (to_z w32 (of_z w32 (to_z w32 (get_or (map (of_z w32) a ++ map (of_z w32) c) k 0))))) ≡ at a k
front_twice a c k four low =
    twice_kept (to_z w32 (get_or (map (of_z w32) a ++ map (of_z w32) c) k 0)) (at a k) (front_kept a c k four low) (at_small (2 ^ 24) a k four.1)

behind_twice : (a c : List ℤ) (k : ℕ) → IsFour a → IsFour c → k < 4 →
    to_z w32 (of_z w32 (to_z w32 (of_z w32 (to_z w32 (get_or (map (of_z w32) a ++ map (of_z w32) c) (4 + k) 0))))) ≡ at c k
behind_twice a c k four other low =
    twice_kept (to_z w32 (get_or (map (of_z w32) a ++ map (of_z w32) c) (4 + k) 0)) (at c k) (behind_kept a c k four other low) (at_small (2 ^ 24) c k other.1)

pub same_four : (a b c d e f g h : ℤ) → a ≡ e → b ≡ f → c ≡ g → d ≡ h → a ∷ b ∷ c ∷ d ∷ [] ≡ e ∷ f ∷ g ∷ h ∷ []
same_four a b c d e f g h i j k l = rw (i, j, k, l) refl

-- what two interleavings make of lists of four
abbrev twice : List ℤ → List ℤ → ℕ → ℤ
twice a c k = to_z w32 (of_z w32 (to_z w32 (of_z w32 (to_z w32 (get_or (map (of_z w32) a ++ map (of_z w32) c) k 0)))))

pub woven : (a b c d : List ℤ) (k : ℕ) → IsFour a → IsFour b → IsFour c → IsFour d → k < 4 →
    twice a c k ∷ twice b d k ∷ twice a c (4 + k) ∷ twice b d (4 + k) ∷ [] ≡ across a b c d k
woven a b c d k a_four b_four c_four d_four low =
    same_four (twice a c k) (twice b d k) (twice a c (4 + k)) (twice b d (4 + k)) (at a k) (at b k) (at c k) (at d k)
    (front_twice a c k a_four low) (front_twice b d k b_four low) (behind_twice a c k a_four c_four low) (behind_twice b d k b_four d_four low)

eight_values : (xs : List ℤ) → length xs ≡ 8 → xs ≡ at xs 0 ∷ at xs 1 ∷ at xs 2 ∷ at xs 3 ∷ at xs 4 ∷ at xs 5 ∷ at xs 6 ∷ at xs 7 ∷ []
eight_values [] size = absurd (omega arith)
eight_values (a ∷ []) size = absurd (omega arith)
eight_values (a ∷ b ∷ []) size = absurd (omega arith)
eight_values (a ∷ b ∷ c ∷ []) size = absurd (omega arith)
eight_values (a ∷ b ∷ c ∷ d ∷ []) size = absurd (omega arith)
eight_values (a ∷ b ∷ c ∷ d ∷ e ∷ []) size = absurd (omega arith)
eight_values (a ∷ b ∷ c ∷ d ∷ e ∷ f ∷ []) size = absurd (omega arith)
eight_values (a ∷ b ∷ c ∷ d ∷ e ∷ f ∷ g ∷ []) size = absurd (omega arith)
eight_values (a ∷ b ∷ c ∷ d ∷ e ∷ f ∷ g ∷ h ∷ []) size = refl
eight_values (a ∷ b ∷ c ∷ d ∷ e ∷ f ∷ g ∷ h ∷ i ∷ xs) size = absurd (omega arith)

-- four values are put in front, and four behind them
abbrev put_both : List ℤ → List ℤ → List ℤ → List ℤ
put_both xs upper lower = put_mid 4 4 (put_chunk 0 xs upper) (put_chunk 0 (mid_of 4 4 (put_chunk 0 xs upper)) lower)

put_values : (a b c d e f g h p q r s w x y z : ℤ) →
    put_both (a ∷ b ∷ c ∷ d ∷ e ∷ f ∷ g ∷ h ∷ []) (p ∷ q ∷ r ∷ s ∷ []) (w ∷ x ∷ y ∷ z ∷ []) ≡ (p ∷ q ∷ r ∷ s ∷ []) ++ (w ∷ x ∷ y ∷ z ∷ [])
put_values a b c d e f g h p q r s w x y z = refl

put_lists : (xs upper lower : List ℤ) → length xs ≡ 8 → length upper ≡ 4 → length lower ≡ 4 → put_both xs upper lower ≡ upper ++ lower
put_lists xs upper lower size upper_size lower_size =
    let all = put_values (at xs 0) (at xs 1) (at xs 2) (at xs 3) (at xs 4) (at xs 5) (at xs 6) (at xs 7) (at upper 0) (at upper 1) (at upper 2) (at upper 3)
    (at lower 0) (at lower 1) (at lower 2) (at lower 3) in
    let of_row = subst (λ z. put_both z (at upper 0 ∷ at upper 1 ∷ at upper 2 ∷ at upper 3 ∷ []) (at lower 0 ∷ at lower 1 ∷ at lower 2 ∷ at lower 3 ∷ [])
    ≡ (at upper 0 ∷ at upper 1 ∷ at upper 2 ∷ at upper 3 ∷ []) ++ (at lower 0 ∷ at lower 1 ∷ at lower 2 ∷ at lower 3 ∷ [])) (sym (eight_values xs size)) all in
    let of_upper = subst (λ z. put_both xs z (at lower 0 ∷ at lower 1 ∷ at lower 2 ∷ at lower 3 ∷ [])
    ≡ z ++ (at lower 0 ∷ at lower 1 ∷ at lower 2 ∷ at lower 3 ∷ [])) (sym (four_values upper upper_size)) of_row in
    subst (λ z. put_both xs upper z ≡ upper ++ z) (sym (four_values lower lower_size)) of_upper

kept_whole : (xs : List ℤ) → IsFour xs → map (to_z w32) (map (of_z w32) xs) ≡ xs
kept_whole xs four =
    ap (λ z. map (to_z w32) (map (of_z w32) z)) (four_values xs four.0)
    ∙ (kept_four (at xs 0) (at xs 1) (at xs 2) (at xs 3) (at_small (2 ^ 24) xs 0 four.1) (at_small (2 ^ 24) xs 1 four.1) (at_small (2 ^ 24) xs 2 four.1)
    (at_small (2 ^ 24) xs 3 four.1) ∙ sym (four_values xs four.0))

pub lanes_set : (xs upper lower : List ℤ) → length xs ≡ 8 → IsFour upper → IsFour lower →
    put_both xs (map (to_z w32) (map (of_z w32) upper)) (map (to_z w32) (map (of_z w32) lower)) ≡ upper ++ lower
lanes_set xs upper lower size upper_four lower_four =
    ap (λ z. put_both xs z (map (to_z w32) (map (of_z w32) lower))) (kept_whole upper upper_four)
    ∙ (ap (put_both xs upper) (kept_whole lower lower_four) ∙ put_lists xs upper lower size upper_four.0 lower_four.0)

pub four_set : (t : List (List ℤ)) (a b c d : List ℤ) → length t ≡ 4 → set (set (set (set t 0 a) 1 b) 2 c) 3 d ≡ a ∷ b ∷ c ∷ d ∷ []
four_set [] a b c d size = absurd (omega arith)
four_set (p ∷ []) a b c d size = absurd (omega arith)
four_set (p ∷ q ∷ []) a b c d size = absurd (omega arith)
four_set (p ∷ q ∷ r ∷ []) a b c d size = absurd (omega arith)
four_set (p ∷ q ∷ r ∷ s ∷ []) a b c d size = refl
four_set (p ∷ q ∷ r ∷ s ∷ u ∷ t) a b c d size = absurd (omega arith)

small_four : (a b c d : ℤ) → IsSmall a → IsSmall b → IsSmall c → IsSmall d → All IsSmall (a ∷ b ∷ c ∷ d ∷ [])
small_four a b c d a_small b_small c_small d_small zero e low = a_small
small_four a b c d a_small b_small c_small d_small (suc zero) e low = b_small
small_four a b c d a_small b_small c_small d_small (suc (suc zero)) e low = c_small
small_four a b c d a_small b_small c_small d_small (suc (suc (suc zero))) e low = d_small
small_four a b c d a_small b_small c_small d_small (suc (suc (suc (suc k)))) e low = absurd (omega arith)

pub some_four : (xs : List ℤ) (p q r s : ℕ) → All IsSmall xs → IsFour (at xs p ∷ at xs q ∷ at xs r ∷ at xs s ∷ [])
some_four xs p q r s small = (
  refl,
  small_four (at xs p) (at xs q) (at xs r) (at xs s) (at_small (2 ^ 24) xs p small) (at_small (2 ^ 24) xs q small) (at_small (2 ^ 24) xs r small)
      (at_small (2 ^ 24) xs s small),
)
