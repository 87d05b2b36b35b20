-- Rows of lanes are loaded four at a time.
use Rattle.std.proofs.Common.{◌≡◌, ℕ, zero, suc, ◌+◌, ◌-◌, ◌*◌, ◌^◌, ◌<◌, ◌≤◌, ℤ, pos, List, [], ◌∷◌, ◌++◌, map, length, set, get_or, refl, sym, ◌∙◌, ap, subst, arith, All, to_z, of_z, below_more, length-set}
use mir.Syntax.{w32}
use Rattle.std.proofs.Math.Nat.{add-mul}
use Rattle.std.proofs.lemmas.Grind.{get_or-set_at}
use Rattle.std.proofs.lemmas.List.{get_or-set_other, get_or_default, ext_get_or, length-map, get_or-append_right}
use Rattle.std.proofs.lemmas.List.Elements.{All-append}
use Rattle.std.proofs.lemmas.Simd.{get_or-chunk, length-chunk}
use Rattle.inverse_transforms.specs.Ranges.{IsSmall}
use Rattle.inverse_transforms.specs.Flow.{at, zeros}
use Rattle.inverse_transforms.specs.LaneColumns.{column}
use Rattle.inverse_transforms.proofs.ColumnLemmas.{column_at}
use Rattle.inverse_transforms.proofs.Small.{at_small}
use Rattle.inverse_transforms.proofs.Zeros.{at_zeros}
use Rattle.residue_transforms.proofs.Skips.{zeros_small}
use Rattle.residue_transforms.specs.SquareBlocks.{row}
use Rattle.residue_transforms.specs.Fours.{IsFour, AreLoaded, across, four_down, eight_down}
use Rattle.residue_transforms.proofs.Pieces.{rows_before}
use Rattle.residue_transforms.proofs.Crossings.{kept_four, same_four, some_four, chunk_values}

-- a vector that is passed on
abbrev again : List ℤ → List ℤ
again ys = map (to_z w32) (map (of_z w32) ys)

pub four_stays : (n : ℕ) (xs ys : List ℤ) (p : ℕ) → All IsSmall xs → ys ≡ four_down n xs p → again ys ≡ four_down n xs p
four_stays n xs ys p small is =
    ap again is ∙ kept_four (at xs p) (at xs (p + n)) (at xs (p + 2 * n)) (at xs (p + 3 * n))
    (at_small (2 ^ 24) xs p small) (at_small (2 ^ 24) xs (p + n) small) (at_small (2 ^ 24) xs (p + 2 * n) small) (at_small (2 ^ 24) xs (p + 3 * n) small)

-- the values from a place on
abbrev line : List ℤ → ℕ → List ℤ
line xs p = at xs p ∷ at xs (p + 1) ∷ at xs (p + 2) ∷ at xs (p + 3) ∷ []

at_line : (xs : List ℤ) (p i : ℕ) → i < 4 → at (line xs p) i ≡ at xs (p + i)
at_line xs p zero low = ap (at xs) (omega arith)
at_line xs p (suc zero) low = refl
at_line xs p (suc (suc zero)) low = refl
at_line xs p (suc (suc (suc zero))) low = refl
at_line xs p (suc (suc (suc (suc i)))) low = absurd (omega arith)

at_again : (xs a : List ℤ) (p i q : ℕ) → All IsSmall xs → i < 4 → a ≡ line xs p → p + i ≡ q → at (again a) i ≡ at xs q
at_again xs a p i q small low is place =
    let kept_line : again (line xs p) ≡ line xs p = kept_four (at xs p) (at xs (p + 1)) (at xs (p + 2)) (at xs (p + 3))
    (at_small (2 ^ 24) xs p small) (at_small (2 ^ 24) xs (p + 1) small) (at_small (2 ^ 24) xs (p + 2) small) (at_small (2 ^ 24) xs (p + 3) small) in
    ap (λ ys. at (again ys) i) is ∙ (ap (λ ys. at ys i) kept_line ∙ (at_line xs p i low ∙ ap (at xs) place))

-- what stands across four rows is what stands below one place
pub down_made : (n : ℕ) (xs : List ℤ) (p i : ℕ) (a b c d r : List ℤ) → All IsSmall xs → i < 4 →
    a ≡ line xs p → b ≡ line xs (p + n) → c ≡ line xs (p + 2 * n) → d ≡ line xs (p + 3 * n) →
    r ≡ across (again a) (again b) (again c) (again d) i → r ≡ four_down n xs (p + i)
down_made n xs p i a b c d r small low a_is b_is c_is d_is is =
    is ∙ same_four (at (again a) i) (at (again b) i) (at (again c) i) (at (again d) i)
    (at xs (p + i)) (at xs (p + i + n)) (at xs (p + i + 2 * n)) (at xs (p + i + 3 * n))
    (at_again xs a p i (p + i) small low a_is refl) (at_again xs b (p + n) i (p + i + n) small low b_is (omega arith))
    (at_again xs c (p + 2 * n) i (p + i + 2 * n) small low c_is (omega arith)) (at_again xs d (p + 3 * n) i (p + i + 3 * n) small low d_is (omega arith))

down_is_four : (n : ℕ) (xs : List ℤ) (p : ℕ) → All IsSmall xs → IsFour (four_down n xs p)
down_is_four n xs p small = some_four xs p (p + n) (p + 2 * n) (p + 3 * n) small

pub four_again : (n : ℕ) (xs ys : List ℤ) (p : ℕ) → All IsSmall xs → ys ≡ four_down n xs p → IsFour (again ys)
four_again n xs ys p small is = subst IsFour (sym (four_stays n xs ys p small is)) (down_is_four n xs p small)

pub eight_made : (n : ℕ) (xs : List ℤ) (p a b : ℕ) (u l r : List ℤ) → All IsSmall xs → a ≡ p → b ≡ p + 4 * n →
    u ≡ four_down n xs a → l ≡ four_down n xs b → r ≡ again u ++ again l → r ≡ eight_down n xs p
eight_made n xs p a b u l r small a_is b_is u_is l_is is =
    is ∙ (ap (λ z. z ++ again l) (four_stays n xs u a small u_is ∙ ap (four_down n xs) a_is)
    ∙ ap (λ z. four_down n xs p ++ z) (four_stays n xs l b small l_is ∙ ap (four_down n xs) b_is))

row_loaded : (n : ℕ) (xs : List ℤ) (place k : ℕ) (t : List (List ℤ)) (r : List ℤ) → k < length t → r ≡ eight_down n xs (place + k) →
    AreLoaded n xs place t k → AreLoaded n xs place (set t k r) (k + 1)
row_loaded n xs place k t r low is so_far =
    below_more (λ i. get_or (set t k r) i [] ≡ eight_down n xs (place + i)) k
    (λ i h. get_or-set_other t k i r [] (λ same. omega arith) ∙ so_far i h)
    (get_or-set_at t k k r [] refl low ∙ is)

pub rows_loaded : (n : ℕ) (xs : List ℤ) (place k : ℕ) (t : List (List ℤ)) (a b c d : List ℤ) → k + 4 ≤ length t →
    a ≡ eight_down n xs (place + k) → b ≡ eight_down n xs (place + (k + 1)) → c ≡ eight_down n xs (place + (k + 2)) → d ≡ eight_down n xs (place + (k + 3)) →
    AreLoaded n xs place t k → AreLoaded n xs place (set (set (set (set t k a) (k + 1) b) (k + 2) c) (k + 3) d) (k + 4)
rows_loaded n xs place k t a b c d room a_is b_is c_is d_is so_far =
    let t1 = set t k a in
    let t2 = set t1 (k + 1) b in
    let t3 = set t2 (k + 2) c in
    let size1 : length t1 ≡ length t = length-set t k a in
    let size2 : length t2 ≡ length t = length-set t1 (k + 1) b ∙ size1 in
    let size3 : length t3 ≡ length t = length-set t2 (k + 2) c ∙ size2 in
    let second : (k + 1) + 1 ≡ k + 2 = omega arith in
    let third : (k + 2) + 1 ≡ k + 3 = omega arith in
    let fourth : (k + 3) + 1 ≡ k + 4 = omega arith in
    let s1 : AreLoaded n xs place t1 (k + 1) = row_loaded n xs place k t a (omega arith) a_is so_far in
    let s2 : AreLoaded n xs place t2 (k + 2) = subst (AreLoaded n xs place t2) second (row_loaded n xs place (k + 1) t1 b (omega (arith, size1)) b_is s1) in
    let s3 : AreLoaded n xs place t3 (k + 3) = subst (AreLoaded n xs place t3) third (row_loaded n xs place (k + 2) t2 c (omega (arith, size2)) c_is s2) in
    subst (AreLoaded n xs place (set t3 (k + 3) d)) fourth (row_loaded n xs place (k + 3) t3 d (omega (arith, size3)) d_is s3)

eight_at : (n : ℕ) (xs : List ℤ) (p j : ℕ) → j < 8 → at (eight_down n xs p) j ≡ at xs (p + j * n)
eight_at n xs p zero low = ap (at xs) (omega arith)
eight_at n xs p (suc zero) low = ap (at xs) (omega arith)
eight_at n xs p (suc (suc zero)) low = refl
eight_at n xs p (suc (suc (suc zero))) low = refl
eight_at n xs p (suc (suc (suc (suc zero)))) low = refl
eight_at n xs p (suc (suc (suc (suc (suc zero))))) low = ap (at xs) (omega arith)
eight_at n xs p (suc (suc (suc (suc (suc (suc zero)))))) low = ap (at xs) (omega arith)
eight_at n xs p (suc (suc (suc (suc (suc (suc (suc zero))))))) low = ap (at xs) (omega arith)
eight_at n xs p (suc (suc (suc (suc (suc (suc (suc (suc j)))))))) low = absurd (omega arith)

-- when all rows of lanes are loaded, the lanes are rows of the block
pub columns_loaded : (n first : ℕ) (xs : List ℤ) (t : List (List ℤ)) (k : ℕ) → length t ≡ n → n ≤ k → (first + 8) * n ≤ length xs →
    AreLoaded n xs (first * n) t k → (j : ℕ) → j < 8 → column j t ≡ row n (first + j) xs
columns_loaded n first xs t k size past room all j low =
    let row_room : (first + j) * n + n ≤ length xs = omega (arith, rows_before (first + j) (first + 8) n (omega arith)) in
    let row_size : length (row n (first + j) xs) ≡ n = length-chunk ((first + j) * n) n xs row_room in
    let column_size : length (column j t) ≡ length t = length-map t (λ r. at r j) in
    ext_get_or (pos 0) (column j t) (row n (first + j) xs) (column_size ∙ (size ∙ sym row_size))
    (λ i i_low.
    let i_low_t : i < length t = omega (arith, column_size) in
    let place : first * n + i + j * n ≡ (first + j) * n + i = omega (arith, add-mul first j n) in
    column_at j t i i_low_t ∙ (ap (λ r. at r j) (all i (omega arith)) ∙ (eight_at n xs (first * n + i) j low ∙ (ap (at xs) place
    ∙ sym (get_or-chunk ((first + j) * n) n xs i (pos 0) (omega arith))))))

eight_small : (n : ℕ) (xs : List ℤ) (p : ℕ) → All IsSmall xs → All IsSmall (eight_down n xs p)
eight_small n xs p small =
    All-append IsSmall (four_down n xs p) (four_down n xs (p + 4 * n)) (down_is_four n xs p small).1 (down_is_four n xs (p + 4 * n) small).1

pub loaded_small : (n : ℕ) (xs : List ℤ) (place : ℕ) (t : List (List ℤ)) (k : ℕ) → length t ≤ k → All IsSmall xs → AreLoaded n xs place t k → All (All IsSmall) t
loaded_small n xs place t k past small all i d low =
    let here : get_or t i d ≡ eight_down n xs (place + i) = get_or_default t i d [] low ∙ all i (omega arith) in
    subst (All IsSmall) (sym here) (eight_small n xs (place + i) small)

-- one row of lanes of a block of 4x4
half_made : (xs : List ℤ) (i : ℕ) (u r : List ℤ) → All IsSmall xs → u ≡ four_down 4 xs i → r ≡ again u ++ zeros 4 → r ≡ four_down 4 xs i ++ zeros 4
half_made xs i u r small u_is is = is ∙ ap (λ y. y ++ zeros 4) (four_stays 4 xs u i small u_is)

half_at : (xs : List ℤ) (i j : ℕ) → j < 4 → at (four_down 4 xs i ++ zeros 4) j ≡ at xs (j * 4 + i)
half_at xs i zero low = ap (at xs) (omega arith)
half_at xs i (suc zero) low = ap (at xs) (omega arith)
half_at xs i (suc (suc zero)) low = ap (at xs) (omega arith)
half_at xs i (suc (suc (suc zero))) low = ap (at xs) (omega arith)
half_at xs i (suc (suc (suc (suc j)))) low = absurd (omega arith)

half_rest : (xs : List ℤ) (i j : ℕ) → 4 ≤ j → at (four_down 4 xs i ++ zeros 4) j ≡ pos 0
half_rest xs i j past = get_or-append_right (four_down 4 xs i) (zeros 4) 4 j (pos 0) refl past ∙ at_zeros 4 (j - 4)

abbrev halves : List ℤ → List (List ℤ)
halves xs = (four_down 4 xs 0 ++ zeros 4) ∷ (four_down 4 xs 1 ++ zeros 4) ∷ (four_down 4 xs 2 ++ zeros 4) ∷ (four_down 4 xs 3 ++ zeros 4) ∷ []

pub halves_made : (xs : List ℤ) (p q r s a b c d : List ℤ) → All IsSmall xs →
    p ≡ four_down 4 xs 0 → q ≡ four_down 4 xs 1 → r ≡ four_down 4 xs 2 → s ≡ four_down 4 xs 3 →
    a ≡ again p ++ zeros 4 → b ≡ again q ++ zeros 4 → c ≡ again r ++ zeros 4 → d ≡ again s ++ zeros 4 → a ∷ b ∷ c ∷ d ∷ [] ≡ halves xs
halves_made xs p q r s a b c d small p_is q_is r_is s_is a_is b_is c_is d_is =
    rw (half_made xs 0 p a small p_is a_is, half_made xs 1 q b small q_is b_is, half_made xs 2 r c small r_is c_is, half_made xs 3 s d small s_is d_is) refl

pub halves_loaded : (xs : List ℤ) (t : List (List ℤ)) → length xs ≡ 16 → t ≡ halves xs → (j : ℕ) → j < 4 → column j t ≡ row 4 j xs
halves_loaded xs t size is j low =
    ap (column j) is
    ∙ (same_four (at (four_down 4 xs 0 ++ zeros 4) j) (at (four_down 4 xs 1 ++ zeros 4) j) (at (four_down 4 xs 2 ++ zeros 4) j) (at (four_down 4 xs 3 ++ zeros 4) j)
    (at xs (j * 4)) (at xs (j * 4 + 1)) (at xs (j * 4 + 2)) (at xs (j * 4 + 3))
    (half_at xs 0 j low ∙ ap (at xs) (omega arith)) (half_at xs 1 j low) (half_at xs 2 j low) (half_at xs 3 j low)
    ∙ sym (chunk_values (j * 4) xs (omega arith)))

pub halves_rest : (xs : List ℤ) (t : List (List ℤ)) → t ≡ halves xs → (j : ℕ) → 4 ≤ j → column j t ≡ zeros 4
halves_rest xs t is j past =
    ap (column j) is
    ∙ same_four (at (four_down 4 xs 0 ++ zeros 4) j) (at (four_down 4 xs 1 ++ zeros 4) j) (at (four_down 4 xs 2 ++ zeros 4) j) (at (four_down 4 xs 3 ++ zeros 4) j)
    (pos 0) (pos 0) (pos 0) (pos 0) (half_rest xs 0 j past) (half_rest xs 1 j past) (half_rest xs 2 j past) (half_rest xs 3 j past)

half_small : (xs : List ℤ) (i : ℕ) → All IsSmall xs → All IsSmall (four_down 4 xs i ++ zeros 4)
half_small xs i small = All-append IsSmall (four_down 4 xs i) (zeros 4) (down_is_four 4 xs i small).1 (zeros_small 4)

all_four : (a b c d : List ℤ) → All IsSmall a → All IsSmall b → All IsSmall c → All IsSmall d → All (All IsSmall) (a ∷ b ∷ c ∷ d ∷ [])
all_four a b c d a_small b_small c_small d_small zero e low = a_small
all_four a b c d a_small b_small c_small d_small (suc zero) e low = b_small
all_four a b c d a_small b_small c_small d_small (suc (suc zero)) e low = c_small
all_four a b c d a_small b_small c_small d_small (suc (suc (suc zero))) e low = d_small
all_four a b c d a_small b_small c_small d_small (suc (suc (suc (suc k)))) e low = absurd (omega arith)

pub halves_small : (xs : List ℤ) (t : List (List ℤ)) → All IsSmall xs → t ≡ halves xs → All (All IsSmall) t
halves_small xs t small is = subst (All (All IsSmall)) (sym is)
    (all_four (four_down 4 xs 0 ++ zeros 4) (four_down 4 xs 1 ++ zeros 4) (four_down 4 xs 2 ++ zeros 4) (four_down 4 xs 3 ++ zeros 4)
    (half_small xs 0 small) (half_small xs 1 small) (half_small xs 2 small) (half_small xs 3 small))
