-- What a decoder holds moves as its window does.
use Rattle.std.proofs.Common.{◌≡◌, ℕ, ◌+◌, ◌-◌, ◌*◌, ◌/◌, ◌%◌, ◌^◌, ◌<◌, ◌≤◌, List, ◌++◌, refl, ap, sym, ◌∙◌, arith, take, drop}
use Rattle.std.proofs.lemmas.Nat.{pow_pos, pow-add, shr_split, shr-shr, field_of, shl-shr, shr_below}
use Rattle.std.proofs.Math.Pow.{mod-mod-pow}
use Rattle.std.proofs.Math.Nat.{mod-lt, mul-le-mul_right, mul-mod_left, mul_assoc}
use Rattle.vp9_types.specs.Bits.{bits_of, spelled}
use Rattle.bool_decoder.specs.Ahead.{bits_ahead}
use Rattle.bool_decoder.specs.Coder.{front_number}
use Rattle.bool_decoder.specs.Window.{trimmed, window_on, doubled_window}
use Rattle.bool_decoder.proofs.Fronts.{front-spelled, drop-spelled, take-spelled, front-trimmed, drop-trimmed}
use Rattle.bool_decoder.proofs.Stand.{same_window}

pub ahead_is : (window c m : ℕ) (bytes : List ℕ) → c + m ≡ 64 → bits_ahead window c bytes ≡ spelled c (window / 2 ^ m) ++ bits_of bytes
ahead_is window c m bytes sum =
    ap (λ ds. ds ++ bits_of bytes) (ap (λ k. take c (spelled k window)) (sym sum) ∙ take-spelled c m window)

-- a window of 8 + j bits that spell t: the value, and what comes after it
pub value_is : (t j : ℕ) (bits : List ℕ) → t < 2 ^ (8 + j) → front_number 8 (trimmed (spelled (8 + j) t ++ bits)) ≡ t / 2 ^ j
value_is t j bits low = front-trimmed 8 (spelled (8 + j) t ++ bits) ∙ front-spelled 8 j t bits low

pub rest_is : (t j : ℕ) (bits : List ℕ) → t < 2 ^ (8 + j) → drop 8 (trimmed (spelled (8 + j) t ++ bits)) ≡ trimmed (spelled j (t % 2 ^ j) ++ bits)
rest_is t j bits low = drop-trimmed 8 (spelled (8 + j) t ++ bits) ∙ ap trimmed (drop-spelled 8 j t bits low)

-- the value takes k bits of what comes after it
value_grows : (t k i : ℕ) (bits : List ℕ) → t / 2 ^ i ≡ t / 2 ^ (k + i) * 2 ^ k + front_number k (trimmed (spelled (k + i) (t % 2 ^ (k + i)) ++ bits))
value_grows t k i bits =
    let next : front_number k (trimmed (spelled (k + i) (t % 2 ^ (k + i)) ++ bits)) ≡ t / 2 ^ i % 2 ^ k =
    front-trimmed k (spelled (k + i) (t % 2 ^ (k + i)) ++ bits)
    ∙ front-spelled k i (t % 2 ^ (k + i)) bits (mod-lt t (pow_pos (k + i)))
    ∙ field_of t k i in
    let whole = shr_split (t / 2 ^ i) k in
    let sum : i + k ≡ k + i = omega arith in
    let high : t / 2 ^ i / 2 ^ k ≡ t / 2 ^ (k + i) = shr-shr t i k ∙ ap (λ n. t / 2 ^ n) sum in
    let first = ap (λ n. n * 2 ^ k) high in
    omega (arith, next, whole, first)

rest_moves : (t k i : ℕ) (bits : List ℕ) → drop k (trimmed (spelled (k + i) (t % 2 ^ (k + i)) ++ bits)) ≡ trimmed (spelled i (t % 2 ^ i) ++ bits)
rest_moves t k i bits =
    drop-trimmed k (spelled (k + i) (t % 2 ^ (k + i)) ++ bits)
    ∙ ap trimmed (drop-spelled k i (t % 2 ^ (k + i)) bits (mod-lt t (pow_pos (k + i))))
    ∙ ap (λ n. trimmed (spelled i n ++ bits)) (mod-mod-pow t k i)

-- the same number, with k bits fewer that are known
doubled_by : (t range k i place : ℕ) (bits : List ℕ) → t < 2 ^ (8 + i) → t < 2 ^ (8 + (k + i))
    → window_on (range * 2 ^ k) ((place + k) % 8) (trimmed (spelled (8 + i) t ++ bits))
    ≡ doubled_window (t / 2 ^ (k + i)) range (drop 8 (trimmed (spelled (8 + (k + i)) t ++ bits))) place k
doubled_by t range k i place bits low wide =
    let there = rest_is t (k + i) bits wide in
    same_window _ _ (range * 2 ^ k) _ _ _ _
    (value_is t i bits low ∙ value_grows t k i bits ∙ ap (λ r. t / 2 ^ (k + i) * 2 ^ k + front_number k r) (sym there))
    (rest_is t i bits low ∙ sym (rest_moves t k i bits) ∙ ap (λ r. drop k r) (sym there))
    refl

doubled_in : (window range k i m place : ℕ) (bytes : List ℕ) → 8 + (k + i) + m ≡ 64 → window < 2 ^ 64 → window * 2 ^ k < 2 ^ 64
    → window_on (range * 2 ^ k) ((place + k) % 8) (trimmed (bits_ahead (window * 2 ^ k) (8 + i) bytes))
    ≡ doubled_window (window / 2 ^ 56) range (drop 8 (trimmed (bits_ahead window (8 + (k + i)) bytes))) place k
doubled_in window range k i m place bytes sum fits still =
    let t = window / 2 ^ m in
    let shorter : 8 + i + (k + m) ≡ 64 = omega arith in
    let shifted : window * 2 ^ k / 2 ^ (k + m) ≡ t = sym (shr-shr (window * 2 ^ k) k m) ∙ ap (λ n. n / 2 ^ m) (shl-shr window k) in
    let low : t < 2 ^ (8 + i) =
    rw (sym shifted) (shr_below (window * 2 ^ k) (8 + i) (k + m) (rw shorter still)) in
    let wide : t < 2 ^ (8 + (k + i)) = shr_below window (8 + (k + i)) m (rw sum fits) in
    let old = ahead_is window (8 + (k + i)) m bytes sum in
    let new : bits_ahead (window * 2 ^ k) (8 + i) bytes ≡ spelled (8 + i) t ++ bits_of bytes =
    ahead_is (window * 2 ^ k) (8 + i) (k + m) bytes shorter ∙ ap (λ n. spelled (8 + i) n ++ bits_of bytes) shifted in
    let all : m + (k + i) ≡ 56 = omega arith in
    let value : window / 2 ^ 56 ≡ t / 2 ^ (k + i) = sym (shr-shr window m (k + i) ∙ ap (λ n. window / 2 ^ n) all) in
    rw (old, new, value) (doubled_by t range k i place (bits_of bytes) low wide)

pub doubled_holds : (window range k count : ℕ) (bytes : List ℕ) → 8 + k ≤ count → count ≤ 64 → window < 2 ^ 64 → window * 2 ^ k < 2 ^ 64
    → window_on (range * 2 ^ k) ((64 - (count - k)) % 8) (trimmed (bits_ahead (window * 2 ^ k) (count - k) bytes))
    ≡ doubled_window (window / 2 ^ 56) range (drop 8 (trimmed (bits_ahead window count bytes))) ((64 - count) % 8) k
doubled_holds window range k count bytes some most fits still =
    let i = count - 8 - k in
    let all : 8 + (k + i) ≡ count = omega arith in
    let less : 8 + i ≡ count - k = omega arith in
    let place : (64 - (count - k)) % 8 ≡ ((64 - count) % 8 + k) % 8 = omega arith in
    let there = doubled_in window range k i (64 - count) ((64 - count) % 8) bytes (omega arith) fits still in
    rw place (rw (all, less) at there)

pub doubled_below : (window range k : ℕ) → window < range * 2 ^ 56 → window * 2 ^ k < range * 2 ^ k * 2 ^ 56
doubled_below window range k h =
    let wide = mul-le-mul_right (2 ^ k) h in
    let some = pow_pos k in
    omega arith

pub doubled_fits : (window range k : ℕ) → window < range * 2 ^ 56 → range * 2 ^ k ≤ 255 → window * 2 ^ k < 2 ^ 64
doubled_fits window range k h narrow = let e = doubled_below window range k h in omega arith

pub doubled_clean : (window k count : ℕ) → k ≤ count → count ≤ 64 → window % 2 ^ (64 - count) ≡ 0
    → window * 2 ^ k % 2 ^ (64 - (count - k)) ≡ 0
doubled_clean window k count some most clean =
    let t = window / 2 ^ (64 - count) in
    let e : 64 - (count - k) ≡ 64 - count + k = omega arith in
    let whole = shr_split window (64 - count) in
    let is : window ≡ t * 2 ^ (64 - count) = omega arith in
    let wide : window * 2 ^ k ≡ t * 2 ^ (64 - count + k) =
    ap (λ n. n * 2 ^ k) is ∙ mul_assoc t (2 ^ (64 - count)) (2 ^ k) ∙ ap (λ p. t * p) (sym (pow-add 2 (64 - count) k)) in
    rw e (ap (λ n. n % 2 ^ (64 - count + k)) wide ∙ mul-mod_left t (2 ^ (64 - count + k)))
