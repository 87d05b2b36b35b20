-- The window's supply: six bytes as a number, and the bits of a window with them.
use Rattle.std.proofs.Common.{◌≡◌, ℕ, zero, suc, ◌+◌, ◌-◌, ◌*◌, ◌/◌, ◌%◌, ◌^◌, ◌<◌, ◌≤◌, List, [], ◌∷◌, ◌++◌, length, get_or, Fits, w8, refl, ap, sym, ◌∙◌, arith, take, drop, append_assoc}
use Rattle.std.proofs.lemmas.Nat.{pow_pos, pow-add, shr_split, shr-shr, shr_high, shl-shr, shl_below, shr_below}
use Rattle.std.proofs.Math.Nat.{mul-mod_left, zero-div, zero-mod, mul-le-mul_right, mul-le-mul_left}
use Rattle.vp9_types.specs.Bits.{bits_of, bits_of_byte, spelled}
use Rattle.bool_decoder.specs.Ahead.{bits_ahead, front_bytes}
use Rattle.bool_decoder.specs.Window.{trimmed}
use Rattle.bool_decoder.proofs.Fronts.{take-spelled, spelled-append, trimmed-append}

-- ---- the number of the first bytes

front_bytes-nil : (n : ℕ) → front_bytes n [] ≡ 0
unfolding front_bytes
front_bytes-nil zero = refl
front_bytes-nil (suc n) = refl

pub front_bytes-first : (n : ℕ) (bytes : List ℕ) → front_bytes (suc n) bytes ≡ get_or bytes 0 0 * 2 ^ (8 * n) + front_bytes n (drop 1 bytes)
unfolding front_bytes
front_bytes-first n [] = let e = front_bytes-nil n in omega arith
front_bytes-first n (b ∷ bytes) = refl

-- a byte more doubles eight times
wider : (n : ℕ) → 2 ^ (8 * (n + 1)) ≡ 256 * 2 ^ (8 * n)
wider n = ap (λ k. 2 ^ k) (omega arith) ∙ pow-add 2 8 (8 * n)

pub front_bytes-below : (n : ℕ) (bytes : List ℕ) → ((i : ℕ) → Fits w8 (get_or bytes i 0)) → front_bytes n bytes < 2 ^ (8 * n)
unfolding front_bytes
front_bytes-below zero bytes h = omega arith
front_bytes-below (suc n) [] h = pow_pos (8 * suc n)
front_bytes-below (suc n) (b ∷ bytes) h =
    let there = front_bytes-below n bytes (λ i. h (suc i)) in
    let e : 2 ^ (8 * suc n) ≡ 256 * 2 ^ (8 * n) = ap (λ k. 2 ^ k) (omega arith) ∙ pow-add 2 8 (8 * n) in
    let low : b < 256 = omega (arith, h 0) in
    let below : b ≤ 255 = omega arith in
    let most = mul-le-mul_right (2 ^ (8 * n)) below in
    omega arith

-- the loop over six bytes
pub six_small : (i number byte : ℕ) → number < 2 ^ (8 * i) → byte < 256 → 256 * number + byte < 2 ^ (8 * (i + 1))
six_small i number byte h low = let e = wider i in omega arith

pub six_fits : (i number byte : ℕ) → i < 6 → number < 2 ^ (8 * i) → byte < 256 → 256 * number + byte < 2 ^ 64
six_fits i number byte within h low =
    let sum : 64 ≡ 8 * (i + 1) + (64 - 8 * (i + 1)) = omega arith in
    let e : 2 ^ 64 ≡ 2 ^ (8 * (i + 1)) * 2 ^ (64 - 8 * (i + 1)) = ap (λ k. 2 ^ k) sum ∙ pow-add 2 (8 * (i + 1)) (64 - 8 * (i + 1)) in
    let some = pow_pos (64 - 8 * (i + 1)) in
    let small = six_small i number byte h low in
    let wide = mul-le-mul_left (2 ^ (8 * (i + 1))) some in
    omega arith

pub six_step : (i number whole : ℕ) (rest : List ℕ) → i < 6 → number * 2 ^ (8 * (6 - i)) + front_bytes (6 - i) rest ≡ whole
    → (256 * number + get_or rest 0 0) * 2 ^ (8 * (6 - (i + 1))) + front_bytes (6 - (i + 1)) (drop 1 rest) ≡ whole
six_step i number whole rest within h =
    let m : ℕ = 5 - i in
    let now : 6 - i ≡ suc m = omega arith in
    let next : 6 - (i + 1) ≡ m = omega arith in
    let was = rw now at h in
    let first = front_bytes-first m rest in
    let wide : 2 ^ (8 * suc m) ≡ 256 * 2 ^ (8 * m) = ap (λ k. 2 ^ (8 * k)) (omega arith) ∙ wider m in
    let grows = ap (λ p. number * p) wide in
    rw next (omega arith)

pub six_of_eight : (bytes : List ℕ) (n : ℕ) → 8 ≤ length bytes → ((i : ℕ) → Fits w8 (get_or bytes i 0))
    → n ≡ get_or (take 8 bytes) 0 0 * 72057594037927936 + get_or (take 8 bytes) 1 0 * 281474976710656 + get_or (take 8 bytes) 2 0 * 1099511627776 + get_or (take 8 bytes) 3 0 * 4294967296 + get_or (take 8 bytes) 4 0 * 16777216 + get_or (take 8 bytes) 5 0 * 65536 + get_or (take 8 bytes) 6 0 * 256 + get_or (take 8 bytes) 7 0
    → n / 65536 ≡ front_bytes 6 bytes
unfolding front_bytes
six_of_eight (a ∷ b ∷ c ∷ d ∷ e ∷ f ∷ g ∷ h ∷ rest) n long bytes is =
    let low : g < 256 = omega (arith, bytes 6) in
    let last : h < 256 = omega (arith, bytes 7) in
    omega arith
six_of_eight bytes n long all is = absurd (omega arith)

-- ---- the bits of the first bytes

same_eight : (a b c d e f g h p q r s t u v w : ℕ) → a ≡ p → b ≡ q → c ≡ r → d ≡ s → e ≡ t → f ≡ u → g ≡ v → h ≡ w
    → ◌≡◌ {A = List ℕ} (a ∷ b ∷ c ∷ d ∷ e ∷ f ∷ g ∷ h ∷ []) (p ∷ q ∷ r ∷ s ∷ t ∷ u ∷ v ∷ w ∷ [])
same_eight a b c d e f g h p q r s t u v w h1 h2 h3 h4 h5 h6 h7 h8 = cc

spelled-byte : (b : ℕ) → b < 256 → spelled 8 b ≡ bits_of_byte b
unfolding spelled
spelled-byte b low =
    same_eight _ _ _ _ _ _ _ _ _ _ _ _ _ _ _ _ (omega arith) (omega arith) (omega arith) (omega arith) (omega arith) (omega arith) (omega arith) (omega arith)

spelled-zeros : (n : ℕ) → trimmed (spelled n 0 ++ []) ≡ []
unfolding spelled trimmed
spelled-zeros zero = refl
spelled-zeros (suc n) = rw (zero-div (2 ^ n), zero-mod (2 ^ n), spelled-zeros n) refl

supply : (n : ℕ) (bytes : List ℕ) → ((i : ℕ) → Fits w8 (get_or bytes i 0))
    → trimmed (spelled (8 * n) (front_bytes n bytes) ++ bits_of (drop n bytes)) ≡ trimmed (bits_of bytes)
unfolding front_bytes bits_of spelled trimmed
supply zero bytes h = refl
supply (suc n) [] h = spelled-zeros (8 * suc n)
supply (suc n) (b ∷ bytes) h =
    let e : 8 * suc n ≡ 8 + 8 * n = omega arith in
    let low : b < 256 = omega (arith, h 0) in
    let small = front_bytes-below n bytes (λ i. h (suc i)) in
    rw e (
    ap (λ ds. trimmed (ds ++ bits_of (drop n bytes))) (spelled-append 8 (8 * n) b (front_bytes n bytes) low small ∙ ap (λ ds. ds ++ spelled (8 * n) (front_bytes n bytes)) (spelled-byte b low))
    ∙ trimmed-append (bits_of_byte b) (spelled (8 * n) (front_bytes n bytes) ++ bits_of (drop n bytes)) (bits_of bytes) (supply n bytes (λ i. h (suc i))))

-- ---- a window of c bits, 16 - m of them, and six more bytes

window_split : (window m : ℕ) → window % 2 ^ (48 + m) ≡ 0 → window ≡ window / 2 ^ (48 + m) * 2 ^ 48 * 2 ^ m
window_split window m clean =
    let whole = shr_split window (48 + m) in
    let apart = ap (λ p. window / 2 ^ (48 + m) * p) (pow-add 2 48 m) in
    omega arith

-- with the six bytes it is one number, and zeros
filled_is : (window m six : ℕ) → window % 2 ^ (48 + m) ≡ 0 → window + six * 2 ^ m ≡ (window / 2 ^ (48 + m) * 2 ^ 48 + six) * 2 ^ m
filled_is window m six clean = let e = window_split window m clean in omega arith

pub filled_clean : (window m six : ℕ) → window % 2 ^ (48 + m) ≡ 0 → (window + six * 2 ^ m) % 2 ^ m ≡ 0
filled_clean window m six clean =
    ap (λ n. n % 2 ^ m) (filled_is window m six clean) ∙ mul-mod_left (window / 2 ^ (48 + m) * 2 ^ 48 + six) (2 ^ m)

filled_top : (window m six : ℕ) → six < 2 ^ 48 → window % 2 ^ (48 + m) ≡ 0 → (window + six * 2 ^ m) / 2 ^ (48 + m) ≡ window / 2 ^ (48 + m)
filled_top window m six small clean =
    ap (λ n. n / 2 ^ (48 + m)) (filled_is window m six clean)
    ∙ ap (λ k. (window / 2 ^ (48 + m) * 2 ^ 48 + six) * 2 ^ m / 2 ^ k) (omega arith)
    ∙ sym (shr-shr ((window / 2 ^ (48 + m) * 2 ^ 48 + six) * 2 ^ m) m 48)
    ∙ ap (λ n. n / 2 ^ 48) (shl-shr (window / 2 ^ (48 + m) * 2 ^ 48 + six) m)
    ∙ shr_high (window / 2 ^ (48 + m)) 48 six small

-- what lies above the bits that came in stays
pub filled_top_byte : (window m six k : ℕ) → six < 2 ^ 48 → window % 2 ^ (48 + m) ≡ 0 → 48 + m ≤ k
    → (window + six * 2 ^ m) / 2 ^ k ≡ window / 2 ^ k
filled_top_byte window m six k small clean h =
    let e : k ≡ 48 + m + (k - (48 + m)) = omega arith in
    let upper = λ (n : ℕ). ap (λ j. n / 2 ^ j) e ∙ sym (shr-shr n (48 + m) (k - (48 + m))) in
    upper (window + six * 2 ^ m) ∙ ap (λ n. n / 2 ^ (k - (48 + m))) (filled_top window m six small clean) ∙ sym (upper window)

pub filled_fits : (window m six c : ℕ) → c + (48 + m) ≡ 64 → window < 2 ^ 64 → six < 2 ^ 48 → window % 2 ^ (48 + m) ≡ 0
    → window + six * 2 ^ m < 2 ^ 64
filled_fits window m six c sum fits small clean =
    let whole = shr_split window (48 + m) in
    let apart : 2 ^ 64 ≡ 2 ^ c * 2 ^ (48 + m) = ap (λ k. 2 ^ k) (sym sum) ∙ pow-add 2 c (48 + m) in
    let below : window / 2 ^ (48 + m) < 2 ^ c = shr_below window c (48 + m) (let e : window < 2 ^ 64 = fits in rw sum e) in
    let full = mul-le-mul_right (2 ^ (48 + m)) below in
    let part : six * 2 ^ m < 2 ^ (48 + m) = shl_below six 48 m small in
    omega arith

pub filled_ahead : (window m c : ℕ) (bytes : List ℕ) → c + (48 + m) ≡ 64 → window < 2 ^ 64 → window % 2 ^ (48 + m) ≡ 0
    → ((i : ℕ) → Fits w8 (get_or bytes i 0))
    → trimmed (bits_ahead (window + front_bytes 6 bytes * 2 ^ m) (c + 48) (drop 6 bytes)) ≡ trimmed (bits_ahead window c bytes)
filled_ahead window m c bytes sum fits clean h =
    let six = front_bytes 6 bytes in
    let t = window / 2 ^ (48 + m) in
    let small : six < 2 ^ 48 = front_bytes-below 6 bytes h in
    let below : t < 2 ^ c = shr_below window c (48 + m) (let e : window < 2 ^ 64 = fits in rw sum e) in
    let longer : 64 ≡ c + 48 + m = omega arith in
    let full : (window + six * 2 ^ m) / 2 ^ m ≡ t * 2 ^ 48 + six = ap (λ n. n / 2 ^ m) (filled_is window m six clean) ∙ shl-shr (t * 2 ^ 48 + six) m in
    let new : take (c + 48) (spelled 64 (window + six * 2 ^ m)) ≡ spelled c t ++ spelled 48 six =
    ap (λ k. take (c + 48) (spelled k (window + six * 2 ^ m))) longer
    ∙ take-spelled (c + 48) m (window + six * 2 ^ m)
    ∙ ap (λ n. spelled (c + 48) n) full
    ∙ spelled-append c 48 t six below small in
    let old : take c (spelled 64 window) ≡ spelled c t = ap (λ k. take c (spelled k window)) (sym sum) ∙ take-spelled c (48 + m) window in
    ap (λ ds. trimmed (ds ++ bits_of (drop 6 bytes))) new
    ∙ ap trimmed (append_assoc (spelled c t) (spelled 48 six) (bits_of (drop 6 bytes)))
    ∙ trimmed-append (spelled c t) (spelled 48 six ++ bits_of (drop 6 bytes)) (bits_of bytes) (supply 6 bytes h)
    ∙ ap (λ ds. trimmed (ds ++ bits_of bytes)) (sym old)
