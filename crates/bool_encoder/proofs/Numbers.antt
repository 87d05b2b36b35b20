-- The number of bytes.
use Rattle.std.proofs.Common.{◌≡◌, ℕ, zero, suc, ◌+◌, ◌-◌, ◌*◌, ◌/◌, ◌%◌, ◌^◌, ◌<◌, ◌≤◌, List, [], ◌∷◌, ◌++◌, length, get_or, refl, ap, sym, ◌∙◌, arith, take, drop, length-append}
use Rattle.std.specs.Int.{w32, to_be_bytes}
use Rattle.std.proofs.Math.ListN.{set, length-set}
use Rattle.std.proofs.Math.Nat.{mul-le-mul_right, mul_assoc, lt_of_mul-lt-mul_right, mod-eq_of_lt}
use Rattle.std.proofs.lemmas.Nat.{pow_pos, pow-add, shr_split, shr_high, one_shl, shl_below, shl-shr, from_be_bytes-to_be_bytes_4}
use Rattle.std.proofs.lemmas.List.{take-append-drop, length-take-le, length-drop, get_or-drop}
use Rattle.vp9_types.specs.Bits.{bits_of, bits_of_byte, spelled}
use Rattle.bool_decoder.proofs.Fronts.{spelled-append}
use Rattle.vp9_types.proofs.Spells.{length-spelled}
use Rattle.bool_encoder.specs.Code.{be_number}
use Rattle.bool_encoder.specs.Part.{NumberPart, Finishes}

-- bytes behind others
pub be-append : (xs ys : List ℕ) → be_number (xs ++ ys) ≡ be_number xs * 2 ^ (8 * length ys) + be_number ys
unfolding be_number
be-append [] ys = omega arith
be-append (x ∷ xs) ys =
    let there = be-append xs ys in
    let long = length-append xs ys in
    let e : 8 * length (xs ++ ys) ≡ 8 * length xs + 8 * length ys = omega arith in
    let wide : x * 2 ^ (8 * length (xs ++ ys)) ≡ x * (2 ^ (8 * length xs) * 2 ^ (8 * length ys)) =
    ap (λ k. x * 2 ^ k) e ∙ ap (λ m. x * m) (pow-add 2 (8 * length xs) (8 * length ys)) in
    omega (arith, there, wide)

-- a byte that changes changes the number by its place
pub be-set : (bytes : List ℕ) (i v : ℕ) → i < length bytes
    → be_number (set bytes i v) + get_or bytes i 0 * 2 ^ (8 * (length bytes - (i + 1))) ≡ be_number bytes + v * 2 ^ (8 * (length bytes - (i + 1)))
unfolding be_number
be-set [] i v h = absurd (omega arith)
be-set (b ∷ bytes) zero v h =
    let e : 8 * (suc (length bytes) - 1) ≡ 8 * length bytes = omega arith in
    rw e (omega arith)
be-set (b ∷ bytes) (suc i) v h =
    let there = be-set bytes i v (omega arith) in
    let long = length-set bytes i v in
    let e : 8 * (suc (length bytes) - (suc i + 1)) ≡ 8 * (length bytes - (i + 1)) = omega arith in
    let same : b * 2 ^ (8 * length (set bytes i v)) ≡ b * 2 ^ (8 * length bytes) = ap (λ n. b * 2 ^ (8 * n)) long in
    rw e (omega (arith, there, same))

-- ---- adding one: bytes of 255 at the end become 0

one_place : (size at : ℕ) → 0 < at → at ≤ size → 2 ^ (8 * (size - (at - 1))) ≡ 256 * 2 ^ (8 * (size - at))
one_place size at some within =
    let e : 8 * (size - (at - 1)) ≡ 8 + 8 * (size - at) = omega arith in
    ap (λ k. 2 ^ k) e ∙ pow-add 2 8 (8 * (size - at))

here : (size at : ℕ) → 0 < at → 8 * (size - (at - 1 + 1)) ≡ 8 * (size - at)
here size at some = omega arith

pub carry_goes : (bytes : List ℕ) (at sum : ℕ) → 0 < at → at ≤ length bytes → get_or bytes (at - 1) 0 ≡ 255
    → be_number bytes + 2 ^ (8 * (length bytes - at)) ≡ sum
    → be_number (set bytes (at - 1) 0) + 2 ^ (8 * (length (set bytes (at - 1) 0) - (at - 1))) ≡ sum
carry_goes bytes at sum some within full is =
    let changed = rw (here (length bytes) at some, full) at (be-set bytes (at - 1) 0 (omega arith)) in
    let place = one_place (length bytes) at some within in
    let long : 2 ^ (8 * (length (set bytes (at - 1) 0) - (at - 1))) ≡ 2 ^ (8 * (length bytes - (at - 1))) =
    ap (λ n. 2 ^ (8 * (n - (at - 1)))) (length-set bytes (at - 1) 0) in
    omega (arith, changed, place, long)

pub carry_ends : (bytes : List ℕ) (at sum : ℕ) → 0 < at → at ≤ length bytes
    → be_number bytes + 2 ^ (8 * (length bytes - at)) ≡ sum
    → be_number (set bytes (at - 1) (get_or bytes (at - 1) 0 + 1)) ≡ sum
carry_ends bytes at sum some within is =
    let b = get_or bytes (at - 1) 0 in
    let changed : be_number (set bytes (at - 1) (b + 1)) + b * 2 ^ (8 * (length bytes - at)) ≡ be_number bytes + (b + 1) * 2 ^ (8 * (length bytes - at)) =
    rw (here (length bytes) at some) at (be-set bytes (at - 1) (b + 1) (omega arith)) in
    omega (arith, changed)

-- ---- a byte of the held bits

be-one : (b : ℕ) → be_number (b ∷ []) ≡ b
unfolding be_number
be-one b = omega arith

pub spilled_number : (bytes : List ℕ) (low held : ℕ) → 8 ≤ held
    → be_number (bytes ++ low / 2 ^ (held - 8) ∷ []) * 2 ^ (held - 8) + low % 2 ^ (held - 8) ≡ be_number bytes * 2 ^ held + low
spilled_number bytes low held least =
    let e : held ≡ 8 + (held - 8) = omega arith in
    let more : be_number (bytes ++ low / 2 ^ (held - 8) ∷ []) ≡ be_number bytes * 256 + low / 2 ^ (held - 8) =
    be-append bytes (low / 2 ^ (held - 8) ∷ []) ∙ ap (λ n. be_number bytes * 256 + n) (be-one (low / 2 ^ (held - 8))) in
    let first = ap (λ n. n * 2 ^ (held - 8)) more in
    let wide = ap (λ p. be_number bytes * p) (ap (λ k. 2 ^ k) e ∙ pow-add 2 8 (held - 8)) in
    let whole = shr_split low (held - 8) in
    omega (arith, first, wide, whole)

pub one_shifted : (k : ℕ) → k < 32 → 1 * 2 ^ k % 4294967296 ≡ 2 ^ k
one_shifted k h = one_shl k 32 h

-- what is added leaves the held bits only where one can be carried
pub carry_fits : (number low split held k : ℕ) → number * 2 ^ held + low + split < 2 ^ (k + held) → 2 ^ held ≤ low + split → number + 1 < 2 ^ k
carry_fits number low split held k fits over =
    let apart = pow-add 2 k held in
    let more : (number + 1) * 2 ^ held < 2 ^ k * 2 ^ held = omega (arith, apart) in
    lt_of_mul-lt-mul_right (2 ^ held) more

-- ---- bytes as bits

same_eight : (a b c d e f g h p q r s t u v w : ℕ) → a ≡ p → b ≡ q → c ≡ r → d ≡ s → e ≡ t → f ≡ u → g ≡ v → h ≡ w
    → ◌≡◌ {A = List ℕ} (a ∷ b ∷ c ∷ d ∷ e ∷ f ∷ g ∷ h ∷ []) (p ∷ q ∷ r ∷ s ∷ t ∷ u ∷ v ∷ w ∷ [])
same_eight a b c d e f g h p q r s t u v w h1 h2 h3 h4 h5 h6 h7 h8 = cc

spelled-byte : (b : ℕ) → b < 256 → spelled 8 b ≡ bits_of_byte b
unfolding spelled
spelled-byte b low =
    same_eight _ _ _ _ _ _ _ _ _ _ _ _ _ _ _ _ (omega arith) (omega arith) (omega arith) (omega arith) (omega arith) (omega arith) (omega arith) (omega arith)

pub be-below : (bytes : List ℕ) → ((i : ℕ) → get_or bytes i 0 < 256) → be_number bytes < 2 ^ (8 * length bytes)
unfolding be_number
be-below [] h = pow_pos 0
be-below (b ∷ bytes) h =
    let there = be-below bytes (λ i. h (suc i)) in
    let low : b ≤ 255 = omega (arith, h 0) in
    let first = mul-le-mul_right (2 ^ (8 * length bytes)) low in
    let e : 8 * suc (length bytes) ≡ 8 + 8 * length bytes = omega arith in
    let wide = pow-add 2 8 (8 * length bytes) in
    rw e (omega (arith, there, first, wide))

pub bytes_spelled : (bytes : List ℕ) → ((i : ℕ) → get_or bytes i 0 < 256) → bits_of bytes ≡ spelled (8 * length bytes) (be_number bytes)
unfolding be_number bits_of spelled
bytes_spelled [] h = refl
bytes_spelled (b ∷ bytes) h =
    let e : 8 * suc (length bytes) ≡ 8 + 8 * length bytes = omega arith in
    let low : b < 256 = h 0 in
    rw e (ap (λ ds. bits_of_byte b ++ ds) (bytes_spelled bytes (λ i. h (suc i)))
    ∙ sym (spelled-append 8 (8 * length bytes) b (be_number bytes) low (be-below bytes (λ i. h (suc i)))
    ∙ ap (λ ds. ds ++ spelled (8 * length bytes) (be_number bytes)) (spelled-byte b low)))

-- ---- the last bytes

pub be-words : (x : ℕ) → x < 2 ^ 32 → be_number (to_be_bytes w32 x) ≡ x
unfolding be_number
be-words x h = let e = from_be_bytes-to_be_bytes_4 x h in omega (arith, e)

-- the first m bytes of a number's four
front_word : (last : List ℕ) (x m : ℕ) → length last ≡ 4 → ((i : ℕ) → get_or last i 0 < 256) → be_number last ≡ x → m ≤ 4
    → be_number (take m last) ≡ x / 2 ^ (8 * (4 - m))
front_word last x m long small is few =
    let parts = ap be_number (sym (take-append-drop m last)) ∙ be-append (take m last) (drop m last) in
    let rest : length (drop m last) ≡ 4 - m = length-drop m last ∙ ap (λ n. n - m) long in
    let low : be_number (drop m last) < 2 ^ (8 * (4 - m)) = rw rest at (be-below (drop m last) (λ i. rw get_or-drop (small (m + i)))) in
    let whole : x ≡ be_number (take m last) * 2 ^ (8 * (4 - m)) + be_number (drop m last) = sym is ∙ (rw rest at parts) in
    sym (ap (λ n. n / 2 ^ (8 * (4 - m))) whole ∙ shr_high (be_number (take m last)) (8 * (4 - m)) (be_number (drop m last)) low)

pub finished : (bytes last : List ℕ) (low held m : ℕ) → ((i : ℕ) → get_or (bytes ++ take m last) i 0 < 256) → ((i : ℕ) → get_or last i 0 < 256)
    → length last ≡ 4 → be_number last ≡ low * 2 ^ (32 - held) → m ≤ 4 → held ≤ 8 * m
    → low < 2 ^ held → be_number bytes * 2 ^ held + low < 2 ^ (8 * length bytes + held)
    → bits_of (bytes ++ take m last) ≡ spelled (8 * length bytes + held) (be_number bytes * 2 ^ held + low) ++ spelled (8 * m - held) 0
finished bytes last low held m all small long is few room fits within =
    let k = 8 * m - held in
    let number = be_number bytes * 2 ^ held + low in
    let e : 32 - held ≡ k + 8 * (4 - m) = omega arith in
    let back : low * 2 ^ (32 - held) / 2 ^ (8 * (4 - m)) ≡ low * 2 ^ k =
    ap (λ n. n / 2 ^ (8 * (4 - m))) (ap (λ j. low * 2 ^ j) e ∙ ap (λ p. low * p) (pow-add 2 k (8 * (4 - m))) ∙ sym (mul_assoc low (2 ^ k) (2 ^ (8 * (4 - m)))))
    ∙ shl-shr (low * 2 ^ k) (8 * (4 - m)) in
    let front : be_number (take m last) ≡ low * 2 ^ k = front_word last (low * 2 ^ (32 - held)) m long small is few ∙ back in
    let some : m ≤ length last = omega arith in
    let size : length (take m last) ≡ m = length-take-le m last some in
    let whole : be_number (bytes ++ take m last) ≡ number * 2 ^ k + 0 =
    be-append bytes (take m last)
    ∙ ap (λ n. be_number bytes * 2 ^ (8 * n) + be_number (take m last)) size
    ∙ ap (λ n. be_number bytes * 2 ^ (8 * m) + n) front
    ∙ widened (be_number bytes) low held k (8 * m) (omega arith) in
    let count : 8 * length (bytes ++ take m last) ≡ 8 * length bytes + held + k = omega (arith, length-append bytes (take m last), size) in
    bytes_spelled (bytes ++ take m last) all
    ∙ ap (λ n. spelled n (be_number (bytes ++ take m last))) count
    ∙ ap (λ n. spelled (8 * length bytes + held + k) n) whole
    ∙ spelled-append (8 * length bytes + held) k number 0 within (pow_pos k)
  where
    widened : (b low held k j : ℕ) → j ≡ held + k → b * 2 ^ j + low * 2 ^ k ≡ (b * 2 ^ held + low) * 2 ^ k + 0
    widened b low held k j is = let wide = ap (λ p. b * p) (ap (λ n. 2 ^ n) is ∙ pow-add 2 held k) in omega (arith, wide)

pub held_wide : (held : ℕ) → 8 ≤ held → 256 ≤ 2 ^ held
held_wide held least =
    let e : held ≡ 8 + (held - 8) = omega arith in
    let wide = ap (λ k. 2 ^ k) e ∙ pow-add 2 8 (held - 8) in
    let some = pow_pos (held - 8) in
    omega (arith, wide, some)

pub words_small : (x i : ℕ) → get_or (to_be_bytes w32 x) i 0 < 256
words_small x zero = omega arith
words_small x (suc zero) = omega arith
words_small x (suc (suc zero)) = omega arith
words_small x (suc (suc (suc zero))) = omega arith
words_small x (suc (suc (suc (suc i)))) = omega arith

pub all_small : (bytes : List ℕ) → ((i d : ℕ) → i < length bytes → get_or bytes i d < 256) → (i : ℕ) → get_or bytes i 0 < 256
all_small [] h i = omega arith
all_small (b ∷ bytes) h zero = h 0 0 (omega arith)
all_small (b ∷ bytes) h (suc i) = all_small bytes (λ j d low. h (suc j) d (omega arith)) i

pub closed : (bytes last : List ℕ) (low held : ℕ) → ((i : ℕ) → get_or (bytes ++ take ((held + 7) / 8) last) i 0 < 256)
    → last ≡ to_be_bytes w32 (low * 2 ^ (32 - held) % 4294967296) → low < 2 ^ held → 8 ≤ held → held ≤ 22
    → be_number bytes * 2 ^ held + low < 2 ^ (8 * length bytes + held)
    → bits_of (bytes ++ take ((held + 7) / 8) last) ≡ spelled (8 * length bytes + held) (be_number bytes * 2 ^ held + low) ++ spelled (8 * ((held + 7) / 8) - held) 0
closed bytes last low held all is fits least most within =
    let x = low * 2 ^ (32 - held) in
    let size : held + (32 - held) ≡ 32 = omega arith in
    let small : x < 2 ^ 32 = rw size at (shl_below low held (32 - held) fits) in
    let whole : x % 4294967296 ≡ x = mod-eq_of_lt small in
    let word : last ≡ to_be_bytes w32 x = is ∙ ap (λ n. to_be_bytes w32 n) whole in
    finished bytes last low held ((held + 7) / 8) all (λ i. rw word (words_small x i)) (ap length word) (ap be_number word ∙ be-words x small)
    (omega arith) (omega arith) fits within

-- ---- as many bytes as the bits take

length-bits_of : (bytes : List ℕ) → length (bits_of bytes) ≡ 8 * length bytes
unfolding bits_of
length-bits_of [] = refl
length-bits_of (b ∷ bytes) = let there = length-bits_of bytes in omega (arith, there)

pub finishes : (e : NumberPart) (bytes : List ℕ) (k : ℕ) → k < 8 → bits_of bytes ≡ spelled (8 + e.n) e.low ++ spelled k 0 → Finishes e bytes
finishes e bytes k few is =
    let long : 8 * length bytes ≡ 8 + e.n + k =
    sym (length-bits_of bytes) ∙ ap length is ∙ length-append (spelled (8 + e.n) e.low) (spelled k 0)
    ∙ ap (λ m. m + length (spelled k 0)) (length-spelled (8 + e.n) e.low) ∙ ap (λ m. 8 + e.n + m) (length-spelled k 0) in
    let left : k ≡ 8 * length bytes - (8 + e.n) = omega (arith, long) in
    record {
      size = omega (arith, long, few);
      bits = rw left at is;
    }
