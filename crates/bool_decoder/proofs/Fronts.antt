-- Fronts of bits as numbers, and bits without their last zeros.
use Rattle.std.proofs.Common.{◌≡◌, ℕ, zero, suc, ◌+◌, ◌*◌, ◌/◌, ◌%◌, ◌^◌, ◌<◌, List, [], ◌∷◌, ◌++◌, refl, ap, sym, ◌∙◌, arith, take, drop}
use Rattle.std.proofs.lemmas.Nat.{pow_pos, pow-add, shr_split, shr-shr, field_of, shr_high, mod_low, mod-pow-add}
use Rattle.std.proofs.Math.Pow.{mod-mod-pow}
use Rattle.std.proofs.Math.Nat.{mod-lt, mod-eq_of_lt, div-eq_of_lt}
use Rattle.std.proofs.Math.Seq.{drop-nil}
use Rattle.vp9_types.specs.Bits.{spelled}
use Rattle.bool_decoder.specs.Coder.{front_number}
use Rattle.bool_decoder.specs.Window.{trimmed, trimmed_cons}

-- ---- the number of a front

pub front-nil : (n : ℕ) → front_number n [] ≡ 0
unfolding front_number
front-nil zero = refl
front-nil (suc n) = refl

-- a longer front is the front before it, and the bits after that
pub front-add : (a b : ℕ) (bits : List ℕ) → front_number (a + b) bits ≡ front_number a bits * 2 ^ b + front_number b (drop a bits)
unfolding front_number
front-add zero b bits = let e : 0 + b ≡ b = omega arith in rw e (omega arith)
front-add (suc a) b [] = rw (front-nil (suc a + b), front-nil b) (omega arith)
front-add (suc a) b (x ∷ bits) =
    let e : suc a + b ≡ suc (a + b) = omega arith in
    let there = front-add a b bits in
    let wide = ap (λ p. x * p) (pow-add 2 a b) in
    rw e (omega (arith, there, wide))

-- ---- the bits that spell a number

pub front-spelled : (k j x : ℕ) (xs : List ℕ) → x < 2 ^ (k + j) → front_number k (spelled (k + j) x ++ xs) ≡ x / 2 ^ j
unfolding front_number spelled
front-spelled zero j x xs h =
    let e : 0 + j ≡ j = omega arith in
    let low : x < 2 ^ j = rw (sym e) h in
    sym (div-eq_of_lt low)
front-spelled (suc k) j x xs h =
    let e : suc k + j ≡ suc (k + j) = omega arith in
    let there = front-spelled k j (x % 2 ^ (k + j)) xs (mod-lt x (pow_pos (k + j))) in
    let field = field_of x k j in
    let high : x / 2 ^ j / 2 ^ k ≡ x / 2 ^ (k + j) = shr-shr x j k ∙ ap (λ n. x / 2 ^ n) (omega arith) in
    let first = ap (λ n. n * 2 ^ k) high in
    let whole = shr_split (x / 2 ^ j) k in
    rw e (omega (arith, there, field, first, whole))

pub drop-spelled : (k j x : ℕ) (xs : List ℕ) → x < 2 ^ (k + j) → drop k (spelled (k + j) x ++ xs) ≡ spelled j (x % 2 ^ j) ++ xs
unfolding spelled
drop-spelled zero j x xs h =
    let e : 0 + j ≡ j = omega arith in
    let low : x < 2 ^ j = rw (sym e) h in
    rw (e, mod-eq_of_lt low)
drop-spelled (suc k) j x xs h =
    let e : suc k + j ≡ suc (k + j) = omega arith in
    let there = drop-spelled k j (x % 2 ^ (k + j)) xs (mod-lt x (pow_pos (k + j))) in
    rw e (there ∙ ap (λ n. spelled j n ++ xs) (mod-mod-pow x k j))

pub take-spelled : (a b x : ℕ) → take a (spelled (a + b) x) ≡ spelled a (x / 2 ^ b)
unfolding spelled
take-spelled zero b x = refl
take-spelled (suc a) b x =
    let e : suc a + b ≡ suc (a + b) = omega arith in
    let high : x / 2 ^ (a + b) ≡ x / 2 ^ b / 2 ^ a = sym (shr-shr x b a ∙ ap (λ n. x / 2 ^ n) (omega arith)) in
    rw e (ap (λ d. d ∷ take a (spelled (a + b) (x % 2 ^ (a + b)))) high
    ∙ ap (λ ds. x / 2 ^ b / 2 ^ a ∷ ds) (take-spelled a b (x % 2 ^ (a + b)) ∙ ap (λ n. spelled a n) (field_of x a b)))

-- two numbers side by side are spelled one after the other
pub spelled-append : (a b x y : ℕ) → x < 2 ^ a → y < 2 ^ b → spelled (a + b) (x * 2 ^ b + y) ≡ spelled a x ++ spelled b y
unfolding spelled
spelled-append zero b x y h low =
    let e : 0 + b ≡ b = omega arith in
    let none : x ≡ 0 = omega arith in
    rw (e, none) (ap (λ n. spelled b n) (omega arith))
spelled-append (suc a) b x y h low =
    let e : suc a + b ≡ suc (a + b) = omega arith in
    let first : (x * 2 ^ b + y) / 2 ^ (a + b) ≡ x / 2 ^ a =
    ap (λ n. (x * 2 ^ b + y) / 2 ^ n) (omega arith) ∙ sym (shr-shr (x * 2 ^ b + y) b a) ∙ ap (λ n. n / 2 ^ a) (shr_high x b y low) in
    let others : (x * 2 ^ b + y) % 2 ^ (a + b) ≡ x % 2 ^ a * 2 ^ b + y =
    mod-pow-add (x * 2 ^ b + y) a b
    ∙ ap (λ n. n % 2 ^ a * 2 ^ b + (x * 2 ^ b + y) % 2 ^ b) (shr_high x b y low)
    ∙ ap (λ n. x % 2 ^ a * 2 ^ b + n) (mod_low x b y low) in
    rw e (ap (λ d. d ∷ spelled (a + b) ((x * 2 ^ b + y) % 2 ^ (a + b))) first
    ∙ ap (λ n. x / 2 ^ a ∷ spelled (a + b) n) others
    ∙ ap (λ ds. x / 2 ^ a ∷ ds) (spelled-append a b (x % 2 ^ a) y (mod-lt x (pow_pos a)) low))

-- ---- bits without their last zeros

front-cons : (n b : ℕ) (bits : List ℕ) → front_number (suc n) (trimmed_cons b bits) ≡ b * 2 ^ n + front_number n bits
unfolding front_number
front-cons n zero [] = rw (front-nil n) (omega arith)
front-cons n zero (x ∷ bits) = refl
front-cons n (suc b) bits = refl

pub front-trimmed : (n : ℕ) (bits : List ℕ) → front_number n (trimmed bits) ≡ front_number n bits
unfolding front_number trimmed
front-trimmed zero bits = refl
front-trimmed (suc n) [] = refl
front-trimmed (suc n) (b ∷ bits) = front-cons n b (trimmed bits) ∙ ap (λ m. b * 2 ^ n + m) (front-trimmed n bits)

drop-cons : (n b : ℕ) (bits : List ℕ) → drop (suc n) (trimmed_cons b bits) ≡ drop n bits
drop-cons n zero [] = sym (drop-nil n)
drop-cons n zero (x ∷ bits) = refl
drop-cons n (suc b) bits = refl

pub drop-trimmed : (n : ℕ) (bits : List ℕ) → drop n (trimmed bits) ≡ trimmed (drop n bits)
unfolding trimmed
drop-trimmed zero bits = refl
drop-trimmed (suc n) [] = refl
drop-trimmed (suc n) (b ∷ bits) = drop-cons n b (trimmed bits) ∙ drop-trimmed n bits

pub trimmed-append : (xs ys zs : List ℕ) → trimmed ys ≡ trimmed zs → trimmed (xs ++ ys) ≡ trimmed (xs ++ zs)
unfolding trimmed
trimmed-append [] ys zs h = h
trimmed-append (x ∷ xs) ys zs h = ap (λ bits. trimmed_cons x bits) (trimmed-append xs ys zs h)
