-- A bool that is put, in the encoder's numbers.
use Rattle.std.proofs.Common.{◌≡◌, ℕ, ◌+◌, ◌-◌, ◌*◌, ◌%◌, ◌^◌, ◌<◌, ◌≤◌, refl, ap, ◌∙◌, arith}
use Rattle.std.proofs.Math.Nat.{mul-le-mul_right, mod-eq_of_lt}
use Rattle.std.proofs.lemmas.Nat.{pow-add, shl_below, shl_whole}
use Rattle.bool_encoder.specs.Part.{NumberPart, doubled_part}

abbrev part_by : ℕ → ℕ → ℕ → NumberPart
part_by n low range = record { n = n; low = low; range = range }

pub same_part : (n m low l range r : ℕ) → n ≡ m → low ≡ l → range ≡ r → part_by n low range ≡ part_by m l r
same_part n m low l range r is_n is_low is_range =
    ap (λ x. part_by x low range) is_n ∙ ap (λ x. part_by m x range) is_low ∙ ap (λ x. part_by m l x) is_range

-- the numbers before a bool, after the bytes took what the held bits had too many, and after the bool's offset was added
pub record Adds (before low held size number rest kept count offset : ℕ) : Type 0 where
  pub sum : number * 2 ^ kept + rest ≡ before * 2 ^ held + low + offset
  pub length : 8 * count + kept ≡ 8 * size + held
  pub small : rest < 2 ^ kept
  pub least : 8 ≤ kept
  pub most : kept ≤ 15

pub low_whole : (rest kept k : ℕ) → rest < 2 ^ kept → kept ≤ 15 → k ≤ 7 → rest * 2 ^ k % 4294967296 ≡ rest * 2 ^ k
low_whole rest kept k small most few = shl_whole rest kept k 32 small (omega arith)

pub range_whole : (range k : ℕ) → range * 2 ^ k ≤ 255 → range * 2 ^ k % 4294967296 ≡ range * 2 ^ k
range_whole range k narrow = mod-eq_of_lt (let e : range * 2 ^ k < 4294967296 = omega arith in e)

shifted : (number rest kept k : ℕ) → number * 2 ^ (kept + k) + rest * 2 ^ k ≡ (number * 2 ^ kept + rest) * 2 ^ k
shifted number rest kept k = let e = ap (λ p. number * p) (pow-add 2 kept k) in omega (arith, e)

pub put_below : (rest kept k : ℕ) → rest < 2 ^ kept → rest * 2 ^ k < 2 ^ (kept + k)
put_below rest kept k small = shl_below rest kept k small

pub put_within : (before low held size number rest kept count offset range narrow k : ℕ) → Adds before low held size number rest kept count offset
    → offset + narrow ≤ range → before * 2 ^ held + low + range ≤ 2 ^ (8 * size + held)
    → number * 2 ^ (kept + k) + rest * 2 ^ k + narrow * 2 ^ k ≤ 2 ^ (8 * count + (kept + k))
put_within before low held size number rest kept count offset range narrow k adds part within =
    let long : 2 ^ (8 * count + (kept + k)) ≡ 2 ^ (8 * size + held) * 2 ^ k =
    ap (λ n. 2 ^ n) (let e : 8 * count + (kept + k) ≡ 8 * size + held + k = omega (arith, adds.length) in e) ∙ pow-add 2 (8 * size + held) k in
    let sum : number * 2 ^ kept + rest + narrow ≤ 2 ^ (8 * size + held) = omega (arith, adds.sum) in
    let more = mul-le-mul_right (2 ^ k) sum in
    let e = shifted number rest kept k in
    omega (arith, long, more, e)

pub put_is : (before low held size number rest kept count offset narrow k : ℕ) → Adds before low held size number rest kept count offset
    → 8 ≤ held
    → part_by (8 * count + (kept + k - 8)) (number * 2 ^ (kept + k) + rest * 2 ^ k) (narrow * 2 ^ k)
    ≡ doubled_part (8 * size + (held - 8)) (before * 2 ^ held + low + offset) narrow k
put_is before low held size number rest kept count offset narrow k adds least =
    same_part _ _ _ _ _ _
    (omega (arith, adds.length, adds.least))
    (shifted number rest kept k ∙ ap (λ n. n * 2 ^ k) adds.sum)
    refl
