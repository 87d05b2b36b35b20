-- Bits that spell a number of the part after a bool spell one of the part before it, and a decoder reads the bool from them.
use Rattle.std.proofs.Common.{◌≡◌, ℕ, zero, suc, ◌+◌, ◌-◌, ◌*◌, ◌^◌, ◌<◌, ◌≤◌, Bool, true, false, List, [], ◌∷◌, refl, ap, ◌∙◌, arith, drop}
use Rattle.std.specs.Prelude.{nat_eq, nat_le, if◌then◌else◌}
use Rattle.std.proofs.Math.Nat.{mul-le-mul_right, mul-le-mul_left, lt_of_mul-lt-mul_right}
use Rattle.std.proofs.lemmas.Nat.{pow_pos, pow-add}
use Rattle.std.proofs.lemmas.Bool.{le-leb, lt-leb}
use Rattle.vp9_types.specs.Bits.{AreBits}
use Rattle.vp9_types.proofs.Spells.{AreBits-drop}
use Rattle.bool_decoder.specs.Coder.{front_number, split_of, doublings, bool_of, after_bool}
use Rattle.bool_decoder.proofs.Fronts.{front-add}
use Rattle.bool_decoder.proofs.Doublings.{doublings-enough}
use Rattle.bool_encoder.specs.Part.{NumberPart, after_put, doubled_part}
use Rattle.bool_encoder.specs.Laws.{Lies, coder_at}

pub front-below : (n : ℕ) (bits : List ℕ) → AreBits bits → front_number n bits < 2 ^ n
unfolding front_number
front-below zero bits h = pow_pos 0
front-below (suc n) [] h = pow_pos (suc n)
front-below (suc n) (b ∷ bits) h =
    let there = front-below n bits h.1 in
    let low : b ≤ 1 = omega (arith, h.0) in
    let first = mul-le-mul_right (2 ^ n) low in
    let e : suc n ≡ 1 + n = omega arith in
    let wide = pow-add 2 1 n in
    rw e (omega (arith, there, first, wide))

-- ---- the split

pub split_some : (range p : ℕ) → 1 ≤ split_of range p
split_some range p = omega arith

pub split_within : (range p : ℕ) → 2 ≤ range → p < 256 → split_of range p < range
split_within range p wide low =
    let most : p ≤ 255 = omega arith in
    let part = mul-le-mul_left (range - 1) most in
    omega (arith, part)

pub put_wide : (p v : ℕ) (e : NumberPart) → 2 ≤ e.range → p < 256 → 2 ≤ (after_put p v e).range
unfolding after_put
put_wide p v e wide low = by_value (nat_eq v 1)
  where
    by_value : (one : Bool) → 2 ≤ (if one then doubled_part e.n (e.low + split_of e.range p) (e.range - split_of e.range p) (doublings (e.range - split_of e.range p))
        else doubled_part e.n e.low (split_of e.range p) (doublings (split_of e.range p))).range
    by_value true =
        let within = split_within e.range p wide low in
        let enough = doublings-enough (e.range - split_of e.range p) (omega arith) in
        omega (arith, enough)
    by_value false = let enough = doublings-enough (split_of e.range p) (split_some e.range p) in omega (arith, enough)

-- ---- a number of a doubled part, without its last bits

pub record Halved (n low range : ℕ) (bits : List ℕ) : Type 0 where
  pub from : low ≤ front_number (8 + n) bits
  pub below : front_number (8 + n) bits < low + range

halved : (n low range k : ℕ) (bits : List ℕ) → AreBits bits → Lies (doubled_part n low range k) bits → Halved n low range bits
halved n low range k bits are h =
    let whole = front_number (8 + n) bits in
    let e : 8 + (n + k) ≡ 8 + n + k = omega arith in
    let grows : front_number (8 + (n + k)) bits ≡ whole * 2 ^ k + front_number k (drop (8 + n) bits) = ap (λ a. front_number a bits) e ∙ front-add (8 + n) k bits in
    let small = front-below k (drop (8 + n) bits) (AreBits-drop (8 + n) bits are) in
    let from : low * 2 ^ k < (whole + 1) * 2 ^ k = omega (arith, h.from, grows, small) in
    let below : whole * 2 ^ k < (low + range) * 2 ^ k = omega (arith, h.below, grows) in
    let least = lt_of_mul-lt-mul_right (2 ^ k) from in
    record { from = omega (arith, least); below = lt_of_mul-lt-mul_right (2 ^ k) below }

-- what a bool that was put leaves to read
pub record ReadsPut (p v : ℕ) (e : NumberPart) (bits : List ℕ) : Type 0 where
  pub lies : Lies e bits
  pub value : bool_of p (coder_at bits e) ≡ v
  pub next : after_bool p (coder_at bits e) ≡ coder_at bits (after_put p v e)

pub put_zero : (p : ℕ) (e : NumberPart) (bits : List ℕ) → 2 ≤ e.range → p < 256 → AreBits bits → Lies (after_put p 0 e) bits → ReadsPut p 0 e bits
unfolding after_put bool_of after_bool
put_zero p e bits wide low are h =
    let s = split_of e.range p in
    let within = split_within e.range p wide low in
    let part = halved e.n e.low s (doublings s) bits are h in
    let from = part.from in
    let below = part.below in
    let none : nat_le s (front_number (8 + e.n) bits - e.low) ≡ false = lt-leb s (front_number (8 + e.n) bits - e.low) (omega arith) in
    record {
      lies = record { from = part.from; below = omega arith };
      value = rw none refl;
      next = rw none refl;
    }

pub put_one : (p : ℕ) (e : NumberPart) (bits : List ℕ) → 2 ≤ e.range → p < 256 → AreBits bits → Lies (after_put p 1 e) bits → ReadsPut p 1 e bits
unfolding after_put bool_of after_bool
put_one p e bits wide low are h =
    let s = split_of e.range p in
    let within = split_within e.range p wide low in
    let part = halved e.n (e.low + s) (e.range - s) (doublings (e.range - s)) bits are h in
    let from = part.from in
    let below = part.below in
    let one : nat_le s (front_number (8 + e.n) bits - e.low) ≡ true = le-leb s (front_number (8 + e.n) bits - e.low) (omega arith) in
    record {
      lies = record { from = omega arith; below = omega arith };
      value = rw one refl;
      next = rw one refl;
    }
