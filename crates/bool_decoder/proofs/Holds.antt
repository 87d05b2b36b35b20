-- What a decoder holds, in the coder's words.
use Rattle.std.proofs.Common.{◌≡◌, ℕ, ◌+◌, ◌-◌, ◌*◌, ◌/◌, ◌%◌, ◌^◌, ◌<◌, ◌≤◌, List, ◌++◌, ap, sym, ◌∙◌, arith, drop}
use Rattle.std.proofs.lemmas.Nat.{pow_pos, shr_split, shr_below}
use Rattle.std.proofs.Math.Nat.{mod-lt, div-one}
use Rattle.vp9_types.specs.Bits.{bits_of, spelled}
use Rattle.bool_decoder.specs.Ahead.{bits_ahead, HoldsBits}
use Rattle.bool_decoder.specs.Coder.{Coder, front_number, above_low}
use Rattle.bool_decoder.specs.Window.{trimmed, window_on, window_of_coder, Stands}
use Rattle.bool_decoder.proofs.Fronts.{front-add, front-spelled, front-trimmed, drop-trimmed}
use Rattle.bool_decoder.proofs.Moves.{ahead_is, value_is, rest_is}

-- j bits that spell r, in front of others
front_whole : (j r : ℕ) (bits : List ℕ) → r < 2 ^ j → front_number j (spelled j r ++ bits) ≡ r
front_whole j r bits low =
    let e : j ≡ j + 0 = omega arith in
    ap (λ k. front_number j (spelled k r ++ bits)) e ∙ front-spelled j 0 r bits (rw (sym e) low) ∙ div-one r

-- the number that 8 + j bits spell: the value that is above low, and the j bits that come next
parts : (t j n low : ℕ) (bits : List ℕ) → low ≤ front_number (8 + n) bits → t / 2 ^ j ≡ front_number (8 + n) bits - low
    → t % 2 ^ j ≡ front_number j (drop (8 + n) bits)
    → t ≡ front_number (n + (8 + j)) bits - low * 2 ^ j
parts t j n low bits below value next =
    let e : n + (8 + j) ≡ 8 + n + j = omega arith in
    let whole = shr_split t j in
    let grows = front-add (8 + n) j bits in
    let sum : front_number (8 + n) bits ≡ t / 2 ^ j + low = omega arith in
    let wide = ap (λ x. x * 2 ^ j) sum in
    rw e (omega arith)

pub holds : (c : Coder) (window range count : ℕ) (bytes : List ℕ) → 8 ≤ count → count ≤ 64 → window < 2 ^ 64
    → Stands c (window_on range ((64 - count) % 8) (trimmed (bits_ahead window count bytes))) → HoldsBits c window count
unfolding window_of_coder
holds c window range count bytes some most fits h =
    let j = count - 8 in
    let t = window / 2 ^ (64 - count) in
    let sum : count + (64 - count) ≡ 64 = omega arith in
    let long : count ≡ 8 + j = omega arith in
    let small : t < 2 ^ count = shr_below window count (64 - count) (rw sum fits) in
    let low : t < 2 ^ (8 + j) = rw (sym long) small in
    let ahead : bits_ahead window count bytes ≡ spelled (8 + j) t ++ bits_of bytes =
    ahead_is window count (64 - count) bytes sum ∙ ap (λ k. spelled k t ++ bits_of bytes) long in
    let value : t / 2 ^ j ≡ above_low c =
    sym (ap (λ w. w.value) h.1 ∙ ap (λ bs. front_number 8 (trimmed bs)) ahead ∙ value_is t j (bits_of bytes) low) in
    let rest : drop (8 + c.n) (trimmed c.bits) ≡ trimmed (spelled j (t % 2 ^ j) ++ bits_of bytes) =
    ap (λ w. w.rest) h.1 ∙ ap (λ bs. drop 8 (trimmed bs)) ahead ∙ rest_is t j (bits_of bytes) low in
    let place : c.n % 8 ≡ (64 - count) % 8 = ap (λ w. w.place) h.1 in
    let next : t % 2 ^ j ≡ front_number j (drop (8 + c.n) c.bits) =
    sym (sym (front-trimmed j (drop (8 + c.n) c.bits)) ∙ ap (λ bs. front_number j bs) (sym (drop-trimmed (8 + c.n) c.bits) ∙ rest)
    ∙ front-trimmed j (spelled j (t % 2 ^ j) ++ bits_of bytes) ∙ front_whole j (t % 2 ^ j) (bits_of bytes) (mod-lt t (pow_pos j))) in
    let all : c.n + count ≡ c.n + (8 + j) = omega arith in
    record {
      least = some;
      most = most;
      whole = omega arith;
      spelled = parts t j c.n c.low c.bits h.0 value next ∙ ap (λ k. front_number k c.bits - c.low * 2 ^ j) (sym all);
    }
