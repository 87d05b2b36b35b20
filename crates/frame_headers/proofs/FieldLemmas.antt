-- A field is read bit by bit.
use Rattle.std.proofs.Common.{◌≡◌, ℕ, suc, ◌+◌, ◌*◌, ◌^◌, ◌<◌, ◌≤◌, List, [], ◌∷◌, ◌++◌, length, get_or, take, drop, ap, sym, ◌∙◌, arith, lit<}
use Rattle.std.specs.Prelude.{Ok, Err}
use Rattle.std.proofs.Math.Seq.{drop-cons, take-suc}
use Rattle.std.proofs.Math.Nat.{two-pow-succ}
use Rattle.std.proofs.lemmas.List.{length-drop}
use Rattle.std.proofs.lemmas.List.Sums.{fold-append}
use Rattle.vp9_types.specs.Bits.{number_of}
use Rattle.vp9_types.specs.Reading.{after, read_bits}
use Rattle.vp9_types.proofs.EntryLaws.{there, short, answered}
use Rattle.frame_headers.specs.declared.field.FieldName.{FieldName}
use Rattle.frame_headers.specs.Fields.{past, f}

-- n bits were read, which spell the value, and the rest is left
pub record HasRead (bits : List ℕ) (n value : ℕ) (rest : List ℕ) : Type 0 where
  pub there : n ≤ length bits
  pub spells : number_of (take n bits) ≡ value
  pub left : drop n bits ≡ rest
  pub small : value < 2 ^ n

pub one_read : (bits : List ℕ) (n value b : ℕ) (rest : List ℕ) → HasRead bits n value (b ∷ rest) → b < 2 → HasRead bits (n + 1) (2 * value + b) rest
one_read bits n value b rest h low =
    let long = ap length h.left in
    let counted = length-drop n bits in
    let in_range : n < length bits = omega (arith, long, counted) in
    let split = drop-cons bits n 0 in_range in
    let cell : ◌≡◌ {A = List ℕ} (get_or bits n 0 ∷ drop (suc n) bits) (b ∷ rest) = sym split ∙ h.left in
    let head : get_or bits n 0 ≡ b = cc in
    let tail : drop (suc n) bits ≡ rest = cc in
    let e : n + 1 ≡ suc n = omega arith in
    let front : take (suc n) bits ≡ take n bits ++ (b ∷ []) = take-suc bits n 0 in_range ∙ ap (λ x. take n bits ++ (x ∷ [])) head in
    let grows = two-pow-succ n in
    let power : 2 ^ (n + 1) ≡ 2 ^ suc n = ap (λ k. 2 ^ k) e in
    record {
      there = omega (arith, in_range);
      spells = ap (λ k. number_of (take k bits)) e ∙ ap number_of front ∙ fold-append (λ m x. 2 * m + x) 0 (take n bits) (b ∷ []) ∙ ap (λ v. 2 * v + b) h.spells;
      left = ap (λ k. drop k bits) e ∙ tail;
      small = let s = h.small in omega (arith, s, grows, power, low);
    }

-- all of a field's bits were read
pub field_read : (name : FieldName) (bits : List ℕ) (n value : ℕ) (rest : List ℕ) → HasRead bits n value rest → read_bits past (f name n) bits ≡ Ok (value, rest)
unfolding f
field_read name bits n value rest h =
    elim (answered past n bits) [
      | there long is ↦ ap (λ r. after r (λ v more. Ok (v, more))) is ∙ ap (λ v. Ok (v, drop n bits)) h.spells ∙ ap (λ more. Ok (value, more)) h.left
      | short few is ↦ let t = h.there in absurd (omega (arith, t, few))
    ]

-- the bits end before the field does
pub field_short : (name : FieldName) (bits : List ℕ) (n k value : ℕ) → HasRead bits k value [] → k < n → read_bits past (f name n) bits ≡ Err past
unfolding f
field_short name bits n k value h low =
    let none = ap length h.left in
    let counted = length-drop k bits in
    elim (answered past n bits) [
      | there long is ↦ absurd (omega (arith, none, counted, long, low))
      | short few is ↦ ap (λ r. after r (λ v more. Ok (v, more))) is
    ]
