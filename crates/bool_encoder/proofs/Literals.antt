-- Literals, bool by bool.
use Rattle.std.proofs.Common.{◌≡◌, ℕ, zero, suc, ◌+◌, ◌-◌, ◌*◌, ◌/◌, ◌%◌, ◌^◌, ◌<◌, refl, ap, sym, subst, ◌∙◌, arith}
use Rattle.std.specs.Prelude.{nat_eq}
use Rattle.std.proofs.Math.Nat.{div-eq_of_lt}
use Rattle.std.proofs.lemmas.Nat.{shr-shr}
use Rattle.vp9_types.specs.declared.rule.Rule.{Rule}
use Rattle.prob_contexts.specs.Counted.{bool_number}
use Rattle.bool_decoder.specs.Bools.{literal, literal_from}
use Rattle.bool_encoder.specs.Part.{NumberPart, after_put}
use Rattle.bool_encoder.specs.WrittenBools.{LeadsBools, Puts}
use Rattle.bool_encoder.proofs.WriteLaws.{leads_on, leads_end, leads_here}

-- the bools of the number's first bits were put, and `left` are still to come
abbrev pub LiteralLeft : ℕ → ℕ → ℕ → NumberPart → NumberPart → Type 0
LiteralLeft n value left old now = LeadsBools {E = Rule} (literal n) old (literal_from left (value / 2 ^ left)) now

pub literal_begins : (n value : ℕ) (old : NumberPart) → value < 2 ^ n → LiteralLeft n value n old old
unfolding literal
literal_begins n value old fits =
    let none : value / 2 ^ n ≡ 0 = div-eq_of_lt fits in
    rw none (leads_here (literal n) old)

pub odd_number : (m : ℕ) → bool_number (nat_eq (m % 2) 1) ≡ m % 2
odd_number m = by_bit (m % 2) (omega arith)
  where
    by_bit : (b : ℕ) → b < 2 → bool_number (nat_eq b 1) ≡ b
    by_bit zero h = refl
    by_bit (suc zero) h = refl
    by_bit (suc (suc b)) h = absurd (omega arith)

pub literal_goes : (n value left : ℕ) (old now next : NumberPart) → 0 < left → LiteralLeft n value left old now
    → next ≡ after_put 128 (bool_number (nat_eq (value / 2 ^ (left - 1) % 2) 1)) now → LiteralLeft n value (left - 1) old next
unfolding literal_from
literal_goes n value left old now next some h is =
    let m = left - 1 in
    let e : left ≡ suc m = omega arith in
    let bit = value / 2 ^ m % 2 in
    let half : value / 2 ^ left ≡ value / 2 ^ m / 2 = ap (λ k. value / 2 ^ k) (let f : left ≡ m + 1 = omega arith in f) ∙ sym (shr-shr value m 1) in
    let whole : 2 * (value / 2 ^ left) + bit ≡ value / 2 ^ m = omega (arith, half) in
    let before : LeadsBools {E = Rule} (literal n) old (literal_from (suc m) (value / 2 ^ left)) now = subst (λ k. LeadsBools {E = Rule} (literal n) old (literal_from k (value / 2 ^ left)) now) e h in
    let put : next ≡ after_put 128 bit now = is ∙ ap (λ v. after_put 128 v now) (odd_number (value / 2 ^ m)) in
    rw put (rw whole at (leads_on (literal n) 128 bit (λ v. literal_from m (2 * (value / 2 ^ left) + v)) old now before (omega arith) (omega arith)))

pub literal_ends : (n value : ℕ) (old now : NumberPart) → LiteralLeft n value 0 old now → Puts (literal n) old value now
unfolding literal_from
literal_ends n value old now h =
    let whole : value / 2 ^ 0 ≡ value = omega arith in
    leads_end (literal n) value old now (rw whole at h)
