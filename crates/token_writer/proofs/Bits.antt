-- The bits of a category, one by one.
use Rattle.std.proofs.Common.{◌≡◌, ℕ, ◌+◌, ◌-◌, ◌*◌, ◌/◌, ◌%◌, ◌^◌, ◌<◌, ◌≤◌, ◌∷◌, ap, sym, subst, ◌∙◌, arith, List, length, drop, get_or}
use Rattle.std.specs.Prelude.{nat_eq}
use Rattle.std.proofs.Math.Nat.{div-eq_of_lt}
use Rattle.std.proofs.lemmas.Nat.{shr-shr}
use Rattle.std.proofs.lemmas.List.{drop_more, drop_all}
use Rattle.vp9_types.specs.declared.rule.Rule.{Rule}
use Rattle.bool_encoder.specs.Part.{NumberPart, after_put}
use Rattle.bool_encoder.specs.WrittenBools.{LeadsBools, Puts, can_put}
use Rattle.vp9_types.proofs.Binds.{leads_on, leads_end, leads_here}
use Rattle.prob_contexts.specs.Counted.{bool_number}
use Rattle.bool_encoder.proofs.Literals.{odd_number}
use Rattle.coef_tokens.specs.TokenSymbols.{bits_from}

-- the bools of the number's first bits were put, and those at the other probabilities are still to come
abbrev pub BitsLeft : List ℕ → ℕ → ℕ → NumberPart → NumberPart → Type 0
BitsLeft ps value i old now = LeadsBools {E = Rule} (bits_from ps 0) old (bits_from (drop i ps) (value / 2 ^ (length ps - i))) now

pub bits_begin : (ps : List ℕ) (value : ℕ) (old : NumberPart) → value < 2 ^ length ps → BitsLeft ps value 0 old old
bits_begin ps value old fits =
    let all : length ps - 0 ≡ length ps = omega arith in
    let none : value / 2 ^ (length ps - 0) ≡ 0 = ap (λ n. value / 2 ^ n) all ∙ div-eq_of_lt fits in
    rw none (leads_here can_put after_put (bits_from ps 0) old)

pub bits_go : (ps : List ℕ) (value i : ℕ) (old now next : NumberPart) → i < length ps → get_or ps i 0 < 256 → BitsLeft ps value i old now
    → next ≡ after_put (get_or ps i 0) (bool_number (nat_eq (value / 2 ^ (length ps - 1 - i) % 2) 1)) now → BitsLeft ps value (i + 1) old next
unfolding bits_from
bits_go ps value i old now next more low h is =
    let m = length ps - 1 - i in
    let left : length ps - i ≡ m + 1 = omega arith in
    let after : length ps - (i + 1) ≡ m = omega arith in
    let bit = value / 2 ^ m % 2 in
    let half : value / 2 ^ (length ps - i) ≡ value / 2 ^ m / 2 = ap (λ k. value / 2 ^ k) left ∙ sym (shr-shr value m 1) in
    let whole : 2 * (value / 2 ^ (length ps - i)) + bit ≡ value / 2 ^ m = omega (arith, half) in
    let before : LeadsBools {E = Rule} (bits_from ps 0) old (bits_from (get_or ps i 0 ∷ drop (i + 1) ps) (value / 2 ^ (length ps - i))) now =
    subst (λ qs. LeadsBools {E = Rule} (bits_from ps 0) old (bits_from qs (value / 2 ^ (length ps - i))) now) (drop_more ps i 0 more) h in
    let put : next ≡ after_put (get_or ps i 0) bit now = is ∙ ap (λ v. after_put (get_or ps i 0) v now) (odd_number (value / 2 ^ m)) in
    rw (put, after) (rw whole at (leads_on can_put after_put (bits_from ps 0) (get_or ps i 0) bit
    (λ v. bits_from (drop (i + 1) ps) (2 * (value / 2 ^ (length ps - i)) + v)) old now before (low, omega arith)))

pub bits_end : (ps : List ℕ) (value i : ℕ) (old now : NumberPart) → length ps ≤ i → BitsLeft ps value i old now → Puts (bits_from ps 0) old value now
unfolding bits_from
bits_end ps value i old now all h =
    let none : length ps - i ≡ 0 = omega arith in
    let whole : value / 2 ^ 0 ≡ value = omega arith in
    leads_end can_put after_put (bits_from ps 0) value old now (rw (drop_all i ps all, none, whole) at h)
