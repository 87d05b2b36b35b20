-- The bits of a class, one by one.
use Rattle.std.proofs.Common.{◌≡◌, ℕ, zero, suc, ◌+◌, ◌-◌, ◌*◌, ◌/◌, ◌%◌, ◌^◌, ◌<◌, ◌≤◌, ap, sym, subst, ◌∙◌, refl, arith}
use Rattle.std.specs.Prelude.{nat_eq}
use Rattle.std.proofs.Math.Nat.{mod-eq_of_lt}
use Rattle.std.proofs.lemmas.Nat.{mod-pow-add}
use Rattle.std.specs.List.{range_with_len}
use Rattle.vp9_types.specs.declared.rule.Rule.{Rule}
use Rattle.vp9_types.specs.Syntax.{Syntax}
use Rattle.vp9_tables.specs.Numbers.{flag_number}
use Rattle.bool_encoder.specs.Part.{NumberPart, after_put}
use Rattle.bool_encoder.specs.WrittenBools.{LeadsBools, Puts, can_put}
use Rattle.vp9_types.proofs.Binds.{writes_bind, leads_here}
use Rattle.counting_reader.specs.Counting.{Settled, through}
use Rattle.bool_encoder.specs.CountedBools.{valued, PutsValue}
use Rattle.bool_encoder.proofs.CountedPuts.{valued_in_order, valued_settle}

abbrev Step : Type 0
Step = ℕ → ℕ → Syntax ℕ Rule (Settled ℕ)

-- the bools of the value's lowest i bits were put, and those of the others are still to come
abbrev pub BitsLeft : Step → ℕ → ℕ → ℕ → NumberPart → NumberPart → Type 0
BitsLeft f n value i old now =
    LeadsBools {E = Rule} (valued (through f (range_with_len 0 n) 0)) old (valued (through f (range_with_len i (n - i)) (value % 2 ^ i))) now

pub bits_begin : (f : Step) (n value : ℕ) (old : NumberPart) → BitsLeft f n value 0 old old
bits_begin f n value old =
    let all : n - 0 ≡ n = omega arith in
    let none : value % 2 ^ 0 ≡ 0 = omega arith in
    rw (all, none) (leads_here can_put after_put (valued (through f (range_with_len 0 n) 0)) old)

odd_flag : (m : ℕ) → flag_number (nat_eq (m % 2) 1) ≡ m % 2
odd_flag m = by_bit (m % 2) (omega arith)
  where
    by_bit : (b : ℕ) → b < 2 → flag_number (nat_eq b 1) ≡ b
    by_bit zero h = refl
    by_bit (suc zero) h = refl
    by_bit (suc (suc b)) h = absurd (omega arith)

pub bits_go : (f : Step) (n value i : ℕ) (old now next : NumberPart) → i < n → BitsLeft f n value i old now
    → PutsValue (f i (value % 2 ^ i)) now (value % 2 ^ i + flag_number (nat_eq (value / 2 ^ i % 2) 1) * 2 ^ i) next → BitsLeft f n value (i + 1) old next
unfolding through
bits_go f n value i old now next more h put =
    let m = n - (i + 1) in
    let b = value % 2 ^ i in
    let x = b + flag_number (nat_eq (value / 2 ^ i % 2) 1) * 2 ^ i in
    let rest = range_with_len (i + 1) m in
    let left : n - i ≡ suc m = omega arith in
    let before : LeadsBools {E = Rule} (valued (through f (range_with_len 0 n) 0)) old (valued (through f (range_with_len i (suc m)) b)) now =
    subst (λ k. LeadsBools {E = Rule} (valued (through f (range_with_len 0 n) 0)) old (valued (through f (range_with_len i k) b)) now) left h in
    let on : i + 1 ≡ 1 + i = omega arith in
    let odd = odd_flag (value / 2 ^ i) in
    let more_bits : value % 2 ^ (i + 1) ≡ (value / 2 ^ i % 2) * 2 ^ i + b = ap (λ k. value % 2 ^ k) on ∙ mod-pow-add value 1 i in
    let flagged : flag_number (nat_eq (value / 2 ^ i % 2) 1) * 2 ^ i ≡ (value / 2 ^ i % 2) * 2 ^ i = ap (λ k. k * 2 ^ i) odd in
    let same : value % 2 ^ (i + 1) ≡ x = omega (arith, more_bits, flagged) in
    λ y new g. before y new (subst (λ u. Puts u now y new) (sym (valued_in_order (f i b) (through f rest)))
    (writes_bind can_put after_put (valued (f i b)) (λ z. valued (through f rest z)) now next new x y put (subst (λ z. Puts (valued (through f rest z)) next y new) same g)))

pub bits_end : (f : Step) (n value i : ℕ) (old now : NumberPart) → value < 2 ^ n → n ≤ i → i ≤ n → BitsLeft f n value i old now
    → PutsValue (through f (range_with_len 0 n) 0) old value now
unfolding through
bits_end f n value i old now fits all most h =
    let end : i ≡ n = omega arith in
    let none : n - i ≡ 0 = omega arith in
    let before : LeadsBools {E = Rule} (valued (through f (range_with_len 0 n) 0)) old (valued (through f (range_with_len i 0) (value % 2 ^ i))) now =
    subst (λ k. LeadsBools {E = Rule} (valued (through f (range_with_len 0 n) 0)) old (valued (through f (range_with_len i k) (value % 2 ^ i))) now) none h in
    let whole : value % 2 ^ i ≡ value = ap (λ k. value % 2 ^ k) end ∙ mod-eq_of_lt fits in
    before value now (subst (λ u. Puts u now value now) (sym (valued_settle (value % 2 ^ i))) (whole, refl))
