-- The walk over the packets, by its steps.
use Rattle.std.proofs.Common.{◌≡◌, ℕ, suc, zero, ◌+◌, ◌-◌, ◌<◌, ◌≤◌, List, length, refl, sym, ap, subst, ◌∙◌, arith}
use Rattle.std.specs.Prelude.{Option, Some, None, Result, Ok, Err, Bool, true, false, nat_eq, nat_lt, if◌then◌else◌}
use borrow.Author.Tests.{ltb-true, ltb-false, eqb-true, eqb-false}
use Rattle.vp9_types.specs.declared.rule.Rule.{Rule}
use Rattle.vp9_types.specs.declared.rule.Rule.TheVariants.{IvfTruncated}
use Rattle.ivf_container.specs.declared.packet.Packet.{Packet}
use Rattle.ivf_container.specs.Packets.{Packets, next_packet_at, IsNext, size_at, packets_from, fewer_from, go_on, with_payload, payload_of}

-- what the next packet is, without the packets behind it
pub record IsPlaced (bytes : List ℕ) (at : ℕ) (p : Packet) : Type 0 where
  pub from : p.from ≡ at + 12
  pub to : p.to ≡ p.from + size_at bytes at
  pub within : p.to ≤ length bytes

abbrev pub IsStep : List ℕ → ℕ → Result (Option Packet) Rule → Type 0
IsStep bytes at (Ok None) = at ≡ length bytes
IsStep bytes at (Ok (Some p)) = IsPlaced bytes at p
IsStep bytes at (Err rule) = (rule ≡ IvfTruncated) × (at < length bytes) × (length bytes < at + 12 + size_at bytes at)

-- a fact on what an `if` gives, by what its test says
pub by_test : {X : Type 0} (P : X → Type 0) (b : Bool) (x y : X) → (b ≡ true → P x) → (b ≡ false → P y) → P (if b then x else y)
by_test P true x y holds fails = holds refl
by_test P false x y holds fails = fails refl

pub is_step : (bytes : List ℕ) (at : ℕ) → at ≤ length bytes → IsStep bytes at (next_packet_at bytes at)
unfolding next_packet_at
is_step bytes at fits =
    let left = length bytes - at in
    by_test (IsStep bytes at) (nat_eq left 0) _ _ (λ ended. let a = eqb-true left 0 ended in omega arith) (λ more.
    by_test (IsStep bytes at) (nat_lt left 12) _ _ (λ short. let a = eqb-false left 0 more in let b = ltb-true left 12 short in (refl, omega arith, omega arith)) (λ long.
    by_test (IsStep bytes at) (nat_lt (left - 12) (size_at bytes at)) _ _ (λ cut. let b = ltb-false left 12 long in let d = ltb-true (left - 12) (size_at bytes at) cut in (refl, omega arith, omega arith)) (λ whole.
    let b = ltb-false left 12 long in
    let c = ltb-false (left - 12) (size_at bytes at) whole in
    record { from = refl; to = refl; within = omega arith })))

-- what lies further on decides the packets only by those from a later place on
goes_on : (bytes : List ℕ) (at : ℕ) (f g : ℕ → Packets) (r : Result (Option Packet) Rule) → IsStep bytes at r
    → ((to : ℕ) → at + 12 ≤ to → to ≤ length bytes → f to ≡ g to) → go_on bytes f r ≡ go_on bytes g r
goes_on bytes at f g (Ok None) step same = refl
goes_on bytes at f g (Err rule) step same = refl
goes_on bytes at f g (Ok (Some p)) step same = ap (with_payload (payload_of bytes p)) (same p.to (omega arith) step.within)

-- the packets from a place on are the same for each bound that is large enough
pub any_bound : (n m : ℕ) (bytes : List ℕ) (at : ℕ) → at ≤ length bytes → length bytes - at < n → length bytes - at < m → fewer_from n bytes at ≡ fewer_from m bytes at
any_bound zero m bytes at fits below also = absurd (omega arith)
any_bound (suc n) zero bytes at fits below also = absurd (omega arith)
any_bound (suc n) (suc m) bytes at fits below also =
    goes_on bytes at (fewer_from n bytes) (fewer_from m bytes) (next_packet_at bytes at) (is_step bytes at fits)
    (λ to later within. any_bound n m bytes to within (omega arith) (omega arith))

-- the packets from a place on, by the next one
pub next_from : (bytes : List ℕ) (at : ℕ) → at ≤ length bytes → packets_from bytes at ≡ go_on bytes (packets_from bytes) (next_packet_at bytes at)
unfolding packets_from
next_from bytes at fits =
    goes_on bytes at _ _ (next_packet_at bytes at) (is_step bytes at fits)
    (λ to later within. any_bound (length bytes) (suc (length bytes)) bytes to within (omega arith) (omega arith))

pub is_next : (bytes : List ℕ) (at : ℕ) → at ≤ length bytes → (r : Result (Option Packet) Rule) → r ≡ next_packet_at bytes at → IsNext bytes at r
is_next bytes at fits r same =
    facts r (subst (IsStep bytes at) (sym same) (is_step bytes at fits)) (next_from bytes at fits ∙ ap (go_on bytes (packets_from bytes)) (sym same)) where
      facts : (r : Result (Option Packet) Rule) → IsStep bytes at r → packets_from bytes at ≡ go_on bytes (packets_from bytes) r → IsNext bytes at r
      facts (Ok None) step from = (step, from)
      facts (Err rule) step from = (step.0, from)
      facts (Ok (Some p)) step from = record { from = sym step.from; to = step.to; in_order = omega arith; within = step.within; packets = from }
