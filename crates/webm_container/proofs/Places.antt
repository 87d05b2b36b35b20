-- Where numbers, elements and payloads lie.
use Rattle.std.proofs.Common.{◌≡◌, ℕ, ◌+◌, ◌-◌, ◌<◌, ◌≤◌, ◌^◌, List, refl, subst, arith}
use Rattle.std.specs.Prelude.{Option, Some, None, Result, Ok, Err, not, nat_lt, nat_le, slice_index}
use borrow.Author.Tests.{ltb-false, leb-false}
use Rattle.vp9_types.specs.declared.job.Span.{Span}
use Rattle.vp9_types.specs.declared.rule.Rule.{Rule}
use Rattle.webm_container.specs.Elements.{coded_octets, coded_at, sized, element_at, if_known, known_at}
use Rattle.webm_container.specs.ClusterBlocks.{is_of, is_laced, behind_number, payload_at}
use Rattle.webm_container.specs.declared.elements.Coded.{Coded}
use Rattle.webm_container.specs.declared.elements.Element.{Element}
use Rattle.webm_container.proofs.Tests.{by_test, by_result}

abbrev pub CodedLies : ℕ → ℕ → Result Coded Rule → Type 0
CodedLies at end (Ok coded) = (at < coded.to) × (coded.to ≤ end)
CodedLies at end (Err rule) = Unit {0}

pub coded_lies : (bytes : List ℕ) (at end most : ℕ) → CodedLies at end (coded_at bytes at end most)
unfolding coded_at
coded_lies bytes at end most =
    let n = coded_octets (slice_index bytes at) in
    by_test (CodedLies at end) (nat_le end at) _ _ (λ _. tt) (λ some.
    by_test (CodedLies at end) (nat_lt most n) _ _ (λ _. tt) (λ _.
    by_test (CodedLies at end) (nat_lt (end - at) n) _ _ (λ _. tt) (λ fits.
    let a = leb-false end at some in
    let b = ltb-false (end - at) n fits in
    (omega arith, omega arith))))

-- an element's head has 2 bytes at least, and it ends no later than its parent
abbrev pub Lies : ℕ → ℕ → Result Element Rule → Type 0
Lies at end (Ok e) = (at + 2 ≤ e.from) × (e.from ≤ e.to) × (e.to ≤ end)
Lies at end (Err rule) = Unit {0}

sized_lies : (at end id : ℕ) (size : Coded) → at + 2 ≤ size.to → size.to ≤ end → Lies at end (sized end id size)
sized_lies at end id size head fits =
    by_test (Lies at end) size.all_ones _ _ (λ _. (head, fits, omega arith)) (λ _.
    by_test (Lies at end) (nat_lt (end - size.to) size.value) _ _ (λ _. tt) (λ within.
    let a = ltb-false (end - size.to) size.value within in
    (head, omega arith, omega arith)))

pub element_lies : (bytes : List ℕ) (at end : ℕ) → Lies at end (element_at bytes at end)
unfolding element_at
element_lies bytes at end =
    by_result (Lies at end) (coded_at bytes at end 4) _ (λ id is_id.
    by_result (Lies at end) (coded_at bytes id.to end 8) (sized end id.marked) (λ size is_size.
    let a = subst (CodedLies at end) is_id (coded_lies bytes at end 4) in
    let b = subst (CodedLies id.to end) is_size (coded_lies bytes id.to end 8) in
    sized_lies at end id.marked size (omega (arith, a.0, b.0)) b.1)
    (λ _. tt)) (λ _. tt)

known_lies_if : (at end : ℕ) (e : Element) → Lies at end (Ok e) → Lies at end (if_known e)
known_lies_if at end e h = by_test (Lies at end) e.unknown _ _ (λ _. tt) (λ _. h)

pub known_lies : (bytes : List ℕ) (at end : ℕ) → Lies at end (known_at bytes at end)
unfolding known_at
known_lies bytes at end =
    by_result (Lies at end) (element_at bytes at end) if_known (λ e is. known_lies_if at end e (subst (Lies at end) is (element_lies bytes at end))) (λ _. tt)

-- a payload stands behind the 4 bytes of a block's head at least, up to its end
abbrev pub PayloadLies : ℕ → ℕ → Result (Option Span) Rule → Type 0
PayloadLies from to (Ok (Some span)) = (from + 4 ≤ span.from) × (span.from ≤ span.to) × (span.to ≡ to)
PayloadLies from to (Ok None) = Unit {0}
PayloadLies from to (Err rule) = Unit {0}

behind_lies : (bytes : List ℕ) (track : Option ℕ) (from to : ℕ) (number : Coded) → CodedLies from to (Ok number) → PayloadLies from to (behind_number bytes track to number)
behind_lies bytes track from to number h =
    let P = PayloadLies from to in
    by_test P (nat_lt (to - number.to) 3) _ _ (λ _. tt) (λ head.
    by_test P (not (is_of track number.value)) _ _ (λ _. tt) (λ _.
    by_test P (is_laced (slice_index bytes (number.to + 2))) _ _ (λ _. tt) (λ _.
    by_test P (nat_le (2 ^ 32) (to - (number.to + 3))) _ _ (λ _. tt) (λ _.
    let a = ltb-false (to - number.to) 3 head in
    (omega (arith, h.0), omega (arith, h.1), refl)))))

pub payload_lies : (bytes : List ℕ) (track : Option ℕ) (from to : ℕ) → PayloadLies from to (payload_at bytes track from to)
unfolding payload_at
payload_lies bytes track from to =
    by_result (PayloadLies from to) (coded_at bytes from to 8) (behind_number bytes track to)
    (λ number is. behind_lies bytes track from to number (subst (CodedLies from to) is (coded_lies bytes from to 8))) (λ _. tt)
