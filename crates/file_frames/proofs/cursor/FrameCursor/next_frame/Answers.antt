use Rattle.std.proofs.Common.{◌≡◌, ◌≢◌, ◌≤◌, ◌<◌, ℕ, arith, ap, refl, sym, subst, length, [], ◌∙◌, Some, None}
use Rattle.std.specs.Prelude.{Ok}
use Rattle.file_frames.specs.Code.{ahead, HasMoved}
use Rattle.file_frames.proofs.Aheads.{in_hand}
use Rattle.file_frames.proofs.cursor.FrameCursor.next_frame.Goals as goal

pub payloads-preserved : goal.payloads-preserved
unfolding ahead
payloads-preserved c =
    subst (λ r. HasMoved (ahead c.payloads.self) (Ok r) (ahead c.next_payload.new.self)) c.in-Ok-true.field-0-test c.in-Ok-true.ensures.moved ∙ c.payloads.invariant

pub returns-in-Ok-false-clause-next : goal.returns-in-Ok-false-clause-next
unfolding ahead
returns-in-Ok-false-clause-next c =
    let moved = subst (λ r. HasMoved (ahead c.payloads.self) (Ok r) (ahead c.next_payload.new.self)) c.in-Ok-false.field-0-test c.in-Ok-false.ensures.moved in
    let same = sym c.payloads.invariant in
    (same ∙ moved.0 ∙ ap (λ a. record { number = a.number; frames = []; ending = None }) (sym same), moved.1 ∙ c.payloads.invariant)

pub returns-in-Err-clause-next : goal.returns-in-Err-clause-next
unfolding ahead
returns-in-Err-clause-next c =
    let moved = c.in-Err.ensures.moved in
    (sym c.payloads.invariant ∙ moved.0 ∙ ap (λ n. record { number = n; frames = []; ending = Some c.in-Err.rule }) (sym c.next_payload.ensures.number), moved.1 ∙ c.payloads.invariant)

below : (taken long n : ℕ) → taken ≤ long → n ≡ long → taken ≢ n → taken < long
below taken long n low is other =
    let apart : taken ≢ long = λ e. other (e ∙ sym is) in
    omega (arith, apart)

pub returns-clause-next : goal.returns-clause-next
unfolding ahead
returns-clause-next c =
    let s = c.payloads.self in
    (sym c.payloads.invariant ∙ in_hand s.bytes.now s.packets s.payload.now s.parts.items c.deref.result.now s.taken s.number _ (below s.taken (length s.parts.items) c.len.result s.given c.len.ensures.value c.payloads-test.false) c.deref.ensures.0, refl)
