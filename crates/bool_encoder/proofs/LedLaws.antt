-- Lists of answers, and what was put.
use Rattle.std.proofs.Common.{◌≡◌, ℕ, List, [], ◌∷◌, refl, sym}
use Rattle.vp9_types.specs.Syntax.{Syntax, done, broken, ask}
use Rattle.vp9_types.specs.declared.rule.Rule.{Rule}
use Rattle.bool_encoder.specs.Part.{NumberPart, after_put, after_bools}
use Rattle.bool_encoder.specs.WrittenBools.{WritesBools}
use Rattle.bool_encoder.specs.Laws.{AreBools, IsLedBy, after_all, asked, values_of}
use Rattle.bool_encoder.proofs.WriteLaws.{writes_bind}

pub led_writes : {E A : Type 0} (s : Syntax ℕ E A) (vs : List ℕ) (old : NumberPart) (x : A) → IsLedBy s vs x → WritesBools s old x (after_all s vs old)
led_writes (done y) [] old x h = (h, refl)
led_writes (done y) (v ∷ vs) old x h = absurd h
led_writes (broken e) vs old x h = absurd h
led_writes (ask p k) [] old x h = absurd h
led_writes (ask p k) (v ∷ vs) old x h = (v, h.0, led_writes (k v) vs (after_put p v old) x h.1)

pub writes_led : {E A : Type 0} (s : Syntax ℕ E A) (old new : NumberPart) (x : A) → WritesBools s old x new → (vs : List ℕ) × IsLedBy s vs x × (new ≡ after_all s vs old)
writes_led (done y) old new x h = ([], h.0, sym h.1)
writes_led (broken e) old new x h = absurd h
writes_led (ask p k) old new x h =
    let rest = writes_led (k h.0) (after_put p h.0 old) new x h.2 in
    (h.0 ∷ rest.0, (h.1, rest.1), rest.2)

-- bools, each at a probability of its own, are written for the syntax that asks one after another
pub bools_written : (bools : List (ℕ × ℕ)) (old : NumberPart) → AreBools bools → WritesBools {E = Rule} (asked bools) old (values_of bools) (after_bools bools old)
bools_written [] old are = (refl, refl)
bools_written (b ∷ bools) old are =
    let next = after_put b.0 b.1 old in
    let new = after_bools bools next in
    (b.1, are.0, writes_bind (asked bools) (λ vs. done (b.1 ∷ vs)) next new new (values_of bools) (values_of (b ∷ bools)) (bools_written bools next are.1) (refl, refl))
