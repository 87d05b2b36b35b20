-- What is written for a syntax that counts: the bools that lead it to a value, whatever is counted for it.
use Rattle.std.specs.Prelude.{ℕ, List, Result}
use Rattle.vp9_types.specs.Syntax.{Syntax, done, broken, ask}
use Rattle.vp9_types.specs.Writing.{WritesTo}
use Rattle.vp9_types.specs.declared.rule.Rule.{Rule}
use Rattle.prob_contexts.specs.declared.kind.CountedBool.{CountedBool}
use Rattle.counting_reader.specs.Counting.{Settled}
use Rattle.bool_encoder.specs.Part.{NumberPart, after_put}
use Rattle.bool_encoder.specs.WrittenBools.{Puts, can_put}

-- bools that lead the syntax to the value were put
abbrev pub PutsCounting : {A : Type 0} → Syntax ℕ Rule (Settled A) → NumberPart → A → NumberPart → Type 0
PutsCounting s old x new = (counted : List CountedBool) × Puts s old (record { value = x; counted = counted }) new

-- the same syntax, which doesn't say what is counted
unfoldable pub valued : {A : Type 0} → Syntax ℕ Rule (Settled A) → Syntax ℕ Rule A
valued (done s) = done s.value
valued (broken e) = broken e
valued (ask p k) = ask p (λ v. valued (k v))

abbrev pub PutsValue : {A : Type 0} → Syntax ℕ Rule (Settled A) → NumberPart → A → NumberPart → Type 0
PutsValue s old x new = Puts (valued s) old x new

-- bools that lead the syntax to its end were put: to the value, or to the rule that is broken there
abbrev pub PutsTo : {A : Type 0} → Syntax ℕ Rule (Settled A) → NumberPart → Result A Rule → NumberPart → Type 0
PutsTo s old r new = WritesTo can_put after_put (valued s) old r new
