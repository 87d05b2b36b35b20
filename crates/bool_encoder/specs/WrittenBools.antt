-- What is written as bools: answers to the questions of a syntax, each put at the probability that is asked.
use Rattle.std.specs.Prelude.{ℕ, ◌<◌}
use Rattle.vp9_types.specs.Syntax.{Syntax}
use Rattle.vp9_types.specs.declared.rule.Rule.{Rule}
use Rattle.vp9_types.specs.Writing.{Writes, Leads}
use Rattle.bool_encoder.specs.Part.{NumberPart, after_put}

-- a bool at a probability out of 256
abbrev pub can_put : ℕ → ℕ → Type 0
can_put p v = (p < 256) × (v < 2)

-- bools that lead the syntax to the value were put
abbrev pub WritesBools : {E A : Type 0} → Syntax ℕ E A → NumberPart → A → NumberPart → Type 0
WritesBools s old x new = Writes can_put after_put s old x new

-- the bools put so far lead one syntax to what the other still asks
abbrev pub LeadsBools : {E A : Type 0} → Syntax ℕ E A → NumberPart → Syntax ℕ E A → NumberPart → Type 0
LeadsBools s old rest now = Leads can_put after_put s old rest now

-- bools that lead the syntax to the value were put, where faults are rules
abbrev pub Puts : {A : Type 0} → Syntax ℕ Rule A → NumberPart → A → NumberPart → Type 0
Puts s old x new = WritesBools s old x new
