-- What was put for a syntax that counts.
use Rattle.std.proofs.Common.{◌≡◌, ℕ, Bool, subst}
use Rattle.vp9_types.specs.Syntax.{Syntax}
use Rattle.vp9_types.specs.declared.rule.Rule.{Rule}
use Rattle.prob_contexts.specs.declared.kind.ProbKind.{ProbKind}
use Rattle.counting_reader.specs.Counting.{Settled, settle, uncounted, in_order}
use Rattle.counting_reader.specs.CountedSymbols.{counted_flag}
use Rattle.bool_encoder.specs.Part.{NumberPart}
use Rattle.bool_encoder.specs.WrittenBools.{Puts}
use Rattle.bool_lists.specs.BoolLists.{HasPut, one_bool}
use Rattle.bool_lists.proofs.Ways.{Between, between, flag_way}
use Rattle.bool_encoder.specs.CountedBools.{valued, PutsValue}
use Rattle.bool_encoder.proofs.CountedPuts.{valued_settle, valued_flag, valued_uncounted, valued_in_order}

-- one was put, and then the other
pub two_put : {A B : Type 0} (s : Syntax ℕ Rule (Settled A)) (f : A → Syntax ℕ Rule (Settled B)) (old new : NumberPart) (y : B) → PutsValue (in_order s f) old y new
    → Between (valued s) (λ x. valued (f x)) old y new
two_put {B = B} s f old new y h = between (valued s) (λ x. valued (f x)) old new y (subst (λ (u : Syntax ℕ Rule B). Puts u old y new) (valued_in_order s f) h)

pub settle_put : {A : Type 0} (x y : A) (old new : NumberPart) → PutsValue (settle x) old y new → (x ≡ y) × (old ≡ new)
settle_put {A} x y old new h = subst (λ (u : Syntax ℕ Rule A). Puts u old y new) (valued_settle x) h

pub uncounted_put : {A : Type 0} (s : Syntax ℕ Rule A) (x : A) (old new : NumberPart) → PutsValue (uncounted s) old x new → Puts s old x new
uncounted_put {A} s x old new h = subst (λ (u : Syntax ℕ Rule A). Puts u old x new) (valued_uncounted s) h

pub flag_put : (kind : ProbKind) (place p : ℕ) (b : Bool) (old new : NumberPart) → PutsValue (counted_flag kind place p) old b new → HasPut old (one_bool p b) new
flag_put kind place p b old new h = flag_way p b old new (subst (λ (u : Syntax ℕ Rule Bool). Puts u old b new) (valued_flag kind place p) h)
