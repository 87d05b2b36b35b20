-- Which way a question about one bool goes on.
use Rattle.std.proofs.Common.{◌≤◌, ℕ, suc, Bool, inl, inr, refl, sym, arith}
use Rattle.std.specs.Prelude.{nat_eq, if◌then◌else◌}
use Rattle.std.proofs.lemmas.Bool.{cases_eq, eq-eqb, ne_eqb}
use Rattle.vp9_types.specs.declared.rule.Rule.{Rule}
use Rattle.vp9_types.specs.Syntax.{Syntax, done, ask}
use Rattle.bool_decoder.specs.Bools.{flag}
use Rattle.bool_encoder.specs.Part.{NumberPart, after_put}
use Rattle.bool_encoder.specs.WrittenBools.{Puts, can_put}
use Rattle.vp9_types.proofs.Binds.{writes_bind}

pub way : (zeros ones : Syntax ℕ Rule ℕ) (p : ℕ) (b : Bool) (old mid new : NumberPart) (x : ℕ)
    → Puts (flag p) old b mid → Puts (if b then ones else zeros) mid x new → Puts (ask p (λ v. if nat_eq v 1 then ones else zeros)) old x new
unfolding flag
way zeros ones p b old mid new x h g = writes_bind can_put after_put (flag p) (λ b. if b then ones else zeros) old mid new b x h g

one_of : (k x : ℕ) (now : NumberPart) → k ≤ x → x ≤ suc k → Puts (if nat_eq x (suc k) then done (suc k) else done k) now x now
one_of k x now least most = elim (cases_eq x (suc k)) [
  | inl same ↦ rw (eq-eqb x (suc k) same) (sym same, refl)
  | inr other ↦ rw (ne_eqb x (suc k) other) (sym (omega arith), refl)
]

-- the last bool chooses one of two leaves
pub last_way : (k p x : ℕ) (old new : NumberPart) → k ≤ x → x ≤ suc k → Puts (flag p) old (nat_eq x (suc k)) new
    → Puts (ask p (λ v. if nat_eq v 1 then done (suc k) else done k)) old x new
last_way k p x old new least most h = way (done k) (done (suc k)) p (nat_eq x (suc k)) old new new x h (one_of k x new least most)
