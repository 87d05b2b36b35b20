-- What is read as bools: a question is a probability, and its answer is 0 or 1.
use Rattle.std.specs.Prelude.{◌≡◌, ℕ, zero, suc, ◌+◌, ◌-◌, ◌*◌, Bool, Result, Ok, nat_eq, nat_lt, if◌then◌else◌}
use Rattle.vp9_types.specs.Syntax.{Syntax, done, ask, ◌>>=◌}
use Rattle.vp9_types.specs.Reading.{run}
use Rattle.vp9_types.specs.declared.rule.Rule.{Rule}
use Rattle.bool_decoder.specs.Coder.{Coder, bool_of, after_bool}
use Rattle.bool_decoder.specs.Window.{Window, bit_of, after_bit}

abbrev pub bool_answer : {E : Type 0} → ℕ → Window → Result (ℕ × Window) E
bool_answer p w = Ok (bit_of p w, after_bit p w)

abbrev pub coder_answer : {E : Type 0} → ℕ → Coder → Result (ℕ × Coder) E
coder_answer p c = Ok (bool_of p c, after_bool p c)

abbrev pub run_bools : {E A : Type 0} → Syntax ℕ E A → Window → Result (A × Window) E
run_bools s w = run bool_answer s w

abbrev pub run_coder : {E A : Type 0} → Syntax ℕ E A → Coder → Result (A × Coder) E
run_coder s c = run coder_answer s c

-- the syntax settles on x, and leaves the window so
abbrev pub Reads : {A : Type 0} → Syntax ℕ Rule A → Window → A → Window → Type 0
Reads s old x new = run_bools s old ≡ Ok (x, new)

-- one bool, B(p)
unfoldable pub flag : {E : Type 0} → ℕ → Syntax ℕ E Bool
flag p = ask p (λ v. done (nat_eq v 1))

-- n bools at 128 behind a number: each doubles the number before it
unfoldable pub literal_from : {E : Type 0} → ℕ → ℕ → Syntax ℕ E ℕ
literal_from zero x = done x
literal_from (suc n) x = ask 128 (λ v. literal_from n (2 * x + v))

-- L(n), most significant first (9.2.4 of the standard)
unfoldable pub literal : {E : Type 0} → ℕ → Syntax ℕ E ℕ
literal n = literal_from n 0

-- the last case of a difference: from 65 on a number is in pairs, and one more bit says which of the two
unfoldable pub wide_difference : {E : Type 0} → ℕ → Syntax ℕ E ℕ
wide_difference v =
    if nat_lt v 65 then done (v + 64) else (literal 1 >>= λ extra. done (2 * v - 1 + extra))

-- decode_term_subexp (6.3.4 of the standard)
unfoldable pub difference : {E : Type 0} → Syntax ℕ E ℕ
difference = do
  above_16 ← literal 1
  if nat_eq above_16 0 then literal 4 else do
    above_32 ← literal 1
    if nat_eq above_32 0 then (literal 4 >>= λ v. done (v + 16)) else do
      above_64 ← literal 1
      if nat_eq above_64 0 then (literal 5 >>= λ v. done (v + 32)) else (literal 7 >>= wide_difference)
