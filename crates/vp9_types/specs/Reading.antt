-- How a syntax is read: by a machine that answers its questions, one after another.
use Rattle.std.specs.Prelude.{◌≡◌, ℕ, List, length, take, drop, Result, Ok, Err, nat_lt, if◌then◌else◌}
use Rattle.vp9_types.specs.Bits.{number_of}
use Rattle.vp9_types.specs.Syntax.{Syntax, done, broken, ask}

-- what was read and the machine after it, and then more from there
abbrev pub after : {E A B M : Type 0} → Result (A × M) E → (A → M → Result (B × M) E) → Result (B × M) E
after (Ok p) f = f p.0 p.1
after (Err e) f = Err e

-- a machine's answer is a number and the machine after it, or a fault
abbrev pub run : {Q E A M : Type 0} → (Q → M → Result (ℕ × M) E) → Syntax Q E A → M → Result (A × M) E
run answer (done x) m = Ok (x, m)
run answer (broken e) m = Err e
run answer (ask q k) m = after (answer q m) (λ v rest. run answer (k v) rest)

-- what the code returned, with the machine that it left, is what reading gives
abbrev pub Gives : {E A M : Type 0} → Result (A × M) E → Result A E → M → Type 0
Gives read (Ok x) rest = read ≡ Ok (x, rest)
Gives read (Err e) rest = read ≡ Err e

-- a field of a header: its name, and how many bits it has
pub record Field (N : Type 0) : Type 0 where
  pub name : N
  pub width : ℕ

-- the number that the next n bits spell; bits that aren't there any more are a fault of their own
unfoldable pub bits_at : {E : Type 0} → E → ℕ → List ℕ → Result (ℕ × List ℕ) E
bits_at past n bits = if nat_lt (length bits) n then Err past else Ok (number_of (take n bits), drop n bits)

-- the bits of a header answer for its fields
abbrev pub field_at : {N E : Type 0} → E → Field N → List ℕ → Result (ℕ × List ℕ) E
field_at past q bits = bits_at past q.width bits

-- a syntax of fields, read from bits
abbrev pub read_bits : {N E A : Type 0} → E → Syntax (Field N) E A → List ℕ → Result (A × List ℕ) E
read_bits past s bits = run (field_at past) s bits
