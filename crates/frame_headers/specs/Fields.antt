-- Fields of a header: f(n) is n bits, su(n) is n bits and a sign (4.10 of the standard).
use Rattle.std.specs.Prelude.{◌≡◌, ℕ, ℤ, pos, ◌-ℤ◌, List, Bool, ◌==◌, Result, Ok, Err, if◌then◌else◌}
use Rattle.vp9_types.specs.declared.rule.Rule.{Rule}
use Rattle.vp9_types.specs.declared.rule.Rule.TheVariants.{HeaderTruncated}
use Rattle.vp9_types.specs.Syntax.{Syntax, done, ask, ◌>>=◌}
use Rattle.vp9_types.specs.Reading.{Field, Gives, read_bits}
use Rattle.frame_headers.specs.declared.field.FieldName.{FieldName}
use Rattle.frame_headers.specs.declared.field.FieldName.TheVariants.{Sign}

-- a syntax table of the header
abbrev pub Table : Type 0 → Type 0
Table A = Syntax (Field FieldName) Rule A

-- a field that reaches past the frame
abbrev pub past : Rule
past = HeaderTruncated

unfoldable pub f : FieldName → ℕ → Table ℕ
f name width = ask (record { name = name; width = width }) done

-- a field of one bit
unfoldable pub flag_field : FieldName → Table Bool
flag_field name = do
  bit ← f name 1
  done (bit == 1)

-- what the code returned, and the bits that it left, are what the syntax reads
abbrev pub Reads : {A : Type 0} → Table A → List ℕ → Result A Rule → List ℕ → Type 0
Reads s old result new = Gives (read_bits past s old) result new

-- the same, where the code puts what it reads into a place
abbrev pub ReadsInto : {A : Type 0} → Table A → List ℕ → Result (Unit {0}) Rule → A → List ℕ → Type 0
ReadsInto s old (Ok u) x new = read_bits past s old ≡ Ok (x, new)
ReadsInto s old (Err e) x new = read_bits past s old ≡ Err e

-- a number of n bits and its sign
unfoldable pub su : FieldName → ℕ → Table ℤ
su name n = do
  magnitude ← f name n
  negative ← flag_field Sign
  done (if negative then pos 0 -ℤ pos magnitude else pos magnitude)
