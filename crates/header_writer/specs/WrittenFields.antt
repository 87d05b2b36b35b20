-- Fields that are written as bits, one behind another, and bits as bytes.
use Rattle.std.specs.Prelude.{◌≡◌, ℕ, ◌<◌, ◌^◌, ◌++◌, List}
use Rattle.vp9_types.specs.Bits.{bits_of, spelled}
use Rattle.vp9_types.specs.Reading.{Field}
use Rattle.vp9_types.specs.Writing.{Writes}
use Rattle.frame_headers.specs.declared.field.FieldName.{FieldName}
use Rattle.frame_headers.specs.Fields.{Table}

abbrev pub fits_field : Field FieldName → ℕ → Type 0
fits_field q v = v < 2 ^ q.width

unfoldable pub with_field : Field FieldName → ℕ → List ℕ → List ℕ
with_field q v bits = bits ++ spelled q.width v

-- fields that lead the syntax to the value were put behind the bits
abbrev pub Puts : {A : Type 0} → Table A → List ℕ → A → List ℕ → Type 0
Puts s old x new = Writes fits_field with_field s old x new

-- the bytes are the bits, and then 0 bits to the end of a byte
abbrev pub IsPadded : List ℕ → List ℕ → Type 0
IsPadded bits bytes = (k : ℕ) × (k < 8) × (bits_of bytes ≡ bits ++ spelled k 0)
