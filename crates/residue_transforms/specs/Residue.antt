-- From levels to residue: dequantisation (8.6.2 of the standard), then the transforms of rows and columns (8.7.2).
use Rattle.std.specs.Prelude.{ℕ, ◌/◌, ◌^◌, ℤ, pos, ◌+ℤ◌, ◌*ℤ◌, Bool, true, false, List, map, Result, Ok, Err, if◌then◌else◌, nat_eq, nat_le, ◌&&◌, int_div, length, unsigned_abs, ◌<◌, ◌≡◌}
use Rattle.std.specs.Int.{int_shr}
use Rattle.std.specs.List.{list_all, range_with_len}
use Rattle.vp9_types.specs.declared.rule.Rule.{Rule}
use Rattle.vp9_types.specs.declared.rule.Rule.TheVariants.{CoefRange}
use Rattle.vp9_types.specs.declared.block.TxSize.{TxSize}
use Rattle.vp9_types.specs.declared.block.TxSize.TheVariants.{T4x4, T8x8, T16x16, T32x32}
use Rattle.vp9_types.specs.declared.block.TxType.{TxType}
use Rattle.vp9_types.specs.declared.block.TxType.TheVariants.{DctDct, AdstDct, DctAdst, AdstAdst}
use Rattle.vp9_types.specs.Sizes.{side}
use Rattle.inverse_transforms.specs.Ranges.{fits, limit_of}
use Rattle.inverse_transforms.specs.Flow.{at, and_then}
use Rattle.inverse_transforms.specs.Transforms.{dct, adst, wht}
use Rattle.residue_transforms.specs.declared.quant.Quant.{Quant}
use Rattle.residue_transforms.specs.declared.kind.Kind.{Kind}
use Rattle.residue_transforms.specs.declared.kind.Kind.TheVariants.{Cosines, Sines, LiftsOfRows, LiftsOfColumns}
use Rattle.residue_transforms.specs.SquareBlocks.{each_row_turned}

-- the first place of every scan is position 0
abbrev pub quantiser : Quant → ℕ → ℕ
quantiser quant place = if nat_eq place 0 then quant.dc else quant.ac

-- the magnitude is halved at 32x32, rounded down
abbrev pub scaled : TxSize → ℤ → ℤ
scaled T32x32 x = int_div x (pos 2)
scaled _ x = x

unfoldable pub coefficient : Quant → TxSize → ℕ → ℤ → ℤ
coefficient quant tx place level = scaled tx (level *ℤ pos (quantiser quant place))

abbrev pub coefficients : Quant → TxSize → List ℤ → List ℤ
coefficients quant tx levels = map (λ place. coefficient quant tx place (at levels place)) (range_with_len 0 (length levels))

-- what a token can be
abbrev pub IsLevel : ℤ → Type 0
IsLevel x = unsigned_abs x < 2 ^ 20

-- a value that fits is kept, and another one breaks rule 22
abbrev pub Fitting : ℕ → ℤ → Result ℤ Rule → Type 0
Fitting limit x (Ok y) = (fits limit x ≡ true) × (y ≡ x)
Fitting limit x (Err rule) = (fits limit x ≡ false) × (rule ≡ CoefRange)

-- all values fit, and are what the levels become; or one doesn't
abbrev pub Dequantises : Quant → TxSize → List ℤ → Result (Unit {0}) Rule → List ℤ → Type 0
Dequantises quant tx levels (Ok _) new =
    (list_all (fits (limit_of quant.depth)) (coefficients quant tx levels) ≡ true) × (new ≡ coefficients quant tx levels)
Dequantises quant tx levels (Err rule) new =
    (list_all (fits (limit_of quant.depth)) (coefficients quant tx levels) ≡ false) × (rule ≡ CoefRange)

abbrev pub log2_of : TxSize → ℕ
log2_of T4x4 = 2
log2_of T8x8 = 3
log2_of T16x16 = 4
log2_of T32x32 = 5

unfoldable pub transform : Kind → ℕ → ℕ → List ℤ → Result (List ℤ) Rule
transform Cosines limit log2 xs = dct limit log2 xs
transform Sines limit log2 xs = adst limit log2 xs
transform LiftsOfRows limit log2 xs = wht limit 2 xs
transform LiftsOfColumns limit log2 xs = wht limit 0 xs

-- a transform of 2 ^ log2 values
abbrev pub has_size : Kind → ℕ → Bool
has_size Cosines log2 = nat_le 2 log2 && nat_le log2 5
has_size Sines log2 = nat_le 2 log2 && nat_le log2 4
has_size LiftsOfRows log2 = nat_eq log2 2
has_size LiftsOfColumns log2 = nat_eq log2 2

-- the transform of rows: the second of a kind's two names; 32 values have the DCT alone
abbrev pub by_rows : TxType → Kind
by_rows DctDct = Cosines
by_rows AdstDct = Cosines
by_rows DctAdst = Sines
by_rows AdstAdst = Sines

abbrev pub by_columns : TxType → Kind
by_columns DctDct = Cosines
by_columns AdstDct = Sines
by_columns DctAdst = Cosines
by_columns AdstAdst = Sines

-- a lossless frame has 4x4 blocks alone, with the WHT
abbrev pub kind_of_rows : Bool → TxSize → TxType → Kind
kind_of_rows true T4x4 kind = LiftsOfRows
kind_of_rows lossless T32x32 kind = Cosines
kind_of_rows lossless tx kind = by_rows kind

abbrev pub kind_of_columns : Bool → TxSize → TxType → Kind
kind_of_columns true T4x4 kind = LiftsOfColumns
kind_of_columns lossless T32x32 kind = Cosines
kind_of_columns lossless tx kind = by_columns kind

-- by so many bits the residue is rounded
abbrev pub rounding_bits : Bool → TxSize → ℕ
rounding_bits true T4x4 = 0
rounding_bits lossless T4x4 = 4
rounding_bits lossless T8x8 = 5
rounding_bits lossless T16x16 = 6
rounding_bits lossless T32x32 = 6

-- Round2(x, bits)
unfoldable pub round : ℕ → ℤ → ℤ
round bits x = int_shr (x +ℤ pos (2 ^ bits / 2)) bits

abbrev pub rounded_by : ℕ → Result (List ℤ) Rule → Result (List ℤ) Rule
rounded_by bits (Ok xs) = Ok (map (round bits) xs)
rounded_by bits (Err rule) = Err rule

abbrev pub rounded_transform : Kind → ℕ → ℕ → ℕ → List ℤ → Result (List ℤ) Rule
rounded_transform kind limit log2 bits xs = rounded_by bits (transform kind limit log2 xs)

-- what is made of each row becomes a column; so the columns of that stand as rows, and what is made of them, rounded,
-- are columns again
unfoldable pub reconstructed : Quant → TxSize → TxType → List ℤ → Result (List ℤ) Rule
reconstructed quant tx kind xs =
    and_then (each_row_turned (transform (kind_of_rows quant.lossless tx kind) (limit_of quant.depth) (log2_of tx)) (side tx) xs)
    (each_row_turned (rounded_transform (kind_of_columns quant.lossless tx kind) (limit_of quant.depth) (log2_of tx) (rounding_bits quant.lossless tx)) (side tx))

-- all values fit, or the first in scan order that doesn't gives rule 22, which is the same whichever it is
unfoldable pub residue : Quant → TxSize → TxType → List ℤ → Result (List ℤ) Rule
residue quant tx kind levels =
    if list_all (fits (limit_of quant.depth)) (coefficients quant tx levels) then reconstructed quant tx kind (coefficients quant tx levels)
    else Err CoefRange
