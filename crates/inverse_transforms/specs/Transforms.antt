-- The transforms: the DCT (8.7.1.2 and 8.7.1.3 of the standard), the ADST (8.7.1.4 to 8.7.1.9), the WHT (8.7.1.10).
use Rattle.std.specs.Prelude.{◌≡◌, ℕ, ◌-◌, ◌^◌, length, ℤ, pos, ◌+ℤ◌, ◌-ℤ◌, ◌*ℤ◌, true, ◌&&◌, List, Result, if◌then◌else◌, nat_eq, slice_index_or}
use Rattle.std.specs.Int.{int_shr}
use Rattle.vp9_types.specs.declared.rule.Rule.{Rule}
use Rattle.vp9_types.specs.declared.block.TxSize.{TxSize}
use Rattle.vp9_types.specs.declared.block.TxSize.TheVariants.{T4x4, T8x8, T16x16, T32x32}
use Rattle.vp9_tables.specs.declared.flow_row.FlowRow.{FlowRow}
use Rattle.vp9_tables.specs.declared.data.cosines.TheConstants.{SINPI}
use Rattle.vp9_tables.specs.declared.data.flows.TheConstants.{FLOW_ADST_8, FLOW_ADST_16}
use Rattle.vp9_tables.specs.TransformTables.{dct_of}
use Rattle.inverse_transforms.specs.declared.values.Four.{Four}
use Rattle.inverse_transforms.specs.Ranges.{fits, round14}
use Rattle.inverse_transforms.specs.Flow.{at, wide, store_four, run_flow}

-- of 2 ^ log2 values
abbrev pub size_of_log2 : ℕ → TxSize
size_of_log2 log2 =
    if nat_eq log2 2 then T4x4 else (if nat_eq log2 3 then T8x8 else (if nat_eq log2 4 then T16x16 else T32x32))

unfoldable pub dct : ℕ → ℕ → List ℤ → Result (List ℤ) Rule
dct limit log2 xs = run_flow limit (dct_of (size_of_log2 log2)) xs

-- SINPI_k_9
abbrev pub sin9 : ℕ → ℤ
sin9 k = slice_index_or SINPI (k - 1) (pos 0)

-- the ADST of 4: three sums that aren't rounded, a difference that is tested as a stored value is, and the four values
-- that are made of them
abbrev pub even_part : ℤ → ℤ → ℤ → ℤ
even_part x0 x2 x3 = ((x0 *ℤ sin9 1) +ℤ (x2 *ℤ sin9 4)) +ℤ (x3 *ℤ sin9 2)

abbrev pub odd_part : ℤ → ℤ → ℤ → ℤ
odd_part x0 x2 x3 = ((x0 *ℤ sin9 2) -ℤ (x2 *ℤ sin9 1)) -ℤ (x3 *ℤ sin9 4)

abbrev pub middle_part : ℤ → ℤ
middle_part x1 = x1 *ℤ sin9 3

abbrev pub difference_part : ℤ → ℤ → ℤ → ℤ
difference_part x0 x2 x3 = (x0 -ℤ x2) +ℤ x3

unfoldable pub adst_quad : ℕ → ℤ → ℤ → ℤ → ℤ → Four
adst_quad limit x0 x1 x2 x3 = record {
  in_range = wide limit (even_part x0 x2 x3) && (wide limit (odd_part x0 x2 x3) && (wide limit (middle_part x1) && fits limit (difference_part x0 x2 x3)));
  first = round14 (even_part x0 x2 x3 +ℤ middle_part x1);
  second = round14 (odd_part x0 x2 x3 +ℤ middle_part x1);
  third = round14 (difference_part x0 x2 x3 *ℤ sin9 3);
  fourth = round14 ((even_part x0 x2 x3 +ℤ odd_part x0 x2 x3) -ℤ middle_part x1);
}

unfoldable pub adst_of_4 : ℕ → List ℤ → Result (List ℤ) Rule
adst_of_4 limit xs = store_four limit xs 0 1 2 3 (adst_quad limit (at xs 0) (at xs 1) (at xs 2) (at xs 3))

abbrev pub adst_rows : ℕ → List FlowRow
adst_rows log2 = if nat_eq log2 3 then FLOW_ADST_8 else FLOW_ADST_16

unfoldable pub adst : ℕ → ℕ → List ℤ → Result (List ℤ) Rule
adst limit log2 xs = if nat_eq log2 2 then adst_of_4 limit xs else run_flow limit (adst_rows log2) xs

-- the WHT lifts a, c, d, b, the four values in their order: a += c, d -= b, e = (a - d) >> 1, b = e - b, c = e - c,
-- a -= b, d += c; its outputs are a, b, c, d
unfoldable pub last_lifts : ℤ → ℤ → ℤ → ℤ → Four
last_lifts a b c d = record { in_range = true; first = a -ℤ b; second = b; third = c; fourth = d +ℤ c }

unfoldable pub middle_lifts : ℤ → ℤ → ℤ → ℤ → Four
middle_lifts a b c d = let e = int_shr (a -ℤ d) 1 in last_lifts a (e -ℤ b) (e -ℤ c) d

unfoldable pub first_lifts : ℤ → ℤ → ℤ → ℤ → Four
first_lifts a c d b = middle_lifts (a +ℤ c) b c (d -ℤ b)

unfoldable pub wht_quad : ℕ → ℤ → ℤ → ℤ → ℤ → Four
wht_quad shift x0 x1 x2 x3 = first_lifts (int_shr x0 shift) (int_shr x1 shift) (int_shr x2 shift) (int_shr x3 shift)

unfoldable pub wht : ℕ → ℕ → List ℤ → Result (List ℤ) Rule
wht limit shift xs = store_four limit xs 0 1 2 3 (wht_quad shift (at xs 0) (at xs 1) (at xs 2) (at xs 3))

-- rows that are the DCT of all lists of 2 ^ log2 values, and rows that are the ADST
unfoldable pub AreDct : ℕ → List FlowRow → Type 0
AreDct log2 rows = (limit : ℕ) (xs : List ℤ) → length xs ≡ 2 ^ log2 → run_flow limit rows xs ≡ dct limit log2 xs

unfoldable pub AreAdst : ℕ → List FlowRow → Type 0
AreAdst log2 rows = (limit : ℕ) (xs : List ℤ) → length xs ≡ 2 ^ log2 → run_flow limit rows xs ≡ adst limit log2 xs
