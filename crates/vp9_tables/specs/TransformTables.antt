-- The constants of the transforms and the steps of their flows (8.7.1 of the standard).
use Rattle.std.specs.Prelude.{ℕ, ◌-◌, ℤ, pos, neg_ℤ, ◌+ℤ◌, ◌*ℤ◌, ◌-ℤ◌, ◌^◌, unsigned_abs, Bool, ◌&&◌, not, List, take, slice_index_or, nat_eq, nat_lt, nat_le, if◌then◌else◌}
use Rattle.std.specs.List.{list_all, list_any, range_with_len}
use Rattle.vp9_types.specs.declared.block.TxSize.{TxSize}
use Rattle.vp9_types.specs.declared.block.TxSize.TheVariants.{T4x4, T8x8, T16x16, T32x32}
use Rattle.vp9_tables.specs.declared.flow_row.FlowRow.{FlowRow}
use Rattle.vp9_tables.specs.declared.flow_row.FlowRow.TheVariants.{Perm, Rot, Sum, Neg, Wide}
use Rattle.vp9_tables.specs.declared.data.cosines.TheConstants.{COS64}
use Rattle.vp9_tables.specs.declared.data.flows.TheConstants.{FLOW_DCT_4, FLOW_DCT_8, FLOW_DCT_16, FLOW_DCT_32}

abbrev pub cos64 : ℕ → ℤ
cos64 k = slice_index_or COS64 k (pos 0)

-- all around the circle, k below 128: the second quarter is the first one backwards below 0, and the second half the
-- first one backwards
abbrev pub cosine_of : ℕ → ℤ
cosine_of k =
    if nat_le k 32 then cos64 k
    else (if nat_le k 64 then neg_ℤ (cos64 (64 - k))
    else (if nat_le k 96 then neg_ℤ (cos64 (k - 64)) else cos64 (128 - k)))

-- cosine and sine of k, squared, are 16384 squared but for what rounding takes
abbrev pub is_on_circle : ℕ → Bool
is_on_circle k =
    nat_le (unsigned_abs (((cos64 k *ℤ cos64 k) +ℤ (cos64 (32 - k) *ℤ cos64 (32 - k))) -ℤ pos (2 ^ 28))) (2 ^ 15)

-- two different places below n
abbrev pub is_pair : ℕ → ℕ → ℕ → Bool
is_pair n a b = nat_lt a n && (nat_lt b n && not (nat_eq a b))

abbrev pub is_angle : ℕ → Bool
is_angle k = nat_lt k 128

-- each place below n stands among the first n
abbrev pub is_order : ℕ → List ℕ → Bool
is_order n order = list_all (λ place. list_any (nat_eq place) (take n order)) (range_with_len 0 n)

-- a step on n coefficients
abbrev pub is_step : ℕ → FlowRow → Bool
is_step n (Perm order) = is_order n order
is_step n (Rot a b angle) = is_pair n a b && is_angle angle
is_step n (Sum a b) = is_pair n a b
is_step n (Neg a) = nat_lt a n
is_step n (Wide a b first c d second) =
    is_pair n a b && (is_pair n c d && (is_pair n a c && (is_pair n b d && (is_pair n a d && (is_pair n b c && (is_angle first && is_angle second))))))

abbrev pub is_flow : ℕ → List FlowRow → Bool
is_flow n rows = list_all (is_step n) rows

abbrev pub dct_of : TxSize → List FlowRow
dct_of T4x4 = FLOW_DCT_4
dct_of T8x8 = FLOW_DCT_8
dct_of T16x16 = FLOW_DCT_16
dct_of T32x32 = FLOW_DCT_32
