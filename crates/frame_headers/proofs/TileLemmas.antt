-- The search for the least number, and the columns that are doubled one by one.
use Rattle.std.proofs.lemmas.Bool.{agree_below, agree_below_at, eqb-true, and_parts, leb-true}
use Rattle.std.specs.Prelude.{nat_le, ◌&&◌}
use Rattle.std.proofs.Common.{◌≡◌, ℕ, suc, ◌+◌, ◌-◌, ◌*◌, ◌%◌, ◌^◌, ◌<◌, ◌≤◌, List, refl, arith, Bool, true, false, zero}
use Rattle.std.specs.Prelude.{Ok, Err, nat_eq}
use Rattle.vp9_types.specs.Reading.{field_at, read_bits}
use Rattle.vp9_types.specs.declared.rule.Rule.{Rule}
use Rattle.vp9_types.proofs.Runs.{run_bind}
use Rattle.frame_headers.specs.declared.field.FieldName.TheVariants as name
use Rattle.frame_headers.specs.Fields.{flag_field, past}
use Rattle.frame_headers.specs.Tiles.{least, more_columns}

one_more_left : (m n : ℕ) → n < m → m - n ≡ suc (m - (n + 1))
one_more_left m n h = omega arith

pub least_later : (test : ℕ → Bool) (m n : ℕ) → n < m → test n ≡ false → least test (m - n) n ≡ least test (m - (n + 1)) (n + 1)
least_later test m n h fails = rw (one_more_left m n h, fails) refl

pub columns_more : (greatest log2 : ℕ) (bits rest : List ℕ) → log2 < greatest → read_bits past (flag_field name.IncrementTileColsLog2) bits ≡ Ok (true, rest)
    → read_bits past (more_columns (greatest - log2) log2) bits ≡ read_bits past (more_columns (greatest - (log2 + 1)) (log2 + 1)) rest
unfolding more_columns
columns_more greatest log2 bits rest low h =
    rw (one_more_left greatest log2 low, run_bind (field_at past) (flag_field name.IncrementTileColsLog2), h) refl

pub columns_stop : (greatest log2 : ℕ) (bits rest : List ℕ) → log2 < greatest → read_bits past (flag_field name.IncrementTileColsLog2) bits ≡ Ok (false, rest)
    → read_bits past (more_columns (greatest - log2) log2) bits ≡ Ok (log2, rest)
unfolding more_columns
columns_stop greatest log2 bits rest low h =
    rw (one_more_left greatest log2 low, run_bind (field_at past) (flag_field name.IncrementTileColsLog2), h) refl

pub columns_fail : (greatest log2 : ℕ) (bits : List ℕ) (e : Rule) → log2 < greatest → read_bits past (flag_field name.IncrementTileColsLog2) bits ≡ Err e
    → read_bits past (more_columns (greatest - log2) log2) bits ≡ Err e
unfolding more_columns
columns_fail greatest log2 bits e low h =
    rw (one_more_left greatest log2 low, run_bind (field_at past) (flag_field name.IncrementTileColsLog2), h) refl

pub columns_end : (greatest log2 : ℕ) (bits : List ℕ) → greatest ≤ log2 → read_bits past (more_columns (greatest - log2) log2) bits ≡ Ok (log2, bits)
unfolding more_columns
columns_end greatest log2 bits h = let e : greatest - log2 ≡ 0 = omega arith in rw e refl

-- the shift loses no bit
pub shift_whole : (n : ℕ) → n < 8 → 64 * 2 ^ n % 4294967296 ≡ 64 * 2 ^ n
shift_whole n h = eqb-true _ _ (agree_below_at (λ k. nat_eq (64 * 2 ^ k % 4294967296) (64 * 2 ^ k)) (λ _. true) 8 n refl h)

pub power_whole : (n : ℕ) → n ≤ 8 → 2 ^ n % 4294967296 ≡ 2 ^ n
power_whole n h = eqb-true _ _ (agree_below_at (λ k. nat_eq (2 ^ k % 4294967296) (2 ^ k)) (λ _. true) 9 n refl (omega arith))

-- at most 1024 tiles, at least one
in_bounds : (n : ℕ) → nat_le 1 n && nat_le n 1024 ≡ true → (1 ≤ n) × (n ≤ 1024)
in_bounds n h = let parts = and_parts (nat_le 1 n) (nat_le n 1024) h in (leb-true 1 n parts.0, leb-true n 1024 parts.1)

columns_times : (k c : ℕ) → agree_below (λ m. nat_le 1 (2 ^ m * k) && nat_le (2 ^ m * k) 1024) (λ _. true) 9 ≡ true → c ≤ 8 → (1 ≤ 2 ^ c * k) × (2 ^ c * k ≤ 1024)
columns_times k c all h = in_bounds (2 ^ c * k) (agree_below_at (λ m. nat_le 1 (2 ^ m * k) && nat_le (2 ^ m * k) 1024) (λ _. true) 9 c all (omega arith))

pub few_tiles : (c r : ℕ) → c ≤ 8 → r ≤ 2 → (1 ≤ 2 ^ c * 2 ^ r) × (2 ^ c * 2 ^ r ≤ 1024)
few_tiles c zero hc hr = columns_times 1 c refl hc
few_tiles c (suc zero) hc hr = columns_times 2 c refl hc
few_tiles c (suc (suc zero)) hc hr = columns_times 4 c refl hc
few_tiles c (suc (suc (suc r))) hc hr = absurd (omega arith)
