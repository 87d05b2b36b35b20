-- Band 0 is the first place alone.
use Rattle.std.proofs.Common.{◌≡◌, ◌<◌, ◌≤◌, ℕ, Bool, true, refl, arith, inl, inr}
use Rattle.std.specs.Prelude.{slice_index, nat_le, nat_eq, ◌||◌}
use Rattle.std.proofs.lemmas.Bool.{agree_below_at, leb-true, eqb-true, or_cases}
use Rattle.vp9_types.specs.declared.block.TxSize.{TxSize}
use Rattle.vp9_types.specs.declared.block.TxSize.TheVariants.{T4x4, T8x8, T16x16, T32x32}
use Rattle.vp9_tables.specs.Coefficients.{bands_of}
use Rattle.vp9_tables.specs.Scans.{area}
use Rattle.coef_tokens.specs.Fit.{StartsBands}

abbrev later_is : TxSize → ℕ → Bool
later_is size k = nat_le 1 (slice_index (bands_of size) k) || nat_eq k 0

later_by : (size : TxSize) (k : ℕ) → later_is size k ≡ true → 1 ≤ k → 1 ≤ slice_index (bands_of size) k
later_by size k is later = elim (or_cases (nat_le 1 (slice_index (bands_of size) k)) (nat_eq k 0) is) [
  | inl one ↦ leb-true 1 (slice_index (bands_of size) k) one
  | inr none ↦ let zero : k ≡ 0 = eqb-true k 0 none in absurd (omega arith)
]

bands_later : (size : TxSize) (k : ℕ) → 1 ≤ k → k < area size → 1 ≤ slice_index (bands_of size) k
bands_later T4x4 k later low = later_by T4x4 k (agree_below_at (later_is T4x4) (λ _. true) 16 k refl low) later
bands_later T8x8 k later low = later_by T8x8 k (agree_below_at (later_is T8x8) (λ _. true) 64 k refl low) later
bands_later T16x16 k later low = later_by T16x16 k (agree_below_at (later_is T16x16) (λ _. true) 256 k refl low) later
bands_later T32x32 k later low = later_by T32x32 k (agree_below_at (later_is T32x32) (λ _. true) 1024 k refl low) later

bands_first : (size : TxSize) → slice_index (bands_of size) 0 ≡ 0
bands_first T4x4 = refl
bands_first T8x8 = refl
bands_first T16x16 = refl
bands_first T32x32 = refl

pub starts_bands : (size : TxSize) → StartsBands (bands_of size) (area size)
starts_bands size = record { start = bands_first size; later = bands_later size }
