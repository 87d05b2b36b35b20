-- Transform sizes by number.
use Rattle.std.proofs.Common.{◌≡◌, ℕ, refl}
use Rattle.vp9_types.specs.declared.block.TxSize.{TxSize}
use Rattle.vp9_types.specs.declared.block.TxSize.TheVariants.{T4x4, T8x8, T16x16, T32x32}
use Rattle.vp9_tables.specs.Numbers.{tx_number, tx_of}

pub tx_of_number : (tx : TxSize) (n : ℕ) → tx_number tx ≡ n → tx ≡ tx_of n
tx_of_number T4x4 n is = rw (← is) refl
tx_of_number T8x8 n is = rw (← is) refl
tx_of_number T16x16 n is = rw (← is) refl
tx_of_number T32x32 n is = rw (← is) refl
