-- The probabilities of transform sizes and coefficients (6.3.2, 6.3.7 and 6.3.8 of the standard).
use Rattle.std.specs.Prelude.{ℕ, Bool, true, false, List, nat_le, ◌==◌}
use Rattle.vp9_types.specs.declared.block.TxSize.{TxSize}
use Rattle.vp9_types.specs.declared.block.TxSize.TheVariants.{T4x4, T8x8, T16x16, T32x32}
use Rattle.vp9_types.specs.declared.block.TxMode.{TxMode}
use Rattle.vp9_types.specs.declared.block.TxMode.TheVariants.{Only4x4, UpTo8x8, UpTo16x16, UpTo32x32, Selected}
use Rattle.vp9_types.specs.Syntax.{done, ◌>>=◌}
use Rattle.vp9_types.specs.Each.{each}
use Rattle.vp9_tables.specs.Numbers.{tx_number, tx_mode_number}
use Rattle.bool_decoder.specs.Bools.{literal}
use Rattle.compressed_header.specs.Updates.{UpdateTable, diff_update_prob, updates_if}
use Rattle.prob_contexts.specs.ProbLists.{TxLists, CoefLists}

-- 6.3.2
unfoldable pub tx_mode_probs : TxLists → UpdateTable TxLists
tx_mode_probs old = do
  of_8x8 ← each diff_update_prob old.of_8x8
  of_16x16 ← each diff_update_prob old.of_16x16
  of_32x32 ← each diff_update_prob old.of_32x32
  done (record { of_8x8 = of_8x8; of_16x16 = of_16x16; of_32x32 = of_32x32 })

-- they are read where blocks say which size they have
unfoldable pub tx_probs_of : TxMode → TxLists → UpdateTable TxLists
tx_probs_of Selected old = tx_mode_probs old
tx_probs_of Only4x4 old = done old
tx_probs_of UpTo8x8 old = done old
tx_probs_of UpTo16x16 old = done old
tx_probs_of UpTo32x32 old = done old

-- the coefficients of a size, if the mode allows it
unfoldable pub size_coef_probs : Bool → List ℕ → UpdateTable (List ℕ)
size_coef_probs true probs = do
  update ← literal 1
  updates_if (update == 1) probs
size_coef_probs false probs = done probs

-- tx_mode_to_biggest_tx_size: the greatest size of mode 0 is 4x4, of mode 1 8x8, of mode 2 16x16, of modes 3 and 4 32x32
abbrev pub allows : TxMode → TxSize → Bool
allows mode size = nat_le (tx_number size) (tx_mode_number mode)

-- 6.3.7, size after size
unfoldable pub read_coef_probs : TxMode → CoefLists → UpdateTable CoefLists
read_coef_probs mode old = do
  of_4x4 ← size_coef_probs (allows mode T4x4) old.of_4x4
  of_8x8 ← size_coef_probs (allows mode T8x8) old.of_8x8
  of_16x16 ← size_coef_probs (allows mode T16x16) old.of_16x16
  of_32x32 ← size_coef_probs (allows mode T32x32) old.of_32x32
  done (record { of_4x4 = of_4x4; of_8x8 = of_8x8; of_16x16 = of_16x16; of_32x32 = of_32x32 })

-- 6.3.8
unfoldable pub read_skip_prob : List ℕ → UpdateTable (List ℕ)
read_skip_prob probs = each diff_update_prob probs
