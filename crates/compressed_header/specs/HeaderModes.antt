-- The modes that the compressed header gives (6.3.1 and 6.3.12 of the standard).
use Rattle.std.specs.Prelude.{ℕ, ◌+◌, Bool, true, false, not, ◌||◌, ◌==◌, if◌then◌else◌}
use Rattle.vp9_types.specs.declared.block.TxMode.{TxMode}
use Rattle.vp9_types.specs.declared.block.TxMode.TheVariants.{Only4x4, UpTo8x8, UpTo16x16, UpTo32x32, Selected}
use Rattle.vp9_types.specs.declared.block.ReferenceMode.{ReferenceMode}
use Rattle.vp9_types.specs.declared.block.ReferenceMode.TheVariants as mode
use Rattle.vp9_types.specs.Syntax.{done, ◌>>=◌}
use Rattle.bool_decoder.specs.Bools.{literal}
use Rattle.frame_headers.specs.declared.header.References.{References}
use Rattle.frame_headers.specs.References.{same_bit}
use Rattle.compressed_header.specs.Updates.{UpdateTable}

abbrev pub tx_mode_of : ℕ → TxMode
tx_mode_of code =
    if code == 0 then Only4x4 else (if code == 1 then UpTo8x8 else (if code == 2 then UpTo16x16 else (if code == 3 then UpTo32x32 else Selected)))

-- 6.3.1
unfoldable pub read_tx_mode : Bool → UpdateTable TxMode
read_tx_mode true = done Only4x4
read_tx_mode false = do
  code ← literal 2
  if code == 3 then (literal 1 >>= λ select. done (tx_mode_of (code + select))) else done (tx_mode_of code)

-- the references aren't all on one side in time
abbrev pub is_compound_allowed : References → Bool
is_compound_allowed refs =
    not (same_bit refs.golden.sign_bias refs.last.sign_bias) || not (same_bit refs.altref.sign_bias refs.last.sign_bias)

-- 6.3.12, where compound prediction is allowed or not
unfoldable pub frame_reference_mode : Bool → UpdateTable ReferenceMode
frame_reference_mode true = do
  non_single ← literal 1
  if non_single == 0 then done mode.Single else do
    select ← literal 1
    done (if select == 0 then mode.Compound else mode.Selected)
frame_reference_mode false = done mode.Single
