-- The modes that a frame's compressed header says (6.3.1 and 6.3.12 of the standard), as they are drawn.
use Rattle.std.specs.Prelude.{Bool, if◌then◌else◌}
use Rattle.vp9_types.specs.declared.block.Modes.{Modes}
use Rattle.vp9_types.specs.declared.block.ReferenceMode.{ReferenceMode}
use Rattle.vp9_types.specs.declared.block.ReferenceMode.TheVariants as mode
use Rattle.vp9_types.specs.declared.block.TxMode.{TxMode}
use Rattle.vp9_types.specs.declared.block.TxMode.TheVariants.{Only4x4}
use Rattle.frame_headers.specs.Quantizer.{is_lossless}
use Rattle.frame_headers.specs.declared.header.FrameKind.{FrameKind}
use Rattle.frame_headers.specs.declared.header.FrameKind.TheVariants.{Key, IntraOnly, Inter}
use Rattle.frame_headers.specs.declared.header.Header.{Header}
use Rattle.compressed_header.specs.HeaderModes.{tx_mode_of, is_compound_allowed}
use Rattle.drawn_symbols.specs.Draws.{Drawn, stay, ◌>>=◌, draw}

-- a lossless frame has 4x4 transforms alone
unfoldable pub draw_tx_mode : Bool → Drawn TxMode
draw_tx_mode lossless = if lossless then stay Only4x4 else (draw 5 >>= λ code. stay (tx_mode_of code))

-- blocks choose where compound references are allowed
abbrev pub reference_mode : FrameKind → ReferenceMode
reference_mode Key = mode.Single
reference_mode IntraOnly = mode.Single
reference_mode (Inter fields) = if is_compound_allowed fields.references then mode.Selected else mode.Single

unfoldable pub draw_frame_modes : Header → Drawn Modes
draw_frame_modes header = do
  tx ← draw_tx_mode (is_lossless header.params.quantizer)
  stay (record { tx_mode = tx; reference_mode = reference_mode header.kind })
