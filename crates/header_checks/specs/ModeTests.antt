-- Tests of the modes that a compressed header says (6.3.1 and 6.3.12 of the standard).
use Rattle.std.specs.Prelude.{Bool, true, false, not, ◌&&◌}
use Rattle.vp9_types.specs.declared.block.Modes.{Modes}
use Rattle.vp9_types.specs.declared.block.ReferenceMode.{ReferenceMode}
use Rattle.vp9_types.specs.declared.block.ReferenceMode.TheVariants.{Single}
use Rattle.vp9_types.specs.declared.block.TxMode.{TxMode}
use Rattle.vp9_types.specs.declared.block.TxMode.TheVariants.{Only4x4}
use Rattle.frame_headers.specs.Quantizer.{is_lossless}
use Rattle.frame_headers.specs.declared.header.FrameKind.{FrameKind}
use Rattle.frame_headers.specs.declared.header.FrameKind.TheVariants.{Inter}
use Rattle.frame_headers.specs.declared.header.Header.{Header}
use Rattle.compressed_header.specs.HeaderModes.{is_compound_allowed}

-- a lossless frame has 4x4 transforms alone
abbrev pub can_say_tx : Bool → TxMode → Bool
can_say_tx lossless Only4x4 = true
can_say_tx lossless _ = not lossless

-- only an inter frame with references on both sides in time has compound ones
abbrev pub can_say_references : FrameKind → ReferenceMode → Bool
can_say_references kind Single = true
can_say_references (Inter fields) _ = is_compound_allowed fields.references
can_say_references _ _ = false

-- the modes of a frame whose probabilities all stay
unfoldable pub can_say_modes : Header → Modes → Bool
can_say_modes header modes =
    can_say_tx (is_lossless header.params.quantizer) modes.tx_mode && can_say_references header.kind modes.reference_mode
