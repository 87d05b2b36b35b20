-- What blocks say before their modes, as it is drawn (6.4.6 to 6.4.13 of the standard: intra_frame_mode_info,
-- inter_frame_mode_info).
use Rattle.std.specs.Prelude.{ℕ, Bool, true, false, ◌&&◌, not, Option, Some, None, if◌then◌else◌}
use Rattle.vp9_types.specs.declared.block.BlockSize.{BlockSize}
use Rattle.vp9_types.specs.declared.block.TxMode.{TxMode}
use Rattle.vp9_types.specs.declared.block.TxSize.{TxSize}
use Rattle.vp9_tables.specs.BlockTables.{greatest_of}
use Rattle.vp9_tables.specs.Numbers.{tx_of}
use Rattle.vp9_tables.specs.SymbolTrees.{segment_tree}
use Rattle.frame_headers.specs.declared.segments.MapUpdate.{MapUpdate}
use Rattle.frame_headers.specs.declared.segments.Segmentation.{Segmentation}
use Rattle.block_geometry.specs.BlockSizes.{greatest_allowed}
use Rattle.mode_syntax.specs.Elements.{tx_tree}
use Rattle.mode_writer.specs.ModeFits.{says_tx}
use Rattle.inter_modes.specs.BlockStarts.{segment_of}
use Rattle.inter_modes.specs.declared.starts.BlockStart.{BlockStart}
use Rattle.drawn_symbols.specs.Draws.{Drawn, stay, ◌>>=◌, draw_flag, draw_leaf}

-- a segment where the frame has segments and updates their map; else it is 0
abbrev pub draw_segment_by : Bool → Option MapUpdate → Drawn ℕ
draw_segment_by true (Some update) = draw_leaf segment_tree
draw_segment_by true None = stay 0
draw_segment_by false map = stay 0

unfoldable pub draw_segment : Segmentation → Drawn ℕ
draw_segment segmentation = draw_segment_by segmentation.enabled segmentation.map

-- a size up to a greatest one, by the tree of these
unfoldable pub draw_tx_symbol : TxSize → Drawn TxSize
draw_tx_symbol greatest = draw_leaf (tx_tree greatest) >>= λ n. stay (tx_of n)

-- where the block says it; else the greatest that is allowed
unfoldable pub draw_tx : TxMode → BlockSize → Drawn TxSize
draw_tx mode size = if says_tx mode size then draw_tx_symbol (tx_of (greatest_of size)) else stay (tx_of (greatest_allowed mode size))

-- a block that is inter and skipped doesn't say it
unfoldable pub draw_tx_if : Bool → TxMode → BlockSize → Drawn TxSize
draw_tx_if coded mode size = if coded then draw_tx mode size else stay (tx_of (greatest_allowed mode size))

abbrev pub drawn_start : ℕ → Bool → Bool → TxSize → BlockStart
drawn_start segment skip is_inter tx = record { segment = segment_of false segment; skip = skip; is_inter = is_inter; tx = tx }

-- of a block of an intra frame
unfoldable pub draw_intra_start : Segmentation → TxMode → BlockSize → Drawn BlockStart
draw_intra_start segmentation mode size = do
  segment ← draw_segment segmentation
  skip ← draw_flag
  tx ← draw_tx mode size
  stay (drawn_start segment skip false tx)

-- of a block of an inter frame
unfoldable pub draw_inter_start : Segmentation → TxMode → BlockSize → Drawn BlockStart
draw_inter_start segmentation mode size = do
  segment ← draw_segment segmentation
  skip ← draw_flag
  is_inter ← draw_flag
  tx ← draw_tx_if (not (is_inter && skip)) mode size
  stay (drawn_start segment skip is_inter tx)
