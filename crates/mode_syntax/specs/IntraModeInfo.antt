-- What a block of an intra frame reads (6.4.6 of the standard: intra_frame_mode_info), from the blocks before it.
use Rattle.std.specs.Prelude.{ℕ, Bool, false, List, Option}
use Rattle.vp9_types.specs.Syntax.{Syntax}
use Rattle.vp9_types.specs.declared.block.IntraMode.{IntraMode}
use Rattle.vp9_types.specs.declared.block.Modes.{Modes}
use Rattle.vp9_types.specs.declared.block.TxMode.{TxMode}
use Rattle.vp9_types.specs.declared.block.TxSize.{TxSize}
use Rattle.vp9_types.specs.declared.rule.Rule.{Rule}
use Rattle.frame_headers.specs.declared.header.Header.{Header}
use Rattle.frame_headers.specs.declared.segments.Segmentation.{Segmentation}
use Rattle.prob_contexts.specs.ProbLists.{ContextLists}
use Rattle.block_plan.specs.Blocks.{above_of, left_of}
use Rattle.block_plan.specs.declared.block.BlockAt.{BlockAt}
use Rattle.block_plan.specs.declared.block.BlockInfo.{BlockInfo}
use Rattle.block_plan.specs.declared.block.Prediction.TheVariants.{Intra}
use Rattle.counting_reader.specs.Counting.{Settled, settle, uncounted, ◌>>=◌}
use Rattle.mode_syntax.specs.Elements.{intra_segment_id, skip_context, read_skip, tx_context, read_tx_size}
use Rattle.mode_syntax.specs.IntraModes.{edge_modes, default_luma_modes, last_mode, default_uv_mode}

abbrev pub intra_block : BlockAt → ℕ → Bool → TxSize → List IntraMode → IntraMode → BlockInfo
intra_block at segment skip tx luma chroma = record {
  row = at.row;
  col = at.col;
  size = at.size;
  skip = skip;
  segment = segment;
  segment_predicted = false;
  tx = tx;
  prediction = Intra (record { luma = luma; chroma = chroma });
}

-- by the blocks above and at the left
unfoldable pub mode_info_beside : Segmentation → TxMode → ContextLists → Option BlockInfo → Option BlockInfo → BlockAt → Syntax ℕ Rule (Settled BlockInfo)
mode_info_beside segmentation tx_mode contexts above left at = do
  segment ← uncounted (intra_segment_id segmentation)
  skip ← read_skip segmentation contexts.skip (skip_context above left) segment
  tx ← read_tx_size tx_mode contexts.tx (tx_context at.size above left) at.size
  luma ← uncounted (default_luma_modes at.size (edge_modes above left))
  chroma ← uncounted (default_uv_mode (last_mode luma))
  settle (intra_block at segment skip tx luma chroma)

-- by all blocks of the frame before it
unfoldable pub intra_frame_mode_info : Header → Modes → ContextLists → List BlockInfo → BlockAt → Syntax ℕ Rule (Settled BlockInfo)
intra_frame_mode_info header modes contexts earlier at =
    mode_info_beside header.params.segmentation modes.tx_mode contexts (above_of earlier at) (left_of earlier at) at
