-- The compressed header (6.3 of the standard).
use Rattle.std.specs.Prelude.{◌≡◌, ℕ, List, Result, Ok, Err}
use Rattle.vp9_types.specs.declared.rule.Rule.{Rule}
use Rattle.vp9_types.specs.declared.block.Modes.{Modes}
use Rattle.vp9_types.specs.declared.block.ReferenceMode.{ReferenceMode}
use Rattle.vp9_types.specs.declared.block.ReferenceMode.TheVariants.{Single}
use Rattle.vp9_types.specs.Syntax.{done, ◌>>=◌}
use Rattle.frame_headers.specs.declared.header.FrameKind.{FrameKind}
use Rattle.frame_headers.specs.declared.header.FrameKind.TheVariants.{Key, IntraOnly, Inter}
use Rattle.frame_headers.specs.declared.header.Header.{Header}
use Rattle.frame_headers.specs.declared.header.InterFields.{InterFields}
use Rattle.frame_headers.specs.Quantizer.{is_lossless}
use Rattle.bool_decoder.specs.Bools.{run_bools}
use Rattle.bool_decoder.specs.Window.{Window, started}
use Rattle.prob_contexts.specs.declared.contexts.Contexts.{Contexts}
use Rattle.compressed_header.specs.Updates.{UpdateTable}
use Rattle.prob_contexts.specs.ProbLists.{ContextLists, lists_of}
use Rattle.compressed_header.specs.HeaderModes.{read_tx_mode}
use Rattle.compressed_header.specs.TransformProbs.{tx_probs_of, read_coef_probs, read_skip_prob}
use Rattle.compressed_header.specs.ReferenceProbs.{inter_probs, read_partition_probs}
use Rattle.compressed_header.specs.VectorProbs.{mv_probs}

-- what inter frames have besides
unfoldable pub inter_part : InterFields → ContextLists → UpdateTable (ContextLists × ReferenceMode)
inter_part fields old = do
  inter ← inter_probs fields old.inter
  partitions ← read_partition_probs old.partitions
  vectors ← mv_probs fields.high_precision old.vectors
  done (record old { inter = inter.0; partitions = partitions; vectors = vectors }, inter.1)

-- intra frames have no more than what all frames have
unfoldable pub kind_part : FrameKind → ContextLists → UpdateTable (ContextLists × ReferenceMode)
kind_part Key old = done (old, Single)
kind_part IntraOnly old = done (old, Single)
kind_part (Inter fields) old = inter_part fields old

-- 6.3
unfoldable pub compressed_header : Header → ContextLists → UpdateTable (ContextLists × Modes)
compressed_header header before = do
  tx_mode ← read_tx_mode (is_lossless header.params.quantizer)
  tx ← tx_probs_of tx_mode before.tx
  coef ← read_coef_probs tx_mode before.coef
  skip ← read_skip_prob before.skip
  updated ← kind_part header.kind (record before { tx = tx; coef = coef; skip = skip })
  done (updated.0, record { tx_mode = tx_mode; reference_mode = updated.1 })

-- what a syntax settles on from a decoder's start on, whatever follows it
abbrev pub settled : {A : Type 0} → Result (A × Window) Rule → Result A Rule
settled (Ok p) = Ok p.0
settled (Err rule) = Err rule

abbrev pub read_from : {A : Type 0} → UpdateTable A → Result Window Rule → Result A Rule
read_from s (Ok w) = settled (run_bools s w)
read_from s (Err rule) = Err rule

-- The forward update of the contexts, and the modes: what the bytes of a compressed header make of the contexts before.
unfoldable pub forward : Header → ContextLists → List ℕ → Result (ContextLists × Modes) Rule
forward header before bytes = read_from (compressed_header header before) (started bytes)

-- Nothing fails but the decoder's start.
abbrev pub IsForward : Header → Contexts → List ℕ → Result (Contexts × Modes) Rule → Type 0
IsForward header before bytes (Ok p) = forward header (lists_of before) bytes ≡ Ok (lists_of p.0, p.1)
IsForward header before bytes (Err rule) = started bytes ≡ Err rule
