-- What blocks of inter frames can say.
use Rattle.std.specs.Prelude.{◌≡◌, ℕ, ◌≤◌, Bool, true, false, ◌&&◌, not, List, Option, Some, None, IfOk}
use Rattle.std.specs.Option.{is_some}
use Rattle.vp9_types.specs.declared.block.BlockSize.{BlockSize}
use Rattle.vp9_types.specs.declared.block.Modes.{Modes}
use Rattle.vp9_types.specs.declared.block.ReferenceMode.{ReferenceMode}
use Rattle.vp9_types.specs.declared.block.ReferenceMode.TheVariants.{Single, Compound, Selected}
use Rattle.vp9_types.specs.declared.block.TxMode.{TxMode}
use Rattle.vp9_types.specs.declared.block.TxSize.{TxSize}
use Rattle.vp9_tables.specs.Numbers.{tx_of}
use Rattle.block_geometry.specs.BlockSizes.{greatest_allowed}
use Rattle.frame_headers.specs.declared.header.FrameKind.{FrameKind}
use Rattle.frame_headers.specs.declared.header.FrameKind.TheVariants as frame
use Rattle.frame_headers.specs.declared.header.Header.{Header}
use Rattle.frame_headers.specs.declared.segments.FeatureReference.{FeatureReference}
use Rattle.frame_headers.specs.declared.segments.MapUpdate.{MapUpdate}
use Rattle.frame_headers.specs.declared.segments.Segmentation.{Segmentation}
use Rattle.block_plan.specs.declared.block.BlockAt.{BlockAt}
use Rattle.block_plan.specs.declared.block.BlockInfo.{BlockInfo}
use Rattle.block_plan.specs.declared.block.Prediction.TheVariants as prediction
use Rattle.block_plan.specs.declared.block.ReferenceFrames.{ReferenceFrames}
use Rattle.mode_syntax.specs.Elements.{skips_segment}
use Rattle.mv_prediction.specs.declared.search.SignBiases.{SignBiases}
use Rattle.inter_contexts.specs.BlockReferences.{fixed_of, variable_by, with_fixed, single, of_feature, allowed_or_rule}
use Rattle.inter_modes.specs.ModeInfo.{BlockSources, inter_frame, InterFrame, sources_of, block_with, least_before}
use Rattle.inter_modes.specs.BlockVectors.{Sources}
use Rattle.inter_modes.specs.BlockStarts.{segment_of, segment_reference, is_inter_feature}
use Rattle.inter_modes.specs.declared.starts.SegmentOf.{SegmentOf}
use Rattle.inter_modes.specs.declared.starts.BlockStart.{BlockStart}
use Rattle.mode_writer.specs.ModeFits.{CanSkip, CanTx, CanLuma, CanPutIntraFrame}
use Rattle.vector_writer.specs.VectorFits.{CanSayInter}
use Rattle.vector_writer.specs.declared.symbols.InterSymbols.{InterSymbols}
use Rattle.inter_writer.specs.declared.frame_blocks.BlockSymbols.{BlockSymbols}
use Rattle.inter_writer.specs.declared.frame_blocks.PredictionSymbols.{PredictionSymbols}
use Rattle.inter_writer.specs.declared.frame_blocks.PredictionSymbols.TheVariants.{Intra, Inter}
use Rattle.inter_writer.specs.declared.references.ReferenceChoice.{ReferenceChoice}

---- Segments ----

-- An id of three bits, or the least one of the map before the frame where the frame may predict ids (6.4.12:
-- inter_segment_id).
pub record IsUpdated (update : MapUpdate) (least : ℕ) (s : SegmentOf) : Type 0 where
  pub id : s.id ≤ 7
  pub predicted : s.predicted ≡ true → (update.temporal ≡ true) × (s.id ≡ least)

-- Where the frame doesn't update the map, it is the least id of the map before the frame; without segments it is 0.
abbrev pub IsSegmentBy : Bool → Option MapUpdate → ℕ → SegmentOf → Type 0
IsSegmentBy true (Some update) least s = IsUpdated update least s
IsSegmentBy true None least s = s ≡ segment_of false least
IsSegmentBy false map least s = s ≡ segment_of false 0

abbrev pub IsSegment : Segmentation → ℕ → SegmentOf → Type 0
IsSegment segmentation least s = IsSegmentBy segmentation.enabled segmentation.map least s

---- Is it inter ----

-- a block of a segment that takes a reference is inter, or intra where that is what the segment takes (6.4.13: is_inter)
abbrev pub CanBeInterBy : Option FeatureReference → Bool → Type 0
CanBeInterBy (Some reference) is_inter = is_inter ≡ is_inter_feature reference
CanBeInterBy None is_inter = Unit {0}

abbrev pub CanBeInter : Segmentation → ℕ → Bool → Type 0
CanBeInter segmentation segment is_inter = CanBeInterBy (segment_reference segmentation segment) is_inter

---- What a block says first ----

-- a block that is inter and skipped has the greatest transform that is allowed; another says its transform size as a block of
-- an intra frame does (6.4.11: inter_frame_mode_info)
abbrev pub CanTxIf : Bool → TxMode → BlockSize → TxSize → Type 0
CanTxIf true mode size tx = CanTx mode size tx
CanTxIf false mode size tx = tx ≡ tx_of (greatest_allowed mode size)

-- but for its segment
pub record CanStart (segmentation : Segmentation) (mode : TxMode) (size : BlockSize) (start : BlockStart) : Type 0 where
  pub skip : CanSkip segmentation start.segment.id start.skip
  pub is_inter : CanBeInter segmentation start.segment.id start.is_inter
  pub tx : CanTxIf (not (start.is_inter && start.skip)) mode size start.tx

---- References ----

-- all blocks of a frame have one reference, or all have two, or each says how many (6.4.17: comp_mode)
abbrev pub CanBeCompound : ReferenceMode → Bool → Type 0
CanBeCompound Single compound = compound ≡ false
CanBeCompound Compound compound = compound ≡ true
CanBeCompound Selected compound = Unit {0}

-- a compound block has the frame's fixed reference, and one of the two others (comp_ref)
abbrev pub AreCompound : SignBiases → ReferenceFrames → Type 0
AreCompound biases refs = (one : Bool) × (refs ≡ with_fixed biases (fixed_of biases) (variable_by (fixed_of biases) one))

pub record CanCodeReferences (mode : ReferenceMode) (biases : SignBiases) (refs : ReferenceFrames) : Type 0 where
  pub chosen : CanBeCompound mode (is_some refs.second)
  pub compound : is_some refs.second ≡ true → AreCompound biases refs

-- an inter block refers to what its segment takes, or says its references (6.4.17: ref_frames)
abbrev pub CanReferBy : Option FeatureReference → ReferenceMode → SignBiases → ReferenceFrames → Type 0
CanReferBy (Some reference) mode biases refs = refs ≡ single (of_feature reference)
CanReferBy None mode biases refs = CanCodeReferences mode biases refs

abbrev pub CanRefer : ReferenceChoice → ReferenceFrames → Type 0
CanRefer c refs = CanReferBy c.feature c.mode c.biases refs

---- Blocks ----

-- what the references of a block of a segment are chosen by
abbrev pub choice_of : InterFrame → SignBiases → ℕ → ReferenceChoice
choice_of f biases segment = record {
  feature = segment_reference f.header.params.segmentation segment;
  mode = f.modes.reference_mode;
  biases = biases;
}

-- An inter block's modes and vectors are said where its references are in range (6.4.16: inter_block_mode_info).
pub record CanSayInterBlock (f : InterFrame) (s : Sources) (segment : ℕ) (q : InterSymbols) : Type 0 where
  pub references : CanRefer (choice_of f s.search.biases segment) q.references
  pub rest : IfOk (allowed_or_rule f.header.size f.fields.references q.references)
      (λ _. CanSayInter s (skips_segment f.header.params.segmentation segment) f.fields.filter q)

abbrev pub CanPredict : InterFrame → Sources → BlockStart → PredictionSymbols → Type 0
CanPredict f s start (Intra p) = (start.is_inter ≡ false) × CanLuma s.search.at.size p.luma
CanPredict f s start (Inter q) = (start.is_inter ≡ true) × CanSayInterBlock f s start.segment.id q

-- a block of an inter frame (6.4.11), over which the map before the frame has a least id
pub record CanPutInterFrame (f : InterFrame) (s : Sources) (least : ℕ) (start : BlockStart) (p : PredictionSymbols) : Type 0 where
  pub segment : IsSegment f.header.params.segmentation least start.segment
  pub first : CanStart f.header.params.segmentation f.modes.tx_mode s.search.at.size start
  pub prediction : CanPredict f s start p

-- a block of an intra frame is intra (6.4.6)
abbrev pub CanPutIntra : Header → Modes → BlockAt → BlockStart → PredictionSymbols → Type 0
CanPutIntra header modes at start (Intra p) =
    (start.is_inter ≡ false) × CanPutIntraFrame header modes at (block_with at start (prediction.Intra p))
CanPutIntra header modes at start (Inter q) = ⊥

abbrev pub CanPutBy : FrameKind → BlockSources → List BlockInfo → BlockAt → BlockStart → PredictionSymbols → Type 0
CanPutBy (frame.Inter fields) by earlier at start p =
    CanPutInterFrame (inter_frame by fields) (sources_of (inter_frame by fields) earlier by.vectors at) (least_before by.header by.segments at) start p
CanPutBy _ by earlier at start p = CanPutIntra by.header by.modes at start p

-- a block of any frame (6.4.5: mode_info), by the same as it is read by
abbrev pub CanPut : BlockSources → List BlockInfo → BlockAt → BlockSymbols → Type 0
CanPut by earlier at symbols = CanPutBy by.header.kind by earlier at symbols.start symbols.prediction
