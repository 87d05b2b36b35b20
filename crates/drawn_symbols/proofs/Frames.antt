-- What is drawn for blocks of the frames that are drawn for can be said.
use Rattle.std.proofs.Common.{◌≡◌, ℕ, Bool, true, false, ◌&&◌, refl, sym}
use Rattle.std.specs.Prelude.{◌≢◌, Option, None, Result, Ok, Err, IfOk, slice_index_or}
use Rattle.vp9_types.specs.declared.block.InterpFilter.{InterpFilter}
use Rattle.vp9_types.specs.declared.block.InterpFilter.TheVariants.{Bilinear}
use Rattle.vp9_types.specs.declared.block.ReferenceMode.{ReferenceMode}
use Rattle.vp9_types.specs.declared.rule.Rule.{Rule}
use Rattle.frame_headers.specs.Segments.{no_segment_features}
use Rattle.frame_headers.specs.declared.header.FrameFilter.{FrameFilter}
use Rattle.frame_headers.specs.declared.header.FrameFilter.TheVariants.{Switchable}
use Rattle.frame_headers.specs.declared.segments.FeatureReference.{FeatureReference}
use Rattle.frame_headers.specs.declared.segments.SegmentFeatures.{SegmentFeatures}
use Rattle.frame_headers.specs.declared.segments.Segmentation.{Segmentation}
use Rattle.block_plan.specs.declared.block.ReferenceFrames.{ReferenceFrames}
use Rattle.mode_syntax.specs.Elements.{skips_segment}
use Rattle.mv_prediction.specs.declared.search.SignBiases.{SignBiases}
use Rattle.inter_contexts.specs.BlockReferences.{allowed_or_rule}
use Rattle.inter_modes.specs.ModeInfo.{InterFrame}
use Rattle.inter_modes.specs.BlockStarts.{reference_if, segment_reference}
use Rattle.inter_modes.specs.BlockVectors.{Sources, best_mv}
use Rattle.block_plan.specs.declared.block.BlockAt.{BlockAt}
use Rattle.block_plan.specs.declared.block.IntraPrediction.{IntraPrediction}
use Rattle.frame_headers.specs.declared.header.Header.{Header}
use Rattle.vp9_types.specs.declared.block.Modes.{Modes}
use Rattle.inter_modes.specs.declared.starts.BlockStart.{BlockStart}
use Rattle.mode_writer.specs.ModeFits.{CanSegment, CanSkip, CanTx, CanLuma}
use Rattle.inter_writer.specs.InterFits.{CanCodeReferences, CanReferBy, CanSayInterBlock, CanPutIntra}
use Rattle.inter_writer.specs.declared.frame_blocks.PredictionSymbols.TheVariants.{Intra}
use Rattle.drawn_symbols.specs.InterDraws.{references_alone}
use Rattle.vector_writer.specs.VectorFits.{CanFilter, CanSayInter}
use Rattle.vector_writer.specs.declared.symbols.InterSymbols.{InterSymbols}
use Rattle.drawn_symbols.specs.Code.{CanBeSymbols}
use Rattle.drawn_symbols.specs.DrawnFor.{AreDrawnSegments}
use Rattle.drawn_symbols.specs.declared.quarters.Best.{Best}

no_reference : (enabled : Bool) (f : SegmentFeatures) → (enabled ≡ true → f ≡ no_segment_features) → reference_if enabled f.reference ≡ None
no_reference true f plain = rw (plain refl) refl
no_reference false f plain = refl

no_skip : (enabled : Bool) (f : SegmentFeatures) → (enabled ≡ true → f ≡ no_segment_features) → (enabled && f.skip) ≡ false
no_skip true f plain = rw (plain refl) refl
no_skip false f plain = refl

takes_none : (s : Segmentation) → AreDrawnSegments s → (segment : ℕ) → segment_reference s segment ≡ None
takes_none s drawn segment =
    no_reference s.enabled (slice_index_or s.features.segments segment no_segment_features) (λ on. drawn.plain on segment)

skips_none : (s : Segmentation) → AreDrawnSegments s → (segment : ℕ) → skips_segment s segment ≡ false
skips_none s drawn segment =
    no_skip s.enabled (slice_index_or s.features.segments segment no_segment_features) (λ on. drawn.plain on segment)

references_can : (feature : Option FeatureReference) (mode : ReferenceMode) (biases : SignBiases) (refs : ReferenceFrames)
    → feature ≡ None → CanCodeReferences mode biases refs → CanReferBy feature mode biases refs
references_can feature mode biases refs none coded = rw none coded

no : false ≡ true → ⊥
no e = cc

named_can : (filter : FrameFilter) (named : InterpFilter) → filter ≡ Switchable → named ≢ Bilinear → CanFilter filter named
named_can filter named is differs = rw is differs

abbrev best_of : Sources → ReferenceFrames → Best
best_of s refs = record { allowed = s.allowed; vectors = best_mv s refs; references = refs; size = s.search.at.size }

modes_can : (s : Sources) (skips : Bool) (filter : FrameFilter) (refs : ReferenceFrames) (q : InterSymbols) → skips ≡ false → filter ≡ Switchable
    → CanBeSymbols (best_of s refs) s.search.at.size q → CanSayInter s skips filter q
modes_can s skips filter refs q skip is can = record {
  named = named_can filter q.filter is can.named;
  same = can.same;
  skipped = λ whole on. absurd (no (rw (sym skip) on));
  vectors = rw can.references can.vectors;
}

if_any : {A E : Type 0} (r : Result A E) (P : Type 0) → P → IfOk r (λ x. P)
if_any (Ok x) P p = p
if_any (Err e) P p = tt

if_none : {A E : Type 0} (r : Result A E) (e : E) (P : Type 0) → r ≡ Err e → IfOk r (λ x. P)
if_none r e P is = rw is tt

-- of references in range
pub inter_can : (f : InterFrame) (s : Sources) (refs : ReferenceFrames) (q : InterSymbols) → AreDrawnSegments f.header.params.segmentation → f.fields.filter ≡ Switchable
    → CanCodeReferences f.modes.reference_mode s.search.biases refs → CanBeSymbols (best_of s refs) s.search.at.size q
    → (segment : ℕ) → CanSayInterBlock f s segment q
inter_can f s refs q segments filter coded can segment = record {
  references = rw can.references (references_can _ _ _ refs (takes_none f.header.params.segmentation segments segment) coded);
  rest = if_any (allowed_or_rule f.header.size f.fields.references q.references) _
      (modes_can s (skips_segment f.header.params.segmentation segment) f.fields.filter refs q (skips_none f.header.params.segmentation segments segment) filter can);
}

-- of references out of range
pub references_alone_can : (f : InterFrame) (s : Sources) (refs : ReferenceFrames) (rule : Rule) → AreDrawnSegments f.header.params.segmentation
    → CanCodeReferences f.modes.reference_mode s.search.biases refs → allowed_or_rule f.header.size f.fields.references refs ≡ Err rule
    → (segment : ℕ) → CanSayInterBlock f s segment (references_alone refs)
references_alone_can f s refs rule segments coded out segment = record {
  references = references_can _ _ _ refs (takes_none f.header.params.segmentation segments segment) coded;
  rest = if_none (allowed_or_rule f.header.size f.fields.references refs) rule _ out;
}

---- Blocks ----

pub intra_can : (header : Header) (modes : Modes) (at : BlockAt) (start : BlockStart) (p : IntraPrediction) → start.is_inter ≡ false
    → CanSegment header.params.segmentation.enabled header.params.segmentation.map start.segment.id → start.segment.predicted ≡ false
    → CanSkip header.params.segmentation start.segment.id start.skip → CanTx modes.tx_mode at.size start.tx → CanLuma at.size p.luma
    → CanPutIntra header modes at start (Intra p)
intra_can header modes at start p intra segment unpredicted skip tx luma = (
  intra,
  record {
    row = refl;
    col = refl;
    size = refl;
    segment = segment;
    unpredicted = unpredicted;
    skip = skip;
    tx = tx;
    intra = luma;
  },
)
