-- What is tested can be said.
use Rattle.std.proofs.Common.{◌≡◌, ◌≤◌, ◌∙◌, ℕ, zero, suc, Bool, false, refl, ap, arith}
use Rattle.std.specs.Prelude.{Ok, Err, IfOk, Result}
use Rattle.vp9_types.specs.declared.block.Modes.{Modes}
use Rattle.vp9_types.specs.declared.rule.Rule.{Rule}
use Rattle.frame_headers.specs.declared.header.Header.{Header}
use Rattle.frame_headers.specs.declared.segments.MapUpdate.{MapUpdate}
use Rattle.block_plan.specs.declared.block.BlockAt.{BlockAt}
use Rattle.block_plan.specs.declared.block.IntraPrediction.{IntraPrediction}
use Rattle.block_plan.specs.declared.block.ReferenceFrames.{ReferenceFrames}
use Rattle.mode_syntax.specs.Elements.{skips_segment}
use Rattle.inter_contexts.specs.BlockReferences.{allowed_or_rule}
use Rattle.inter_modes.specs.ModeInfo.{InterFrame}
use Rattle.inter_modes.specs.BlockStarts.{segment_of}
use Rattle.inter_modes.specs.BlockVectors.{Sources, best_mv}
use Rattle.inter_modes.specs.declared.starts.BlockStart.{BlockStart}
use Rattle.inter_modes.specs.declared.starts.SegmentOf.{SegmentOf}
use Rattle.mode_writer.specs.ModeFits.{CanLuma}
use Rattle.vector_writer.specs.declared.symbols.InterSymbols.{InterSymbols}
use Rattle.inter_writer.specs.InterFits.{CanPredict, CanPutInterFrame, CanPutIntra, CanRefer, CanSayInterBlock, IsUpdated, choice_of}
use Rattle.inter_writer.specs.declared.frame_blocks.PredictionSymbols.{PredictionSymbols}
use Rattle.inter_writer.specs.declared.frame_blocks.PredictionSymbols.TheVariants.{Intra}
use Rattle.listed_symbols.specs.Code.{CanSayBehind, CanSayQuarter, CanSayQuarters, CanStartInter, CanStartIntra}
use Rattle.listed_symbols.specs.declared.vectors.Best.{Best}

pub intra_can : (header : Header) (modes : Modes) (at : BlockAt) (start : BlockStart) (p : IntraPrediction)
    → CanStartIntra header.params.segmentation modes.tx_mode at.size start → CanLuma at.size p.luma → CanPutIntra header modes at start (Intra p)
intra_can header modes at start p first luma = (
  first.intra,
  record {
    row = refl;
    col = refl;
    size = refl;
    segment = first.segment;
    unpredicted = first.unpredicted;
    skip = first.skip;
    tx = first.tx;
    intra = luma;
  },
)

---- Segments ----

abbrev one : ℕ → Bool → SegmentOf
one id predicted = record { id = id; predicted = predicted }

pub segment_is : (s : SegmentOf) (id : ℕ) → s.predicted ≡ false → s.id ≡ id → s ≡ segment_of false id
segment_is s id predicted same = ap (λ p. one s.id p) predicted ∙ ap (λ n. one n false) same

pub few_updated : (update : MapUpdate) (least : ℕ) (s : SegmentOf) → IsUpdated update least s → s.id ≤ 7
few_updated update least s updated = updated.id

---- Inter blocks ----

pub quarters_can : (b : Best) (q : InterSymbols) → CanSayQuarter b q 0 → CanSayQuarter b q 1 → CanSayQuarter b q 2 → CanSayQuarter b q 3 → CanSayQuarters b q
quarters_can b q first second third fourth zero low = first
quarters_can b q first second third fourth (suc zero) low = second
quarters_can b q first second third fourth (suc (suc zero)) low = third
quarters_can b q first second third fourth (suc (suc (suc zero))) low = fourth
quarters_can b q first second third fourth (suc (suc (suc (suc k)))) low = absurd (omega arith)

if_any : {A E : Type 0} (r : Result A E) (P : Type 0) → P → IfOk r (λ x. P)
if_any (Ok x) P p = p
if_any (Err e) P p = tt

if_none : {A E : Type 0} (r : Result A E) (e : E) (P : Type 0) → r ≡ Err e → IfOk r (λ x. P)
if_none r e P is = rw is tt

abbrev best_of : Sources → ReferenceFrames → Best
best_of s refs = record { allowed = s.allowed; vectors = best_mv s refs; size = s.search.at.size }

-- of references in range
pub inter_can : (f : InterFrame) (s : Sources) (segment : ℕ) (q : InterSymbols) → CanRefer (choice_of f s.search.biases segment) q.references
    → CanSayBehind (best_of s q.references) (skips_segment f.header.params.segmentation segment) f.fields.filter q → CanSayInterBlock f s segment q
inter_can f s segment q refers behind = record {
  references = refers;
  rest = if_any (allowed_or_rule f.header.size f.fields.references q.references) _ (record {
    named = behind.named;
    same = λ k low. (behind.quarters k low).same;
    skipped = behind.skipped;
    vectors = λ k low. (behind.quarters k low).vectors;
  });
}

-- of references out of range
pub references_alone_can : (f : InterFrame) (s : Sources) (segment : ℕ) (q : InterSymbols) (rule : Rule) → CanRefer (choice_of f s.search.biases segment) q.references
    → allowed_or_rule f.header.size f.fields.references q.references ≡ Err rule → CanSayInterBlock f s segment q
references_alone_can f s segment q rule refers out = record {
  references = refers;
  rest = if_none (allowed_or_rule f.header.size f.fields.references q.references) rule _ out;
}

pub put_inter_can : (f : InterFrame) (s : Sources) (least : ℕ) (start : BlockStart) (p : PredictionSymbols)
    → CanStartInter f.header.params.segmentation f.modes.tx_mode s.search.at.size least start → CanPredict f s start p → CanPutInterFrame f s least start p
put_inter_can f s least start p first prediction = record { segment = first.segment; first = first.first; prediction = prediction }
