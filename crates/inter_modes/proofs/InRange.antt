-- References that are in range.
use Rattle.std.proofs.Common.{◌≡◌, refl, Bool, true, false}
use Rattle.std.specs.Prelude.{Result, Ok, Err, IfOk, ◌&&◌, if◌then◌else◌}
use Rattle.vp9_types.specs.declared.rule.Rule.{Rule}
use Rattle.vp9_types.specs.declared.rule.Rule.TheVariants.{BlockScale}
use Rattle.frame_headers.specs.References.{has_allowed_scale}
use Rattle.frame_headers.specs.declared.header.FrameKind.TheVariants as frame
use Rattle.frame_headers.specs.declared.header.FrameSize.{FrameSize}
use Rattle.frame_headers.specs.declared.header.Header.{Header}
use Rattle.frame_headers.specs.declared.header.InterFields.{InterFields}
use Rattle.frame_headers.specs.declared.header.References as header
use Rattle.block_plan.specs.Blocks.{IsIntra}
use Rattle.block_plan.specs.declared.block.BlockInfo.{BlockInfo}
use Rattle.block_plan.specs.declared.block.Prediction.{Prediction}
use Rattle.block_plan.specs.declared.block.Prediction.TheVariants.{Intra, Inter}
use Rattle.block_plan.specs.declared.block.ReferenceFrames.{ReferenceFrames}
use Rattle.inter_contexts.specs.BlockReferences.{reference_in, second_in_range, allowed_or_rule}
use Rattle.inter_modes.specs.Code.{AreInRange, PredictsInRange, RefersInRange}

where_both : {A E : Type 0} (a b : Bool) (x : A) (e : E) (P : A → Type 0) → (a ≡ true → b ≡ true → P x) → IfOk (if a && b then Ok x else Err e) P
where_both true true x e P holds = holds refl refl
where_both true false x e P holds = tt
where_both false b x e P holds = tt

-- those that pass the test
pub tested : (size : FrameSize) (refs : header.References) (r : ReferenceFrames) (result : Result ReferenceFrames Rule)
    → result ≡ allowed_or_rule size refs r → IfOk result (AreInRange size refs)
tested size refs r result is =
    rw is (where_both (has_allowed_scale size (reference_in refs r.first)) (second_in_range size refs r.second) r BlockScale (AreInRange size refs) (λ first second. (first, second)))

refers : (header : Header) (fields : InterFields) (p : Prediction) → header.kind ≡ frame.Inter fields → PredictsInRange header.size fields.references p → RefersInRange header p
refers header fields (Intra modes) kind all = tt
refers header fields (Inter modes) kind all = (fields, kind, all.0, all.1)

pub refers_in_range : (header : Header) (fields : InterFields) (result : Result BlockInfo Rule) → header.kind ≡ frame.Inter fields
    → IfOk result (λ b. PredictsInRange header.size fields.references b.prediction) → IfOk result (λ b. RefersInRange header b.prediction)
refers_in_range header fields (Ok b) kind all = refers header fields b.prediction kind all
refers_in_range header fields (Err rule) kind all = tt

pub intra_in_range : (header : Header) (p : Prediction) → IsIntra p → RefersInRange header p
intra_in_range header (Intra modes) intra = tt
intra_in_range header (Inter modes) intra = absurd intra
