-- References that are in range.
use Rattle.std.proofs.Common.{◌≡◌, refl, Bool, true, false}
use Rattle.std.specs.Prelude.{Result, Ok, Err, IfOk, ◌&&◌, if◌then◌else◌}
use Rattle.vp9_types.specs.declared.rule.Rule.{Rule}
use Rattle.vp9_types.specs.declared.rule.Rule.TheVariants.{BlockScale}
use Rattle.frame_headers.specs.References.{has_allowed_scale}
use Rattle.frame_headers.specs.declared.header.FrameSize.{FrameSize}
use Rattle.frame_headers.specs.declared.header.References as header
use Rattle.block_plan.specs.declared.block.ReferenceFrames.{ReferenceFrames}
use Rattle.inter_contexts.specs.BlockReferences.{reference_in, second_in_range, allowed_or_rule}

the_same : {A E : Type 0} (b : Bool) (x : A) (e : E) → IfOk (if b then Ok x else Err e) (λ y. y ≡ x)
the_same true x e = refl
the_same false x e = tt

-- those in range are those that were tested
pub tested_same : (size : FrameSize) (refs : header.References) (r : ReferenceFrames) (result : Result ReferenceFrames Rule)
    → result ≡ allowed_or_rule size refs r → IfOk result (λ x. x ≡ r)
tested_same size refs r result is = rw is (the_same (has_allowed_scale size (reference_in refs r.first) && second_in_range size refs r.second) r BlockScale)
