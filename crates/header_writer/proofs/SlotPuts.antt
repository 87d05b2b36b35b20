-- The slots of references, and a slot that is shown again.
use Rattle.std.proofs.Common.{◌≡◌, ℕ, List, Bool, true, refl, ap}
use Rattle.std.specs.Prelude.{Some, None, slice_index_or, not, ◌&&◌}
use Rattle.vp9_types.specs.declared.rule.Rule.{Rule}
use Rattle.vp9_types.specs.declared.rule.Rule.TheVariants as rule
use Rattle.vp9_types.specs.declared.shape.Shape.{Shape}
use Rattle.vp9_types.specs.Syntax.{done}
use Rattle.frame_headers.specs.declared.field.FieldName.{FieldName}
use Rattle.frame_headers.specs.declared.field.FieldName.TheVariants as name
use Rattle.frame_headers.specs.declared.header.Reference.{Reference}
use Rattle.frame_headers.specs.declared.header.Uncompressed.TheVariants as uncompressed
use Rattle.frame_headers.specs.declared.persist.Persist.{Persist}
use Rattle.frame_headers.specs.Fields.{f, flag_field}
use Rattle.frame_headers.specs.Header.{uncompressed_header, frame_profile}
use Rattle.frame_headers.specs.References.{slot_shape, held_by, reference}
use Rattle.header_writer.specs.WrittenFields.{Puts}
use Rattle.header_writer.specs.WellFormed.{IsWellFormed}
use Rattle.header_writer.proofs.EachPuts.{puts_bind}

slot_put : (field : FieldName) (before : Persist) (missing : Rule) (slot : ℕ) (shape : Shape) (old new : List ℕ)
    → slice_index_or before.slots slot None ≡ Some shape → Puts (f field 3) old slot new → Puts (slot_shape field before missing) old (slot, shape) new
unfolding slot_shape
slot_put field before missing slot shape old new held h =
    puts_bind (f field 3) (λ s. held_by s missing (slice_index_or before.slots s None)) old new new slot (slot, shape) h (rw held (refl, refl))

abbrev with_bias : Reference → Bool → Reference
with_bias r bias = record { slot = r.slot; sign_bias = bias; shape = r.shape }

pub reference_put : (before : Persist) (resilient coded : Bool) (r : Reference) (old mid new : List ℕ) → slice_index_or before.slots r.slot None ≡ Some r.shape
    → (not resilient && coded) ≡ r.sign_bias → Puts (f name.RefFrameIdx 3) old r.slot mid → Puts (flag_field name.RefFrameSignBias) mid coded new
    → Puts (reference before resilient) old r new
unfolding reference
reference_put before resilient coded r old mid new held bias first last =
    puts_bind (slot_shape name.RefFrameIdx before rule.RefMissing) _ old mid new (r.slot, r.shape) r
    (slot_put name.RefFrameIdx before rule.RefMissing r.slot r.shape old mid held first)
    (puts_bind (flag_field name.RefFrameSignBias) (λ b. done (with_bias r (not resilient && b))) mid new new coded r last (ap (with_bias r) bias, refl))

pub shown_put : (before : Persist) (slot : ℕ) (old mid next new : List ℕ) → IsWellFormed before (uncompressed.ShowExisting slot)
    → Puts frame_profile old 0 mid → Puts (flag_field name.ShowExistingFrame) mid true next → Puts (f name.FrameToShowMapIdx 3) next slot new
    → Puts (uncompressed_header before) old (uncompressed.ShowExisting slot) new
unfolding uncompressed_header
shown_put before slot old mid next new formed first shows last =
    let shape = formed.1.0 in
    let held = slot_put name.FrameToShowMapIdx before rule.ShowMissing slot shape next new formed.1.1 last in
    puts_bind frame_profile _ old mid new 0 (uncompressed.ShowExisting slot) first
    (puts_bind (flag_field name.ShowExistingFrame) _ mid next new true (uncompressed.ShowExisting slot) shows
    (puts_bind (slot_shape name.FrameToShowMapIdx before rule.ShowMissing) (λ s. done (uncompressed.ShowExisting s.0)) next new new (slot, shape) (uncompressed.ShowExisting slot) held (refl, refl)))
