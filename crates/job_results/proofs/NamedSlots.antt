-- The slots that a header's references name.
use Rattle.std.proofs.Common.{◌≡◌, ◌∙◌, ℕ, zero, suc, List, [], ◌∷◌, map, refl, sym}
use Rattle.std.specs.Prelude.{Option, Some, None, slice_index_or}
use Rattle.vp9_types.specs.declared.block.ReferenceFrame.{ReferenceFrame}
use Rattle.vp9_types.specs.declared.block.ReferenceFrame.TheVariants.{Last, Golden, Altref}
use Rattle.vp9_types.specs.declared.shape.Shape.{Shape}
use Rattle.frame_headers.specs.declared.color.ColorConfig.{ColorConfig}
use Rattle.frame_headers.specs.declared.header.FrameKind.TheVariants.{Inter}
use Rattle.frame_headers.specs.declared.header.InterFields.{InterFields}
use Rattle.frame_headers.specs.declared.header.Reference.{Reference}
use Rattle.inter_contexts.specs.BlockReferences.{reference_in}
use Rattle.numbered_frames.specs.seq_decoder.Outputs.{Putting}
use Rattle.numbered_frames.specs.seq_decoder.DecoderState.{Picture, persist_of, shape_in_slot}
use Rattle.numbered_frames.proofs.of_seq_decoder.HeaderReferences.{HoldsReference, references_held}
use Rattle.numbered_frames.specs.Coded.{CodedFrame}
use Rattle.job_results.proofs.CodedFrames.{CodedBy}

pub at_mapped : {A B : Type 0} (f : Option A → Option B) → f None ≡ None → (xs : List (Option A)) (n : ℕ) → slice_index_or (map f xs) n None ≡ f (slice_index_or xs n None)
at_mapped f none [] n = sym none
at_mapped f none (x ∷ xs) zero = refl
at_mapped f none (x ∷ xs) (suc n) = at_mapped f none xs n

-- what the slot of a reference holds
pub record IsNamed (c : CodedFrame) (r : Reference) : Type 0 where
  pub picture : Picture
  pub held : slice_index_or c.kept.state.slots r.slot None ≡ Some picture
  pub shape : picture.shape ≡ r.shape
  pub depth : r.shape.depth ≡ c.header.color.depth

named_as : (c : CodedFrame) (r : Reference) (o : Option Picture) → slice_index_or c.kept.state.slots r.slot None ≡ o → shape_in_slot o ≡ Some r.shape → r.shape.depth ≡ c.header.color.depth → IsNamed c r
named_as c r None is shape depth = absurd cc
named_as c r (Some picture) is shape depth = let same : picture.shape ≡ r.shape = cc in record { picture = picture; held = is; shape = same; depth = depth }

named_by : (c : CodedFrame) (r : Reference) → HoldsReference (persist_of c.kept.state).slots c.header.color r → IsNamed c r
named_by c r h = named_as c r (slice_index_or c.kept.state.slots r.slot None) refl (sym (at_mapped shape_in_slot refl c.kept.state.slots r.slot) ∙ h.held) h.depth

holds_in : (slots : List (Option Shape)) (color : ColorConfig) (fields : InterFields) (reference : ReferenceFrame)
    → HoldsReference slots color fields.references.last × HoldsReference slots color fields.references.golden × HoldsReference slots color fields.references.altref
    → HoldsReference slots color (reference_in fields.references reference)
holds_in slots color fields Last all = all.0
holds_in slots color fields Golden all = all.1
holds_in slots color fields Altref all = all.2

pub named_in : (from : Option Putting) (frame : Option (List ℕ)) (c : CodedFrame) (fields : InterFields) (reference : ReferenceFrame) → CodedBy from frame c → c.header.kind ≡ Inter fields
    → IsNamed c (reference_in fields.references reference)
named_in from frame c fields reference by kind =
    named_by c (reference_in fields.references reference)
    (holds_in (persist_of c.kept.state).slots c.header.color fields reference (references_held (persist_of c.kept.state) c.bytes c.header c.compressed fields by.head kind))
