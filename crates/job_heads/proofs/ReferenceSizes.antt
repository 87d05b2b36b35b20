-- The references of a header have sizes that frames have, where what the slots hold has.
use Rattle.std.proofs.Common.{◌≡◌, ℕ, zero, suc, List, [], ◌∷◌, subst, refl, arith}
use Rattle.std.specs.Prelude.{All, Option, Some, None, IfSome, Ok, slice_index_or}
use Rattle.vp9_types.specs.declared.block.ReferenceFrame.{ReferenceFrame}
use Rattle.vp9_types.specs.declared.block.ReferenceFrame.TheVariants.{Last, Golden, Altref}
use Rattle.vp9_types.specs.declared.job.Span.{Span}
use Rattle.vp9_types.specs.declared.shape.Shape.{Shape}
use Rattle.frame_headers.specs.Header.{head_of}
use Rattle.frame_headers.specs.FrameSizes.{HasFrameSize}
use Rattle.frame_headers.specs.HeaderState.{SlotsHaveSizes}
use Rattle.frame_headers.specs.declared.color.ColorConfig.{ColorConfig}
use Rattle.frame_headers.specs.declared.header.FrameHead.TheVariants as head
use Rattle.frame_headers.specs.declared.header.FrameKind.{FrameKind}
use Rattle.frame_headers.specs.declared.header.FrameKind.TheVariants.{Key, IntraOnly, Inter}
use Rattle.frame_headers.specs.declared.header.Header.{Header}
use Rattle.frame_headers.specs.declared.header.Reference.{Reference}
use Rattle.frame_headers.specs.declared.persist.Persist.{Persist}
use Rattle.job_results.specs.frame_steps.StepResults.{HaveSizes}
use Rattle.inter_contexts.specs.BlockReferences.{reference_in}
use Rattle.job_results.proofs.of_seq_decoder.HeaderReferences.{HoldsReference, references_held}

slot_sized : (slots : List (Option Shape)) (n : ℕ) (shape : Shape) → All (λ slot. IfSome slot HasFrameSize) slots → slice_index_or slots n None ≡ Some shape → HasFrameSize shape
slot_sized [] n shape all is = absurd cc
slot_sized (slot ∷ slots) zero shape all is = subst (λ (o : Option Shape). IfSome o HasFrameSize) is (all 0 slot (omega arith))
slot_sized (slot ∷ slots) (suc n) shape all is = slot_sized slots n shape (λ k d low. all (suc k) d (omega (arith, low))) is

reference_sized : (persist : Persist) (color : ColorConfig) (r : Reference) → SlotsHaveSizes persist → HoldsReference persist.slots color r → HasFrameSize r.shape
unfolding SlotsHaveSizes
reference_sized persist color r sized h = slot_sized persist.slots r.slot r.shape sized h.held

sized_by : (persist : Persist) (frame : List ℕ) (header : Header) (compressed : Span) (kind : FrameKind) → header.kind ≡ kind → SlotsHaveSizes persist
    → head_of persist frame ≡ Ok (head.Coded header compressed) → HaveSizes kind
sized_by persist frame header compressed Key is sized read = tt
sized_by persist frame header compressed IntraOnly is sized read = tt
sized_by persist frame header compressed (Inter fields) is sized read = each
  where
    all : HoldsReference persist.slots header.color fields.references.last × HoldsReference persist.slots header.color fields.references.golden × HoldsReference persist.slots header.color fields.references.altref
    all = references_held persist frame header compressed fields read is

    each : (reference : ReferenceFrame) → HasFrameSize (reference_in fields.references reference).shape
    each Last = reference_sized persist header.color fields.references.last sized all.0
    each Golden = reference_sized persist header.color fields.references.golden sized all.1
    each Altref = reference_sized persist header.color fields.references.altref sized all.2

pub have_sizes : (persist : Persist) (frame : List ℕ) (header : Header) (compressed : Span) → SlotsHaveSizes persist → head_of persist frame ≡ Ok (head.Coded header compressed) → HaveSizes header.kind
have_sizes persist frame header compressed sized read = sized_by persist frame header compressed header.kind refl sized read
