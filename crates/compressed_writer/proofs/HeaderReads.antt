-- What a whole compressed header makes of probabilities.
use Rattle.std.proofs.Common.{◌≡◌, ◌∙◌, ℕ, List, refl, sym, subst}
use Rattle.std.specs.Prelude.{Result, Ok, Err}
use Rattle.vp9_types.specs.declared.rule.Rule.{Rule}
use Rattle.vp9_types.specs.declared.block.Modes.{Modes}
use Rattle.vp9_types.specs.declared.block.ReferenceMode.{ReferenceMode}
use Rattle.frame_headers.specs.declared.header.FrameKind.{FrameKind}
use Rattle.frame_headers.specs.declared.header.FrameKind.TheVariants.{Key, IntraOnly, Inter}
use Rattle.frame_headers.specs.declared.header.Header.{Header}
use Rattle.frame_headers.specs.declared.header.InterFields.{InterFields}
use Rattle.frame_headers.specs.Quantizer.{is_lossless}
use Rattle.bool_decoder.specs.Window.{Window, started}
use Rattle.prob_contexts.specs.ProbLists.{ContextLists}
use Rattle.compressed_header.specs.CompressedHeader.{inter_part, kind_part, compressed_header, forward, read_from}
use Rattle.compressed_header.specs.HeaderModes.{read_tx_mode}
use Rattle.compressed_header.specs.ReferenceProbs.{inter_probs, read_partition_probs}
use Rattle.compressed_header.specs.TransformProbs.{tx_probs_of, read_coef_probs, read_skip_prob}
use Rattle.compressed_header.specs.Updates.{UpdateTable}
use Rattle.compressed_header.specs.VectorProbs.{mv_probs}
use Rattle.compressed_writer.specs.CodedUpdates.{AreCoefUpdates, IsKindUpdate, CanForward}
use Rattle.compressed_writer.proofs.Settles.{Settles, settles_bind, read_settles}
use Rattle.compressed_writer.proofs.ReadUpdates.{tx_mode_read, tx_read, coef_read, inter_read}
use Rattle.compressed_writer.proofs.VectorReads.{vectors_read}

-- what a kind of frames codes alone leaves the rest as it is
record KindRead (kind : FrameKind) (mode : ReferenceMode) (old new : ContextLists) : Type 0 where
  update : IsKindUpdate kind mode old new
  tx : new.tx ≡ old.tx
  coef : new.coef ≡ old.coef
  uv_modes : new.uv_modes ≡ old.uv_modes

inter_part_read : (fields : InterFields) (old : ContextLists) (new : ContextLists × ReferenceMode) → Settles (inter_part fields old) new
    → KindRead (Inter fields) new.1 old new.0
unfolding inter_part
inter_part_read fields old new h =
    let a = settles_bind (inter_probs fields old.inter) _ new h in
    let b = settles_bind (read_partition_probs old.partitions) _ new a.2 in
    let c = settles_bind (mv_probs fields.high_precision old.vectors) _ new b.2 in
    subst (λ (p : ContextLists × ReferenceMode). KindRead (Inter fields) p.1 old p.0) c.2 (record {
      update = (inter_read fields old.inter a.0.0 a.0.1 a.1, vectors_read fields.high_precision old.vectors c.0 c.1);
      tx = refl;
      coef = refl;
      uv_modes = refl;
    })

kind_read : (kind : FrameKind) (old : ContextLists) (new : ContextLists × ReferenceMode) → Settles (kind_part kind old) new → KindRead kind new.1 old new.0
unfolding kind_part
kind_read Key old new h =
    subst (λ (p : ContextLists × ReferenceMode). KindRead Key p.1 old p.0) h (record { update = (refl, refl, refl, refl); tx = refl; coef = refl; uv_modes = refl })
kind_read IntraOnly old new h =
    subst (λ (p : ContextLists × ReferenceMode). KindRead IntraOnly p.1 old p.0) h (record { update = (refl, refl, refl, refl); tx = refl; coef = refl; uv_modes = refl })
kind_read (Inter fields) old new h = inter_part_read fields old new h

-- an update of a kind sees nothing of what all frames have
kind_from : (kind : FrameKind) (mode : ReferenceMode) (old mid new : ContextLists) → mid.inter ≡ old.inter → mid.partitions ≡ old.partitions → mid.vectors ≡ old.vectors
    → IsKindUpdate kind mode mid new → IsKindUpdate kind mode old new
kind_from Key mode old mid new inter partitions vectors h = (h.0, h.1 ∙ inter, h.2 ∙ partitions, h.3 ∙ vectors)
kind_from IntraOnly mode old mid new inter partitions vectors h = (h.0, h.1 ∙ inter, h.2 ∙ partitions, h.3 ∙ vectors)
kind_from (Inter fields) mode old mid new inter partitions vectors h = rw (inter, vectors) at h

header_read : (header : Header) (before : ContextLists) (new : ContextLists × Modes) → Settles (compressed_header header before) new → CanForward header before new.0 new.1
unfolding compressed_header
header_read header before new h =
    let a = settles_bind (read_tx_mode (is_lossless header.params.quantizer)) _ new h in
    let b = settles_bind (tx_probs_of a.0 before.tx) _ new a.2 in
    let c = settles_bind (read_coef_probs a.0 before.coef) _ new b.2 in
    let d = settles_bind (read_skip_prob before.skip) _ new c.2 in
    let mid = record before { tx = b.0; coef = c.0; skip = d.0 } in
    let e = settles_bind (kind_part header.kind mid) _ new d.2 in
    let kind = kind_read header.kind mid e.0 e.1 in
    subst (λ (p : ContextLists × Modes). CanForward header before p.0 p.1) e.2 (record {
      tx_mode = tx_mode_read (is_lossless header.params.quantizer) a.0 a.1;
      tx = λ differs. kind.tx ∙ tx_read a.0 before.tx b.0 b.1 differs;
      coef = subst (λ coef. AreCoefUpdates a.0 before.coef coef) (sym kind.coef) (coef_read a.0 before.coef c.0 c.1);
      kind = kind_from header.kind e.0.1 before mid e.0.0 refl refl refl kind.update;
      uv_modes = kind.uv_modes;
    })

read_by : {A : Type 0} (s : UpdateTable A) (start : Result Window Rule) (x : A) → read_from s start ≡ Ok x → Settles s x
read_by s (Ok w) x h = read_settles s w x h
read_by s (Err rule) x h =
    let f : ⊥ = cc in
    absurd f

pub forward_read : (header : Header) (before after : ContextLists) (modes : Modes) (bytes : List ℕ) → forward header before bytes ≡ Ok (after, modes)
    → CanForward header before after modes
unfolding forward
forward_read header before after modes bytes h =
    header_read header before (after, modes) (read_by (compressed_header header before) (started bytes) (after, modes) h)
