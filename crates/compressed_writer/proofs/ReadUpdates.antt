-- What a compressed header makes of probabilities are updates that can be written.
use Rattle.std.proofs.Common.{◌≡◌, ℕ, List, Bool, true, false, not, refl, ap, sym, subst, ◌∙◌}
use Rattle.vp9_types.specs.declared.block.ReferenceMode.{ReferenceMode}
use Rattle.vp9_types.specs.declared.block.TxMode.{TxMode}
use Rattle.vp9_types.specs.declared.block.TxMode.TheVariants.{Only4x4, UpTo8x8, UpTo16x16, UpTo32x32, Selected}
use Rattle.vp9_types.specs.declared.block.TxSize.TheVariants.{T4x4, T8x8, T16x16, T32x32}
use Rattle.compressed_header.specs.Updates.{updates_if}
use Rattle.compressed_header.specs.HeaderModes.{read_tx_mode, frame_reference_mode}
use Rattle.compressed_header.specs.TransformProbs.{tx_probs_of, size_coef_probs, allows, read_coef_probs}
use Rattle.compressed_header.specs.HeaderModes.{is_compound_allowed}
use Rattle.compressed_header.specs.ReferenceProbs.{is_switchable, is_single, is_compound, is_chosen, frame_reference_mode_probs, inter_probs, read_inter_mode_probs, read_interp_filter_probs, read_is_inter_probs, read_y_mode_probs}
use Rattle.frame_headers.specs.declared.header.InterFields.{InterFields}
use Rattle.prob_contexts.specs.ProbLists.{TxLists, CoefLists, InterLists}
use Rattle.compressed_writer.specs.CodedUpdates.{IsTxMode, AreTxUpdates, AreCoefUpdates, IsReferenceMode, AreReferenceUpdates, AreInterUpdates}
use Rattle.compressed_writer.proofs.Settles.{Settles, settles_bind}

pub tx_mode_read : (lossless : Bool) (mode : TxMode) → Settles (read_tx_mode lossless) mode → IsTxMode lossless mode
unfolding read_tx_mode
tx_mode_read true mode h = λ _. sym h
tx_mode_read false mode h = λ coded. let f : ⊥ = cc in absurd f

reference_mode_read : (allowed : Bool) (mode : ReferenceMode) → Settles (frame_reference_mode allowed) mode → IsReferenceMode allowed mode
unfolding frame_reference_mode
reference_mode_read true mode h = λ coded. let f : ⊥ = cc in absurd f
reference_mode_read false mode h = λ _. sym h

updates_read : (coded : Bool) (old new : List ℕ) → Settles (updates_if coded old) new → coded ≡ false → new ≡ old
unfolding updates_if
updates_read true old new h coded = let f : ⊥ = cc in absurd f
updates_read false old new h coded = sym h

size_read : (allowed : Bool) (old new : List ℕ) → Settles (size_coef_probs allowed old) new → allowed ≡ false → new ≡ old
unfolding size_coef_probs
size_read true old new h coded = let f : ⊥ = cc in absurd f
size_read false old new h coded = sym h

pub tx_read : (mode : TxMode) (old new : TxLists) → Settles (tx_probs_of mode old) new → AreTxUpdates mode old new
unfolding tx_probs_of
tx_read Selected old new h = λ differs. absurd (differs refl)
tx_read Only4x4 old new h = λ differs. sym h
tx_read UpTo8x8 old new h = λ differs. sym h
tx_read UpTo16x16 old new h = λ differs. sym h
tx_read UpTo32x32 old new h = λ differs. sym h

pub coef_read : (mode : TxMode) (old new : CoefLists) → Settles (read_coef_probs mode old) new → AreCoefUpdates mode old new
unfolding read_coef_probs
coef_read mode old new h =
    let a = settles_bind (size_coef_probs (allows mode T4x4) old.of_4x4) _ new h in
    let b = settles_bind (size_coef_probs (allows mode T8x8) old.of_8x8) _ new a.2 in
    let c = settles_bind (size_coef_probs (allows mode T16x16) old.of_16x16) _ new b.2 in
    let d = settles_bind (size_coef_probs (allows mode T32x32) old.of_32x32) _ new c.2 in
    subst (λ new. AreCoefUpdates mode old new) d.2 (record {
      of_8x8 = size_read (allows mode T8x8) old.of_8x8 b.0 b.1;
      of_16x16 = size_read (allows mode T16x16) old.of_16x16 c.0 c.1;
      of_32x32 = size_read (allows mode T32x32) old.of_32x32 d.0 d.1;
    })

references_read : (mode : ReferenceMode) (old new : InterLists) → Settles (frame_reference_mode_probs mode old) new
    → AreReferenceUpdates mode old new × (new.filters ≡ old.filters)
unfolding frame_reference_mode_probs
references_read mode old new h =
    let a = settles_bind (updates_if (is_chosen mode) old.compound_flag) _ new h in
    let b = settles_bind (updates_if (not (is_compound mode)) old.single_references) _ new a.2 in
    let c = settles_bind (updates_if (not (is_single mode)) old.compound_references) _ new b.2 in
    subst (λ new. AreReferenceUpdates mode old new × (new.filters ≡ old.filters)) c.2 (
      record {
        flag = updates_read (is_chosen mode) old.compound_flag a.0 a.1;
        single = λ all. updates_read (not (is_compound mode)) old.single_references b.0 b.1 (ap not all);
        compound = λ all. updates_read (not (is_single mode)) old.compound_references c.0 c.1 (ap not all);
      },
      refl,
    )

inter_new : (fields : InterFields) (mode : ReferenceMode) (old new : InterLists) (modes filters is_inter y_modes : List ℕ)
    → IsReferenceMode (is_compound_allowed fields.references) mode → (is_switchable fields.filter ≡ false → filters ≡ old.filters)
    → AreReferenceUpdates mode (record old { modes = modes; filters = filters; is_inter = is_inter }) new → new.filters ≡ filters
    → AreInterUpdates fields mode old (record new { y_modes = y_modes })
inter_new fields mode old new modes filters is_inter y_modes allowed fixed refs same = record {
  allowed = allowed;
  filters = λ coded. same ∙ fixed coded;
  references = record { flag = refs.flag; single = refs.single; compound = refs.compound };
}

pub inter_read : (fields : InterFields) (old new : InterLists) (mode : ReferenceMode) → Settles (inter_probs fields old) (new, mode)
    → AreInterUpdates fields mode old new
unfolding inter_probs read_interp_filter_probs
inter_read fields old new mode h =
    let a = settles_bind (read_inter_mode_probs old.modes) _ (new, mode) h in
    let b = settles_bind (updates_if (is_switchable fields.filter) old.filters) _ (new, mode) a.2 in
    let c = settles_bind (read_is_inter_probs old.is_inter) _ (new, mode) b.2 in
    let d = settles_bind (frame_reference_mode (is_compound_allowed fields.references)) _ (new, mode) c.2 in
    let mid = record old { modes = a.0; filters = b.0; is_inter = c.0 } in
    let e = settles_bind (frame_reference_mode_probs d.0 mid) _ (new, mode) d.2 in
    let f = settles_bind (read_y_mode_probs e.0.y_modes) _ (new, mode) e.2 in
    let refs = references_read d.0 mid e.0 e.1 in
    subst (λ (p : InterLists × ReferenceMode). AreInterUpdates fields p.1 old p.0) {x = (record e.0 { y_modes = f.0 }, d.0)} f.2
    (inter_new fields d.0 old e.0 a.0 b.0 c.0 f.0 (reference_mode_read (is_compound_allowed fields.references) d.0 d.1)
    (updates_read (is_switchable fields.filter) old.filters b.0 b.1) refs.0 refs.1)
