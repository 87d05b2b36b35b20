use Rattle.std.proofs.Common.{◌∙◌, ap, sym, subst, refl}
use Rattle.std.specs.Prelude.{Some}
use Rattle.std.specs.Arc.{arc_value}
use Rattle.std.proofs.lemmas.Result.{err_from_is_err_and}
use Rattle.seq_decoder.proofs.of_frame_decoder.PlainFrames.{frame_breaks}
use Rattle.seq_decoder.specs.After.{input_of, past_of, references_of, segments_before, vectors_before}
use Rattle.frame_headers.specs.FrameSizes.{IsFrameSize}
use Rattle.frame_headers.specs.Tiles.{AreFewTiles}
use Rattle.frame_headers.specs.declared.header.Header.{Header}
use Rattle.seq_decoder.specs.Code.{HasPlaces, last_held}
use Rattle.seq_decoder.specs.DecoderState.{last_size}
use Rattle.seq_decoder.specs.SavedContexts.{context_at, saved_place, saved_before}
use Rattle.seq_decoder.proofs.PastLemmas.{input_is}
use Rattle.frame_steps.specs.StepResults.{HaveSizes}
use Rattle.frame_steps.proofs.beginning.begin.Goals as goal

pub returns-in_err-setting-clause-begun : goal.returns-in_err-setting-clause-begun
returns-in_err-setting-clause-begun c = λ state stands.
    let p = err_from_is_err_and c.from_residual.result c.from_residual.ensures.1 in
    let header = c.args.header.now in
    rw (p.1, p.2) (frame_breaks (references_of state.slots header.kind) (input_of state c.args.bytes.now header c.args.compressed) _ (c.in_err-setting.ensures (past_of state header)
    (sym (c.at-contexts.ensures ∙ (λ i. context_at (c.reset.ensures i) (c.saved_place.ensures i)) ∙ ap (λ saved. context_at (saved_before header saved) (saved_place header)) stands.contexts))))

pub returns-clause-begun : goal.returns-clause-begun
returns-clause-begun c = λ state stands.
    let header = c.args.header.now in
    let own = c.in_ok-setting.ensures.0 in
    let contexts = c.at-contexts.ensures ∙ (λ i. context_at (c.reset.ensures i) (c.saved_place.ensures i)) ∙ ap (λ saved. context_at (saved_before header saved) (saved_place header)) stands.contexts in
    let segments = c.in_ok-segments_for.ensures.map ∙ (λ i. segments_before header (stands.persist i).size (stands.segments i)) in
    let last = ap (λ a. last_held a) c.in_ok-try_clone.ensures ∙ stands.last in
    record {
      input = input_is state c.in_ok-setting.setting.header header c.args.bytes.now c.args.compressed _ own contexts segments (λ i. vectors_before (own i) (last i))
          ∙ ap (λ (h : Header). input_of state c.args.bytes.now h c.args.compressed) (sym own);
      saved = c.reset.ensures ∙ ap (saved_before header) stands.contexts ∙ ap (λ (h : Header). saved_before h state.contexts) (sym own);
      segments = segments ∙ ap (λ (h : Header). segments_before h (last_size state.last) state.segments) (sym own);
      last = last;
    }

pub returns-clause-sound : goal.returns-clause-sound
returns-clause-sound c =
    let begun = c.in_ok-setting.ensures in
    let own = sym begun.0 in
    record {
      size = subst (λ (h : Header). IsFrameSize h.size) own c.requires.size;
      few = subst (λ (h : Header). AreFewTiles h.params.tiles) own c.requires.few;
      references = subst (λ (h : Header). HaveSizes h.kind) own c.requires.references;
      within = c.requires.placed.1;
      begun = (refl, rw begun.0 begun.1, rw begun.0 begun.2);
      places = subst (λ (h : Header). HasPlaces (Some h.size) (arc_value c.in_ok-segments_for.field-0)) own c.in_ok-segments_for.ensures.places;
    }
