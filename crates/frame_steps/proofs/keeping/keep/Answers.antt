use Rattle.std.proofs.Common.{◌∙◌, ap, sym, refl}
use Rattle.std.specs.Prelude.{Some}
use Rattle.block_geometry.specs.FrameShapes.{places_of}
use Rattle.frame_headers.proofs.SlotLemmas.{refreshed_told}
use Rattle.frame_headers.specs.HeaderState.{next_persist, refreshed, shape_of, is_key}
use Rattle.seq_decoder.specs.frame_state.KeptColumns.{blocks_of}
use Rattle.seq_decoder.specs.frame_state.FrameReading.{FrameInput, all_blocks}
use Rattle.inter_modes.specs.LeftSegments.{segments_after}
use Rattle.prob_contexts.specs.ProbLists.{lists_of}
use Rattle.seq_decoder.specs.After.{picture_of, segments_before}
use Rattle.seq_decoder.specs.Code.{last_held, saved_lists}
use Rattle.seq_decoder.specs.SavedContexts.{context_at, own_contexts, saved_place}
use Rattle.seq_decoder.specs.DecoderState.{last_is_key, last_size}
use Rattle.seq_decoder.proofs.FrameLemmas.{contexts_after}
use Rattle.seq_decoder.proofs.Slots.{persist_after}
use Rattle.frame_steps.specs.Kept.{number_in}
use Rattle.frame_steps.proofs.keeping.keep.Goals as goal

pub returns-clause-stands : goal.returns-clause-stands
returns-clause-stands c = λ state r stands begins leaves.
    let header = c.args.frame.now.setting.header in
    let found = c.args.frame.now.saved in
    record {
      persist = c.next.ensures.persists ∙ ap (next_persist header) stands.persist ∙ sym (persist_after c.args.number state header r);
      contexts = contexts_after header r (last_is_key state.last) state.contexts (saved_lists c.save.new.self) (saved_lists found) (lists_of c.own_contexts-own.result) (lists_of c.args.frame.now.contexts) c.save.ensures
          (c.own_contexts-own.ensures r leaves.contexts leaves.counts ∙ ap (λ key. own_contexts header key r (lists_of c.args.frame.now.contexts)) (c.after_key.ensures ∙ ap last_is_key (ap last_held c.deref.ensures ∙ begins.last)))
          (ap (λ (i : FrameInput). i.past.contexts) begins.input ∙ ap (λ saved. context_at saved (saved_place header)) (sym begins.saved))
          begins.saved;
      slots = c.refresh_slots.ensures ∙ ap (refreshed header.refresh c.args.number) stands.slots ∙ sym (refreshed_told number_in state.slots header.refresh (picture_of c.args.number header r) c.args.number refl);
      segments = c.in_ok-segments.ensures.map
          ∙ (λ i. segments_after header.params.segmentation (places_of (shape_of header)) (all_blocks (blocks_of (c.deref-2.ensures.value i))) (begins.segments i))
          ∙ ap (λ blocks. segments_after header.params.segmentation (places_of (shape_of header)) (all_blocks blocks) (segments_before header (last_size state.last) state.segments)) leaves.blocks;
      last = ap last_held c.in_ok-new.ensures.ok ∙ ap (λ blocks. Some (record { size = header.size; shown = header.show_frame; key = is_key header.kind; blocks = all_blocks blocks })) leaves.blocks;
    }
