use Rattle.std.proofs.Common.{◌∙◌, ap, sym, subst}
use Rattle.std.specs.Prelude.{Some}
use Rattle.block_geometry.specs.FrameShapes.{places_of}
use Rattle.frame_headers.specs.HeaderState.{next_persist, shape_of, is_key}
use Rattle.frame_headers.specs.declared.persist.Persist.{Persist}
use Rattle.frame_state.specs.KeptColumns.{blocks_of}
use Rattle.frame_state.specs.FrameReading.{all_blocks}
use Rattle.inter_modes.specs.LeftSegments.{segments_after}
use Rattle.prob_contexts.specs.ProbLists.{lists_of}
use Rattle.seq_decoder.specs.After.{segments_before}
use Rattle.seq_decoder.specs.Code.{HasPlaces, last_held, saved_lists}
use Rattle.seq_decoder.specs.DecoderState.{last_is_key, last_size}
use Rattle.seq_decoder.specs.SavedContexts.{context_at, own_contexts}
use Rattle.seq_decoder.proofs.FrameLemmas.{contexts_after, shapes_after, sized_of, slots_after}
use Rattle.seq_decoder.proofs.Slots.{persist_after}
use Rattle.seq_decoder.proofs.decoder.Decoder.keep.Goals as goal

pub returns-clause-stands : goal.returns-clause-stands
returns-clause-stands c = λ number state r begun at.
    let header = c.args.header.now in
    let found = c.args.self.now.saved in record {
      persist = c.next-self.ensures.persists ∙ ap (next_persist header) begun.persist ∙ sym (persist_after number state header r);
      contexts = contexts_after header r (last_is_key state.last) state.contexts (saved_lists c.save.new.self) (saved_lists found) (lists_of c.own_contexts-own.result) (lists_of c.at-before.result) c.save.ensures
          (c.own_contexts-own.ensures r at.holds.contexts at.holds.counts ∙ ap (λ key. own_contexts header key r (lists_of c.at-before.result)) (c.after_key.ensures ∙ ap last_is_key begun.last))
          (c.at-before.ensures ∙ ap (λ place. context_at (saved_lists found) place) c.saved_place.ensures) begun.contexts;
      slots = slots_after number state header c.args.coded r c.args.self.now.table c.refresh.new.self at begun.slots c.refresh.ensures.pictures c.refresh.ensures.slots;
      segments = c.keep_segments.ensures.map
          ∙ (λ i. segments_after header.params.segmentation (places_of (shape_of header)) (all_blocks (blocks_of (c.deref.ensures.value i))) (begun.segments i))
          ∙ ap (λ blocks. segments_after header.params.segmentation (places_of (shape_of header)) (all_blocks blocks) (segments_before header (last_size state.last) state.segments)) at.holds.blocks;
      last = ap last_held c.replace_last.ensures ∙ ap (λ blocks. Some (record { size = header.size; shown = header.show_frame; key = is_key header.kind; blocks = all_blocks blocks })) at.holds.blocks;
    }

pub returns-clause-may : goal.returns-clause-may
returns-clause-may c = record {
  sized = c.next-self.ensures.sizes c.requires.size (sized_of c.args.self.now.persist (Some c.args.header.now.size) c.requires.may.sized);
  table_is = c.refresh.ensures.table;
  shapes = shapes_after c.args.header.now c.args.coded c.requires.at.0 c.args.self.now.table c.refresh.new.self c.args.self.now.persist.slots c.requires.at.1 c.requires.may.shapes c.refresh.ensures.pictures c.refresh.ensures.slots
      ∙ ap (λ (p : Persist). p.slots) (sym c.next-self.ensures.persists);
  few = rw c.refresh.ensures.pictures c.requires.may.few;
  places = subst (λ (p : Persist). HasPlaces p.size c.keep_segments.new.map) (sym c.next-self.ensures.persists) c.keep_segments.ensures.places;
}
