use Rattle.std.proofs.Common.{◌∙◌, ap, sym, subst, refl, arith}
use Rattle.std.specs.Prelude.{Some, map, slice_set}
use Rattle.std.specs.Vec.{with_item}
use Rattle.std.proofs.lemmas.List.{length-set}
use Rattle.std.proofs.lemmas.Option.{slice_get_within}
use Rattle.std.proofs.lemmas.Result.{err_from_is_err_and}
use Rattle.picture_table.specs.KeptPictures.{IsBlankAs}
use Rattle.picture_table.proofs.Places.{held_beside, put_there, table_beside}
use Rattle.frame_decoder.specs.DecodedFrames.{decoded}
use Rattle.seq_decoder.specs.After.{input_of, past_of, references_of, segments_before, vectors_before}
use Rattle.frame_decoder.proofs.PlainFrames.{frame_breaks}
use Rattle.frame_headers.specs.declared.header.Header.{Header}
use Rattle.seq_decoder.specs.Code.{HasPlaces, HoldsFrame, NamesHeld, segments_held, shape_told}
use Rattle.seq_decoder.specs.SavedContexts.{context_at, saved_place, saved_before}
use Rattle.seq_decoder.proofs.FrameLemmas.{sized_with}
use Rattle.seq_decoder.proofs.PastLemmas.{coded_halts, input_is}
use Rattle.seq_decoder.proofs.ShowingLemmas.{picture_is}
use Rattle.seq_decoder.proofs.decoder.Decoder.decode_picture.Goals as goal

pub returns-in_err-setting-clause-coded : goal.returns-in_err-setting-clause-coded
returns-in_err-setting-clause-coded c = λ state stands.
    let p = err_from_is_err_and c.from_residual.result c.from_residual.ensures.1 in
    let header = c.args.header.now in
    rw (p.1, p.2) (frame_breaks (references_of state.slots header.kind) (input_of state c.args.bytes.now header c.args.compressed) _ (c.in_err-setting.ensures (past_of state header)
    (sym (c.at-before.ensures ∙ (λ i. context_at (c.reset.ensures i) (c.saved_place.ensures i)) ∙ ap (λ saved. context_at (saved_before header saved) (saved_place header)) stands.contexts))))

pub decode_begun-decoded-requires-clause-few : goal.decode_begun-decoded-requires-clause-few
decode_begun-decoded-requires-clause-few c = rw c.in_ok-setting.ensures.0 c.requires.few

pub decode_begun-decoded-requires-clause-begun : goal.decode_begun-decoded-requires-clause-begun
decode_begun-decoded-requires-clause-begun c =
    let begun = c.in_ok-setting.ensures in (refl, rw begun.0 begun.1, rw begun.0 begun.2)

pub decode_begun-decoded-requires-clause-past : goal.decode_begun-decoded-requires-clause-past
decode_begun-decoded-requires-clause-past c =
    let places = subst (HasPlaces (Some c.args.header.now.size)) c.segments_of.ensures c.in_ok-begin_segments.ensures.places in
    rw c.in_ok-setting.ensures.0 (record { rows = places.0; cols = places.1; vectors = c.vectors_before.ensures.are })

pub decode_begun-decoded-requires-clause-table : goal.decode_begun-decoded-requires-clause-table
decode_begun-decoded-requires-clause-table c =
    table_beside c.blank.new.self _ c.in_ok-place.place c.replace-picture.new.dest c.in_ok-place.ensures.free refl refl c.blank.ensures.table

pub decode_begun-decoded-requires-clause-held : goal.decode_begun-decoded-requires-clause-held
decode_begun-decoded-requires-clause-held c =
    let t = c.blank.new.self in
    rw c.in_ok-setting.ensures.0
    (subst (NamesHeld c.args.header.now) (sym (held_beside t.pictures.items c.in_ok-place.place c.replace-picture.new.dest t.slots c.in_ok-place.ensures.free ∙ c.blank.ensures.held)) c.requires.held)

pub decode_begun-decoded-requires-clause-blank : goal.decode_begun-decoded-requires-clause-blank
decode_begun-decoded-requires-clause-blank c =
    let blank = c.in_ok-place.ensures.blank in
    let same = c.replace-picture.ensures.value ∙ picture_is c.blank.new.self.pictures.items c.in_ok-place.place blank.0 c.index_mut.result.now blank.1 c.index_mut.ensures.value in
    rw (same, c.in_ok-setting.ensures.0) (subst (λ s. IsBlankAs s blank.0) c.shape.ensures blank.2)

pub returns-in_err-decoded-clause-coded : goal.returns-in_err-decoded-clause-coded
returns-in_err-decoded-clause-coded c = λ state stands.
    let p = err_from_is_err_and c.from_residual-in_err-decoded.result c.from_residual-in_err-decoded.ensures.1 in
    let header = c.args.header.now in
    let t = c.blank.new.self in
    let place = c.in_ok-place.place in
    let dest = c.replace-picture.new.dest in
    let still = held_beside t.pictures.items place dest t.slots c.in_ok-place.ensures.free ∙ c.blank.ensures.held in
    let input =
    input_is state _ header c.args.bytes.now c.args.compressed _ c.in_ok-setting.ensures.0
    (c.at-before.ensures ∙ (λ i. context_at (c.reset.ensures i) (c.saved_place.ensures i)) ∙ ap (λ saved. context_at (saved_before header saved) (saved_place header)) stands.contexts)
    (ap segments_held (sym c.segments_of.ensures) ∙ c.in_ok-begin_segments.ensures.map ∙ (λ i. segments_before header (stands.persist i).size (stands.segments i)))
    (c.vectors_before.ensures.blocks ∙ ap (vectors_before header) stands.last) in
    rw (p.1, p.2) (coded_halts header _ _ _ _ c.decode_begun-decoded.new.picture t _ (ap (λ (h : Header). references_of state.slots h.kind) c.in_ok-setting.ensures.0) input (c.in_err-decoded.ensures.decoded state.slots (still ∙ stands.slots)))

pub index_mut-requires-2 : goal.index_mut-requires-2
index_mut-requires-2 c =
    let blank = c.in_ok-place.ensures.blank in
    omega (arith, slice_get_within c.blank.new.self.pictures.items c.in_ok-place.place blank.0 blank.1)

pub returns-clause-coded : goal.returns-clause-coded
returns-clause-coded c = λ state stands.
    let blank = c.in_ok-place.ensures.blank in
    let header = c.args.header.now in
    let t = c.blank.new.self in
    let place = c.in_ok-place.place in
    let dest = c.replace-picture.new.dest in
    let still = held_beside t.pictures.items place dest t.slots c.in_ok-place.ensures.free ∙ c.blank.ensures.held in
    let input =
    input_is state _ header c.args.bytes.now c.args.compressed _ c.in_ok-setting.ensures.0
    (c.at-before.ensures ∙ (λ i. context_at (c.reset.ensures i) (c.saved_place.ensures i)) ∙ ap (λ saved. context_at (saved_before header saved) (saved_place header)) stands.contexts)
    (ap segments_held (sym c.segments_of.ensures) ∙ c.in_ok-begin_segments.ensures.map ∙ (λ i. segments_before header (stands.persist i).size (stands.segments i)))
    (c.vectors_before.ensures.blocks ∙ ap (vectors_before header) stands.last) in
    let decodes = c.in_ok-decoded.ensures.decoded state.slots (still ∙ stands.slots) in
    let pictures = ap (λ (h : Header). references_of state.slots h.kind) c.in_ok-setting.ensures.0 in (
      decodes.0,
      (λ i. decoded (sym pictures i) (sym input i)) ∙ decodes.1,
      record {
        picture = c.decode_begun-decoded.new.picture;
        there = put_there (slice_set t.pictures.items place dest) place dest c.decode_begun-decoded.new.picture (put_there t.pictures.items place blank.0 dest blank.1);
        free = c.in_ok-place.ensures.free;
        holds = subst (λ h. HoldsFrame h c.decode_begun-decoded.new.picture c.in_ok-decoded.field-0 decodes.0) c.in_ok-setting.ensures.0 decodes.2;
      },
    )

pub returns-clause-at : goal.returns-clause-at
returns-clause-at c =
    let decodes = c.in_ok-decoded.ensures.left in
    let blank = c.in_ok-place.ensures.blank in
    let t = c.blank.new.self in
    let place = c.in_ok-place.place in
    let dest = c.replace-picture.new.dest in (
      decodes.0,
      record {
        picture = c.decode_begun-decoded.new.picture;
        there = put_there (slice_set t.pictures.items place dest) place dest c.decode_begun-decoded.new.picture (put_there t.pictures.items place blank.0 dest blank.1);
        free = c.in_ok-place.ensures.free;
        holds = subst (λ h. HoldsFrame h c.decode_begun-decoded.new.picture c.in_ok-decoded.field-0 decodes.0) c.in_ok-setting.ensures.0 decodes.1;
      },
    )

pub returns-clause-begun : goal.returns-clause-begun
returns-clause-begun c = λ state stands.
    let header = c.args.header.now in
    let t = c.blank.new.self in
    let place = c.in_ok-place.place in
    let dest = c.replace-picture.new.dest in
    let still = held_beside t.pictures.items place dest t.slots c.in_ok-place.ensures.free ∙ c.blank.ensures.held in
    let kept = held_beside (slice_set t.pictures.items place dest) place c.decode_begun-decoded.new.picture t.slots c.in_ok-place.ensures.free ∙ still in record {
      persist = stands.persist;
      contexts = c.reset.ensures ∙ ap (saved_before header) stands.contexts;
      slots = kept ∙ stands.slots;
      segments = c.in_ok-begin_segments.ensures.map ∙ (λ i. segments_before header (stands.persist i).size (stands.segments i));
      last = stands.last;
    }

pub returns-clause-may : goal.returns-clause-may
returns-clause-may c =
    let header = c.args.header.now in
    let t = c.blank.new.self in
    let place = c.in_ok-place.place in
    let dest = c.replace-picture.new.dest in
    let still = held_beside t.pictures.items place dest t.slots c.in_ok-place.ensures.free ∙ c.blank.ensures.held in
    let kept = held_beside (slice_set t.pictures.items place dest) place c.decode_begun-decoded.new.picture t.slots c.in_ok-place.ensures.free ∙ still in record {
      sized = sized_with c.args.self.now.persist (Some header.size) c.requires.may.sized;
      table_is = table_beside (record { pictures = with_item t.pictures place dest; slots = t.slots }) _ place c.decode_begun-decoded.new.picture c.in_ok-place.ensures.free refl refl
          (table_beside t _ place dest c.in_ok-place.ensures.free refl refl c.blank.ensures.table);
      shapes = ap (map shape_told) kept ∙ c.requires.may.shapes;
      few = omega (arith, length-set (slice_set t.pictures.items place dest) place c.decode_begun-decoded.new.picture, length-set t.pictures.items place dest, c.blank.ensures.few, c.requires.may.few);
      places = c.in_ok-begin_segments.ensures.places;
    }

pub returns-in_err-decoded-clause-table : goal.returns-in_err-decoded-clause-table
returns-in_err-decoded-clause-table c =
    let t = c.blank.new.self in
    let place = c.in_ok-place.place in
    let dest = c.replace-picture.new.dest in
    let still = held_beside t.pictures.items place dest t.slots c.in_ok-place.ensures.free ∙ c.blank.ensures.held in (
      table_beside (record { pictures = with_item t.pictures place dest; slots = t.slots }) _ place c.decode_begun-decoded.new.picture c.in_ok-place.ensures.free refl refl
          (table_beside t _ place dest c.in_ok-place.ensures.free refl refl c.blank.ensures.table),
      held_beside (slice_set t.pictures.items place dest) place c.decode_begun-decoded.new.picture t.slots c.in_ok-place.ensures.free ∙ still,
    )

pub returns-clause-table : goal.returns-clause-table
returns-clause-table c =
    let t = c.blank.new.self in
    let place = c.in_ok-place.place in
    let dest = c.replace-picture.new.dest in
    let still = held_beside t.pictures.items place dest t.slots c.in_ok-place.ensures.free ∙ c.blank.ensures.held in (
      table_beside (record { pictures = with_item t.pictures place dest; slots = t.slots }) _ place c.decode_begun-decoded.new.picture c.in_ok-place.ensures.free refl refl
          (table_beside t _ place dest c.in_ok-place.ensures.free refl refl c.blank.ensures.table),
      held_beside (slice_set t.pictures.items place dest) place c.decode_begun-decoded.new.picture t.slots c.in_ok-place.ensures.free ∙ still,
    )
