-- What a frame adds.
use Rattle.std.proofs.Common.{◌≡◌, ℕ, zero, suc, List, [], ◌∷◌, true, ap, sym, subst, refl, ◌∙◌, arith}
use Rattle.std.specs.Prelude.{All, OnOk, Bool, false, if◌then◌else◌, IfSome, Option, Some, None, Result, Ok, Err, ◌<◌, get_or, length, map, slice_get}
use Rattle.std.proofs.lemmas.List.Elements.{All-head, All-tail}
use Rattle.std.proofs.lemmas.Option.{slice_get_within}
use Rattle.edge_io.specs.Putting.{TakesFront}
use Rattle.edge_io.specs.declared.sink.PutFault.{PutFault}
use Rattle.edge_io.specs.declared.sink.PutFault.TheVariants as refused
use Rattle.edge_io.proofs.Fronts.{takes_none}
use Rattle.vp9_types.specs.declared.rule.Rule.{Rule}
use Rattle.vp9_types.specs.declared.rule.Rule.TheVariants.{OutputShape}
use Rattle.vp9_types.specs.declared.outcome.Outcome.{Outcome}
use Rattle.vp9_types.specs.declared.outcome.Outcome.TheVariants as outcome
use Rattle.file_frames.specs.Walks.{Added}
use Rattle.vp9_types.specs.Maps.{FrameMap}
use Rattle.vp9_types.specs.declared.shape.Shape.{Shape}
use Rattle.frame_headers.specs.declared.header.Header.{Header}
use Rattle.frame_headers.proofs.SlotLemmas.{refreshed_told}
use Rattle.frame_headers.specs.HeaderState.{SlotsHaveSizes, refreshed, shape_of}
use Rattle.frame_headers.specs.declared.header.FrameSize.{FrameSize}
use Rattle.frame_headers.specs.declared.persist.Persist.{Persist}
use Rattle.picture_table.specs.Code.{IsBelow, IsSoundAt, IsTable, NamesSound, held, held_in, shown}
use Rattle.picture_table.specs.declared.table.PictureTable.{PictureTable}
use Rattle.backward_adapt.specs.Adaptation.{adaptation}
use Rattle.backward_adapt.specs.declared.kind.AdaptKind.{AdaptKind}
use Rattle.prob_contexts.specs.Code.{counts_after, no_counts}
use Rattle.prob_contexts.specs.ProbLists.{ContextLists}
use Rattle.prob_contexts.specs.declared.kind.CountedBool.{CountedBool}
use Rattle.picture_table.specs.KeptPictures.{IsSound, map_of_any, shape_of_any}
use Rattle.picture_table.specs.declared.any.AnyPicture.{AnyPicture}
use Rattle.frame_decoder.specs.DecodedFrames.{FrameResult}
use Rattle.frame_state.specs.Code.{counts_if}
use Rattle.frame_state.specs.Sources.{adapts}
use Rattle.frame_state.specs.declared.halt.Halt.{Halt}
use Rattle.frame_state.specs.declared.halt.Halt.TheVariants as halt
use Rattle.seq_decoder.specs.After.{Stepped, after_coded, picture_of, state_after}
use Rattle.seq_decoder.specs.SavedContexts.{context_at, adapt_kind, own_contexts, saved_place, saved_before, with_own, saved_after}
use Rattle.seq_decoder.specs.Code.{StandsFor, shape_told, put_text, shown_of, told_picture, Adds, HasBegun, IsAt, IsCoded, MayDecode, Shows, Halts, Puts, halt_outcome, refusal_outcome}
use Rattle.seq_decoder.specs.Outputs.{Putting, admits, form_after, put, shown_text}
use Rattle.seq_decoder.specs.declared.form.OutputForm.{OutputForm}
use Rattle.seq_decoder.specs.Outcomes.{outcome_at}
use Rattle.seq_decoder.specs.DecoderState.{Picture, State}
use Rattle.seq_decoder.specs.declared.coding.Coded.{Coded}
use Rattle.seq_decoder.specs.declared.decoder.Decoder.{Decoder}

---- A frame that can't be decoded, or written ----

pub rule_halts : (number : ℕ) (r : Result (Added Putting ℕ) Rule) (rule : Rule) (old : Option (List ℕ)) (faults : ℕ) → r ≡ Err rule → Halts number r old old faults faults (outcome_at number rule)
rule_halts number r rule old faults is = record { ends = is; frame = refl; none = takes_none old; quiet = refl }

-- for want of memory, before anything is written
pub wants_memory : (number : ℕ) (r : Result (Added Putting ℕ) Rule) (old : Option (List ℕ)) (faults : ℕ) → Halts number r old old faults faults (halt_outcome number halt.OutOfMemory)
wants_memory number r old faults = ((0, omega arith, takes_none old), refl)

-- at a frame that can't be decoded
pub frame_halted : (number : ℕ) (form : OutputForm) (state : State) (header : Header) (d : Result FrameResult Rule) (h : Halt) (table : PictureTable) (old : Option (List ℕ)) (faults : ℕ) → IsCoded header d table (Err h)
    → Halts number (put form (after_coded number state header d)) old old faults faults (halt_outcome number h)
frame_halted number form state header d (halt.Broken rule) table old faults is = rule_halts number (put form (after_coded number state header d)) rule old faults (ap (λ f. put form (after_coded number state header f)) is)
frame_halted number form state header d halt.OutOfMemory table old faults is = wants_memory number (put form (after_coded number state header d)) old faults

-- how a picture is put doesn't depend on its number
pub puts_told : (number : ℕ) (shown : Option Picture) (form after : OutputForm) (old new : Option (List ℕ)) (faults now : ℕ) (r : Result (Unit {0}) Outcome)
    → Puts number (told_picture (shown_of shown)) form after old new faults now r → Puts number shown form after old new faults now r
puts_told number None form after old new faults now r h = h
puts_told number (Some picture) form after old new faults now (Ok u) h = h
puts_told number (Some picture) form after old new faults now (Err outcome.Done) h = h
puts_told number (Some picture) form after old new faults now (Err (outcome.Broken stop)) h = h
puts_told number (Some picture) form after old new faults now (Err outcome.ReadFault) h = h
puts_told number (Some picture) form after old new faults now (Err outcome.WriteFault) h = h
puts_told number (Some picture) form after old new faults now (Err outcome.OutOfMemory) h = h

pub puts_as : (number : ℕ) (told : Option (Shape × FrameMap)) (shown : Option Picture) (form after : OutputForm) (old new : Option (List ℕ)) (faults now : ℕ) (r : Result (Unit {0}) Outcome) → told ≡ shown_of shown
    → Puts number (told_picture told) form after old new faults now r → Puts number shown form after old new faults now r
puts_as number told shown form after old new faults now r is h =
    puts_told number shown form after old new faults now r (subst (λ t. Puts number (told_picture t) form after old new faults now r) is h)

abbrev put_if : OutputForm → Stepped → Bool → Result (Added Putting ℕ) Rule
put_if form next fits = if fits then Ok (record { state = record { state = next.state; form = form_after form next.shown }; adds = shown_text form next.shown }) else Err OutputShape

fits_as : (form : OutputForm) (r : Result Stepped Rule) (next : Stepped) (fits : Bool) → r ≡ Ok next → admits form next.shown ≡ fits → put form r ≡ put_if form next fits
fits_as form r next fits is admitted = ap (put form) is ∙ ap (put_if form next) admitted

-- at a frame that isn't written
pub put_halts : (number : ℕ) (form after : OutputForm) (r : Result Stepped Rule) (next : Stepped) (old new : Option (List ℕ)) (faults now : ℕ) (o : Outcome) → r ≡ Ok next
    → Puts number next.shown form after old new faults now (Err o) → Halts number (put form r) old new faults now o
put_halts number form after r next old new faults now outcome.Done is h = h
put_halts number form after r next old new faults now (outcome.Broken stop) is h = record {
  ends = fits_as form r next false is h.0 ∙ ap (λ s. Err s.rule) (sym h.1);
  frame = ap (λ s. s.frame) h.1;
  none = h.2;
  quiet = h.3;
}
put_halts number form after r next old new faults now outcome.ReadFault is h = h
put_halts number form after r next old new faults now outcome.WriteFault is h = (subst (λ p. TakesFront old new (put_text p)) (sym (fits_as form r next true is h.0)) h.1, h.2)
put_halts number form after r next old new faults now outcome.OutOfMemory is h = (subst (λ p. TakesFront old new (put_text p)) (sym (fits_as form r next true is h.0)) h.1, h.2)

-- at one that the sink refuses
pub refused_puts : (number : ℕ) (what : Option Picture) (form after : OutputForm) (old new : Option (List ℕ)) (faults now : ℕ) (refusal : PutFault) → admits form what ≡ true
    → Shows (shown_text form what) old new faults now (Err refusal) → Puts number what form after old new faults now (Err (refusal_outcome refusal))
refused_puts number what form after old new faults now refused.Failed fits h = (fits, h.0, h.1)
refused_puts number what form after old new faults now refused.OutOfMemory fits h = (fits, h.0, h.1)

---- What is kept of a frame ----

pub shown_at : (header : Header) (table : PictureTable) (c : Coded) (result : FrameResult) (at : IsAt header table c result) → held_in table.pictures.items (Some c.place) ≡ Some (shape_of header, result.map)
shown_at header table c result at = ap shown at.there ∙ (λ i. Some (at.holds.shape i, at.holds.map i))

-- what the slots hold behind a frame
pub slots_after : (number : ℕ) (state : State) (header : Header) (c : Coded) (result : FrameResult) (table new : PictureTable) → IsAt header table c result
    → held table ≡ map shown_of state.slots → new.pictures ≡ table.pictures → new.slots ≡ refreshed header.refresh c.place table.slots
    → held new ≡ map shown_of (state_after number state header result).slots
slots_after number state header c result table new at same pictures slots =
    let told : Shape × FrameMap = (shape_of header, result.map) in
    (λ i. map (held_in (pictures i).items) (slots i))
    ∙ refreshed_told (held_in table.pictures.items) table.slots header.refresh c.place told (shown_at header table c result at)
    ∙ ap (refreshed header.refresh told) same
    ∙ sym (refreshed_told shown_of state.slots header.refresh (picture_of number header result) told refl)

-- their shapes are those that headers read
pub shapes_after : (header : Header) (c : Coded) (result : FrameResult) (table new : PictureTable) (slots : List (Option Shape)) → IsAt header table c result
    → map shape_told (held table) ≡ slots → new.pictures ≡ table.pictures → new.slots ≡ refreshed header.refresh c.place table.slots
    → map shape_told (held new) ≡ refreshed header.refresh (shape_of header) slots
shapes_after header c result table new slots at same pictures is =
    let told : Shape × FrameMap = (shape_of header, result.map) in
    ap (map shape_told)
    ((λ i. map (held_in (pictures i).items) (is i)) ∙ refreshed_told (held_in table.pictures.items) table.slots header.refresh c.place told (shown_at header table c result at))
    ∙ refreshed_told shape_told (held table) header.refresh told (shape_of header) refl
    ∙ ap (refreshed header.refresh (shape_of header)) same

-- the place of a frame is there
pub place_there : (header : Header) (table : PictureTable) (c : Coded) (result : FrameResult) → IsAt header table c result → c.place < length table.pictures.items
place_there header table c result at = slice_get_within table.pictures.items c.place at.picture at.there

pub sized_of : (p : Persist) (size : Option FrameSize) → SlotsHaveSizes (record p { size = size }) → SlotsHaveSizes p
unfolding SlotsHaveSizes
sized_of p size h = h

pub sized_with : (p : Persist) (size : Option FrameSize) → SlotsHaveSizes p → SlotsHaveSizes (record p { size = size })
unfolding SlotsHaveSizes
sized_with p size h = h

-- the saved contexts behind a frame
pub contexts_after : (header : Header) (r : FrameResult) (after_key : Bool) (saved new found : List ContextLists) (own before : ContextLists) → new ≡ with_own header own found
    → own ≡ own_contexts header after_key r before → before ≡ context_at found (saved_place header) → found ≡ saved_before header saved → new ≡ saved_after header after_key r saved
unfolding saved_after
contexts_after header r after_key saved new found own before is_new is_own is_before is_found =
    is_new ∙ (λ i. with_own header (is_own i) (is_found i)) ∙ ap (λ b. with_own header (own_contexts header after_key r b) (saved_before header saved)) (is_before ∙ ap (λ f. context_at f (saved_place header)) is_found)

-- a frame's own contexts, where its probabilities are adapted
pub own_adapted : (header : Header) (after_key on : Bool) (r : FrameResult) (kind : AdaptKind) (counts : List ℕ) (own before forward : ContextLists)
    → on ≡ adapts header → on ≡ true → kind ≡ adapt_kind header.kind after_key → forward ≡ r.contexts → counts ≡ counts_if (adapts header) r.counted
    → ((bools : List CountedBool) → counts ≡ counts_after no_counts bools → own ≡ adaptation kind bools before forward)
    → own ≡ own_contexts header after_key r before
own_adapted header after_key on r kind counts own before forward is yes_is kind_is forward_is counts_is adapted =
    let adapting : adapts header ≡ true = sym is ∙ yes_is in
    rw adapting (adapted r.counted (rw adapting at counts_is) ∙ (λ i. adaptation (kind_is i) r.counted before (forward_is i)))

---- A slot that is shown ----

-- what the code holds in a slot is what the state holds there
pub slot_told : (xs : List (Option Picture)) (slots : List (Option ℕ)) (pictures : List AnyPicture) (n : ℕ) → map (held_in pictures) slots ≡ map shown_of xs
    → held_in pictures (get_or slots n None) ≡ shown_of (get_or xs n None)
slot_told [] [] pictures n same = refl
slot_told [] (s ∷ slots) pictures n same = absurd cc
slot_told (x ∷ xs) [] pictures n same = absurd cc
slot_told (x ∷ xs) (s ∷ slots) pictures zero same = heads same
  where
    heads : {A : Type 0} {a b : A} {rest others : List A} → a ∷ rest ≡ b ∷ others → a ≡ b
    heads e = cc
slot_told (x ∷ xs) (s ∷ slots) pictures (suc n) same = slot_told xs slots pictures n (tails same)
  where
    tails : {A : Type 0} {a b : A} {rest others : List A} → a ∷ rest ≡ b ∷ others → rest ≡ others
    tails e = cc

named_sound : (pictures : List AnyPicture) (slots : List (Option ℕ)) (n place : ℕ) → All (NamesSound pictures) slots → get_or slots n None ≡ Some place → IsSoundAt pictures place
named_sound pictures [] n place all is = absurd cc
named_sound pictures (s ∷ slots) zero place all is = subst (NamesSound pictures) is (All-head (NamesSound pictures) s slots all)
named_sound pictures (s ∷ slots) (suc n) place all is = named_sound pictures slots n place (All-tail (NamesSound pictures) s slots all) is

named_there : (count : ℕ) (slots : List (Option ℕ)) (n place : ℕ) → All (IsBelow count) slots → get_or slots n None ≡ Some place → place < count
named_there count [] n place all is = absurd cc
named_there count (s ∷ slots) zero place all is = subst (IsBelow count) is (All-head (IsBelow count) s slots all)
named_there count (s ∷ slots) (suc n) place all is = named_there count slots n place (All-tail (IsBelow count) s slots all) is

pub got_there : (pictures : List AnyPicture) (place : ℕ) (d : AnyPicture) → place < length pictures → slice_get pictures place ≡ Some (get_or pictures place d)
got_there [] place d low = absurd (omega (arith, low))
got_there (p ∷ pictures) zero d low = refl
got_there (p ∷ pictures) (suc place) d low = got_there pictures place d (omega (arith, low))

pub shown_place : (t : PictureTable) (n place : ℕ) → IsTable t → get_or t.slots n None ≡ Some place → place < length t.pictures.items
shown_place t n place h is = named_there (length t.pictures.items) t.slots n place h.within is

pub is_at : (t : PictureTable) (n place : ℕ) (got : AnyPicture) → IsTable t → get_or t.slots n None ≡ Some place → got ≡ get_or t.pictures.items place got → slice_get t.pictures.items place ≡ Some got
is_at t n place got h is same = got_there t.pictures.items place got (shown_place t n place h is) ∙ ap (λ p. Some p) (sym same)

pub shown_sound : (t : PictureTable) (n place : ℕ) (got : AnyPicture) → IsTable t → get_or t.slots n None ≡ Some place → got ≡ get_or t.pictures.items place got → IsSound got
shown_sound t n place got h is same = subst (λ o. IfSome o IsSound) (is_at t n place got h is same) (named_sound t.pictures.items t.slots n place h.sound is)

-- what a slot names is there, and sound
pub slot_below : (t : PictureTable) (n : ℕ) (place : Option ℕ) → IsTable t → place ≡ get_or t.slots n None → IsBelow (length t.pictures.items) place
slot_below t n None h is = tt
slot_below t n (Some place) h is = shown_place t n place h (sym is)

pub slot_sound : (t : PictureTable) (n : ℕ) (place : Option ℕ) → IsTable t → place ≡ get_or t.slots n None → NamesSound t.pictures.items place
slot_sound t n None h is = tt
slot_sound t n (Some place) h is = named_sound t.pictures.items t.slots n place h.sound (sym is)

-- and what is told of it
pub slot_shows : (d : Decoder) (state : State) (n : ℕ) (place : Option ℕ) → StandsFor d state → place ≡ get_or d.table.slots n None
    → held_in d.table.pictures.items place ≡ shown_of (get_or state.slots n None)
slot_shows d state n place stands is = ap (held_in d.table.pictures.items) is ∙ slot_told state.slots d.table.slots d.table.pictures.items n stands.slots

---- A frame that is put changes nothing but how the next one is ----

pub may_put : (d after : Decoder) (size : FrameSize) → after ≡ record d { form = after.form; text = after.text } → MayDecode (record d { persist = record d.persist { size = Some size } })
    → MayDecode (record after { persist = record after.persist { size = Some size } })
may_put d after size same h =
    subst (λ (x : Decoder). MayDecode (record x { persist = record x.persist { size = Some size } })) (sym same)
    (record { sized = h.sized; table_is = h.table_is; shapes = h.shapes; few = h.few; places = h.places })

pub may_shown : (d after : Decoder) → after ≡ record d { form = after.form; text = after.text } → MayDecode d → MayDecode after
may_shown d after same h =
    subst (λ (x : Decoder). MayDecode x) (sym same) (record { sized = h.sized; table_is = h.table_is; shapes = h.shapes; few = h.few; places = h.places })

pub begun_put : (header : Header) (d after : Decoder) (state : State) → after ≡ record d { form = after.form; text = after.text } → HasBegun header d state → HasBegun header after state
begun_put header d after state same h =
    subst (λ (x : Decoder). HasBegun header x state) (sym same) (record { persist = h.persist; contexts = h.contexts; slots = h.slots; segments = h.segments; last = h.last })

pub stands_put : (d after : Decoder) (state : State) → after ≡ record d { form = after.form; text = after.text } → StandsFor d state → StandsFor after state
stands_put d after state same h =
    subst (λ (x : Decoder). StandsFor x state) (sym same) (record { persist = h.persist; contexts = h.contexts; slots = h.slots; segments = h.segments; last = h.last })

pub at_put : (header : Header) (d after : Decoder) (c : Coded) (r : FrameResult) → after ≡ record d { form = after.form; text = after.text } → IsAt header d.table c r → IsAt header after.table c r
at_put header d after c r same h = subst (λ (x : Decoder). IsAt header x.table c r) (sym same) h

---- The picture at a place is put ----

-- what is told of a picture
abbrev pub told_by : AnyPicture → Picture
told_by picture = record { frame = 0; shape = shape_of_any picture; map = map_of_any picture }

picture_there : (pictures : List AnyPicture) (o : Option ℕ) (place : ℕ) (got : AnyPicture) → o ≡ Some place → IsBelow (length pictures) o → got ≡ get_or pictures place got
    → slice_get pictures place ≡ Some got
picture_there pictures o place got is there same = got_there pictures place got (subst (IsBelow (length pictures)) is there) ∙ ap (λ p. Some p) (sym same)

pub puts_there : (number : ℕ) (pictures : List AnyPicture) (o : Option ℕ) (place : ℕ) (got : AnyPicture) (form after : OutputForm) (old new : Option (List ℕ)) (faults now : ℕ) (r : Result (Unit {0}) Outcome)
    → o ≡ Some place → IsBelow (length pictures) o → got ≡ get_or pictures place got → Puts number (Some (told_by got)) form after old new faults now r
    → Puts number (told_picture (held_in pictures o)) form after old new faults now r
puts_there number pictures o place got form after old new faults now r is there same h =
    subst (λ t. Puts number (told_picture t) form after old new faults now r) (sym (ap (held_in pictures) is ∙ ap shown (picture_there pictures o place got is there same))) h

pub sound_there : (pictures : List AnyPicture) (o : Option ℕ) (place : ℕ) (got : AnyPicture) → o ≡ Some place → IsBelow (length pictures) o → got ≡ get_or pictures place got → NamesSound pictures o → IsSound got
sound_there pictures o place got is there same sound = subst (λ p. IfSome p IsSound) (picture_there pictures o place got is there same) (subst (NamesSound pictures) is sound)

-- what a slot shows is put, or the run ends there
pub shown_adds : (number : ℕ) (form : OutputForm) (state : State) (what : Option Picture) (d : Decoder) (old new : Option (List ℕ)) (faults now : ℕ) (r : Result (Unit {0}) Outcome) → StandsFor d state
    → Puts number what form d.form old new faults now r → Adds number form (Ok (record { state = state; shown = what })) d old new faults now r
shown_adds number form state what d old new faults now (Ok u) stands h = (record { state = state; shown = what }, refl, stands, h.0, h.1, h.2, h.3)
shown_adds number form state what d old new faults now (Err o) stands h =
    put_halts number form d.form (Ok (record { state = state; shown = what })) (record { state = state; shown = what }) old new faults now o refl h

pub on_ok : {A E : Type 0} (r : Result A E) (P : Type 0) → P → OnOk r P
on_ok (Ok x) P h = h
on_ok (Err e) P h = tt
