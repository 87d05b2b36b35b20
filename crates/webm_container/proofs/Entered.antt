-- The walk over what is spelled in Tracks, and the track that is chosen there.
use Rattle.std.proofs.Common.{◌≡◌, ℕ, ◌+◌, ◌≤◌, List, [], ◌∷◌, ◌++◌, length, drop, refl, sym, ap, ◌∙◌, arith, Bool, true, false, length-append, append_assoc, inl, inr, ◌≢◌}
use Rattle.std.specs.Prelude.{Option, Some, None, Result, Ok, nat_eq, nat_lt, nat_le, slice_range, if◌then◌else◌, ◌⊎◌, Err}
use Rattle.std.specs.List.{AllByRecursion}
use Rattle.std.proofs.lemmas.Bool.{le-leb, le-ltb, eqb-true, eqb-false, ltb-false}
use Rattle.byteorder.specs.Endian.{big_number}
use Rattle.vp9_types.specs.Results.{◌>>=◌}
use Rattle.vp9_types.specs.declared.rule.Rule.{Rule}
use Rattle.webm_container.specs.TrackEntries.{new_entry, is_vp9, number_in, first_said, noted, usable, chosen_by, chosen}
use Rattle.webm_container.specs.Walk.{moved_on, with_track, in_tracks, tracks_step, entry_step, webm_packets_from}
use Rattle.webm_container.specs.Webm as webm
use Rattle.webm_container.specs.Webm.{Head, head_bytes, id_of, IsHead, Other, other_bytes, others_bytes, IsOther, first_content, codec_is_vp9, SaysNumber, IsNotEncoded, IsChosen, InTracks, tracks_element, tracks_bytes, AreTracks}
use Rattle.webm_container.specs.declared.cursor.Parent.TheVariants as parent
use Rattle.webm_container.specs.declared.cursor.WebmCursor.{WebmCursor}
use Rattle.webm_container.specs.declared.elements.Element.{Element}
use Rattle.webm_container.specs.Ids as the
use Rattle.webm_container.specs.declared.entries.TrackEntry.{TrackEntry}
use Rattle.webm_container.specs.declared.entries.TrackNumber.{TrackNumber}
use Rattle.webm_container.specs.declared.entries.TrackNumber.TheVariants.{Is}
use Rattle.webm_container.specs.declared.steps.WebmStep.{WebmStep}
use Rattle.webm_container.specs.declared.steps.WebmStep.TheVariants.{Moved}
use Rattle.webm_container.proofs.Spelled.{if_false, if_true, differs, agrees, after, range, known_there, content_there}
use Rattle.webm_container.proofs.Tests.{by_test}
use Rattle.webm_container.proofs.Moves.{moves}
use Rattle.webm_container.proofs.Clusters.{known_of, content_end, not_yet}

---- What an entry says ----

-- an entry, and an element with this content, by the tests of its id
abbrev pub noted_by : Bool → Bool → Bool → TrackEntry → List ℕ → TrackEntry
noted_by codec number encodings entry content =
    if codec then record entry { is_vp9 = first_said entry.is_vp9 (is_vp9 content) }
    else (if number then record entry { number = first_said entry.number (number_in content) }
    else (if encodings then record entry { encoded = true }
    else entry))

abbrev pub note : TrackEntry → ℕ → List ℕ → TrackEntry
note entry id content = noted_by (nat_eq id the.codec_id) (nat_eq id the.track_number) (nat_eq id the.content_encodings) entry content

abbrev pub notes : TrackEntry → List Other → TrackEntry
notes entry [] = entry
notes entry (e ∷ more) = notes (note entry (id_of e.head) e.content) more

abbrev or_else : {A : Type 0} → Option A → Option A → Option A
or_else None y = y
or_else (Some x) y = Some x

abbrev mapped : {A B : Type 0} → (A → B) → Option A → Option B
mapped f None = None
mapped f (Some x) = Some (f x)

first_step : {A B : Type 0} (f : A → B) (said : Option B) (content : A) (rest : Option A) → or_else (first_said said (f content)) (mapped f rest) ≡ or_else said (mapped f (Some content))
first_step f None content rest = refl
first_step f (Some x) content rest = refl

codec_step : (codec number encodings : Bool) (entry : TrackEntry) (content : List ℕ) (rest : Option (List ℕ))
    → or_else (noted_by codec number encodings entry content).is_vp9 (mapped is_vp9 rest) ≡ or_else entry.is_vp9 (mapped is_vp9 (if codec then Some content else rest))
codec_step true number encodings entry content rest = first_step is_vp9 entry.is_vp9 content rest
codec_step false true encodings entry content rest = refl
codec_step false false true entry content rest = refl
codec_step false false false entry content rest = refl

number_step : (codec number encodings : Bool) (entry : TrackEntry) (content : List ℕ) (rest : Option (List ℕ)) → (codec ≡ true → number ≡ false)
    → or_else (noted_by codec number encodings entry content).number (mapped number_in rest) ≡ or_else entry.number (mapped number_in (if number then Some content else rest))
number_step true number encodings entry content rest apart = sym (ap (λ b. or_else entry.number (mapped number_in (if b then Some content else rest))) (apart refl))
number_step false true encodings entry content rest apart = first_step number_in entry.number content rest
number_step false false true entry content rest apart = refl
number_step false false false entry content rest apart = refl

encoded_step : (codec number encodings : Bool) (entry : TrackEntry) (content : List ℕ) → encodings ≡ false → (noted_by codec number encodings entry content).encoded ≡ entry.encoded
encoded_step true number encodings entry content none = refl
encoded_step false true encodings entry content none = refl
encoded_step false false encodings entry content none = ap (λ b. (noted_by false false b entry content).encoded) none

no_number : (id : ℕ) → nat_eq id the.codec_id ≡ true → nat_eq id the.track_number ≡ false
no_number id is = ap (λ k. nat_eq k the.track_number) (eqb-true id the.codec_id is)

codec_said : (elements : List Other) (entry : TrackEntry) → (notes entry elements).is_vp9 ≡ or_else entry.is_vp9 (mapped is_vp9 (first_content the.codec_id elements))
codec_said [] entry = sym (none_more entry.is_vp9) where
  none_more : (said : Option Bool) → or_else said None ≡ said
  none_more None = refl
  none_more (Some x) = refl
codec_said (e ∷ more) entry =
    let id = id_of e.head in
    codec_said more (note entry id e.content)
    ∙ codec_step (nat_eq id the.codec_id) (nat_eq id the.track_number) (nat_eq id the.content_encodings) entry e.content (first_content the.codec_id more)

number_said : (elements : List Other) (entry : TrackEntry) → (notes entry elements).number ≡ or_else entry.number (mapped number_in (first_content the.track_number elements))
number_said [] entry = sym (none_more entry.number) where
  none_more : (said : Option TrackNumber) → or_else said None ≡ said
  none_more None = refl
  none_more (Some x) = refl
number_said (e ∷ more) entry =
    let id = id_of e.head in
    number_said more (note entry id e.content)
    ∙ number_step (nat_eq id the.codec_id) (nat_eq id the.track_number) (nat_eq id the.content_encodings) entry e.content (first_content the.track_number more) (no_number id)

encoded_said : (elements : List Other) (entry : TrackEntry) → IsNotEncoded elements → (notes entry elements).encoded ≡ entry.encoded
encoded_said [] entry none = refl
encoded_said (e ∷ more) entry none =
    let id = id_of e.head in
    encoded_said more (note entry id e.content) none.1
    ∙ encoded_step (nat_eq id the.codec_id) (nat_eq id the.track_number) (nat_eq id the.content_encodings) entry e.content (differs id the.content_encodings none.0)

abbrev Track : Type 0
Track = Result (Option ℕ) Rule

not_vp9 : (codec : Option (List ℕ)) (track : Track) → codec_is_vp9 codec ≡ false → chosen_by (mapped is_vp9 codec) track ≡ Ok None
not_vp9 None track other = refl
not_vp9 (Some content) track other = ap (λ b. chosen_by (Some b) track) other

is_vp9_entry : (codec : Option (List ℕ)) (track : Track) → codec_is_vp9 codec ≡ true → chosen_by (mapped is_vp9 codec) track ≡ track
is_vp9_entry None track yes_it_is = cc
is_vp9_entry (Some content) track yes_it_is = ap (λ b. chosen_by (Some b) track) yes_it_is

can_use : (content : Option (List ℕ)) (number : ℕ) → SaysNumber content number → usable (mapped number_in content) false ≡ Ok (Some number)
can_use None number says = absurd says
can_use (Some content) number says =
    let is : number_in content ≡ Is (big_number (length content) content) =
    if_false (nat_eq (length content) 0) _ _ (differs (length content) 0 (λ e. omega (arith, e, says.0)))
    ∙ if_false (nat_lt 8 (length content)) _ _ (le-ltb 8 (length content) says.1) in
    ap (λ n. usable (Some n) false) is ∙ ap some_track (sym says.2) where
      some_track : ℕ → Track
      some_track n = Ok (Some n)

abbrev ok_track : Option ℕ → Track
ok_track track = Ok track

pub is_chosen : (before : Option ℕ) (elements : List Other) (after : Option ℕ) → IsChosen before elements after → chosen before (notes new_entry elements) ≡ Ok after
is_chosen (Some track) elements after h = ap ok_track (sym h)
is_chosen None elements after (inl h) =
    let entry = notes new_entry elements in
    ap (λ said. chosen_by said (usable entry.number entry.encoded)) (codec_said elements new_entry)
    ∙ not_vp9 (first_content the.codec_id elements) (usable entry.number entry.encoded) h.0
    ∙ ap ok_track (sym h.1)
is_chosen None elements after (inr h) =
    let entry = notes new_entry elements in
    ap (λ said. chosen_by said (usable entry.number entry.encoded)) (codec_said elements new_entry)
    ∙ is_vp9_entry (first_content the.codec_id elements) (usable entry.number entry.encoded) h.1
    ∙ ap (λ n. usable n entry.encoded) (number_said elements new_entry)
    ∙ ap (usable (mapped number_in (first_content the.track_number elements))) (encoded_said elements new_entry h.3)
    ∙ can_use (first_content the.track_number elements) h.0 h.2
    ∙ ap ok_track (sym h.4)

---- The walk ----

module _ (bytes : List ℕ) (segment : ℕ) (fits : segment ≤ length bytes) where
  abbrev in_entry_at : ℕ → ℕ → Option ℕ → TrackEntry → ℕ → WebmCursor
  in_entry_at tracks to track entry at = record { at = at; segment = segment; parent = parent.Entry tracks to entry; track = track }

  abbrev in_tracks_at : ℕ → Option ℕ → ℕ → WebmCursor
  in_tracks_at to track at = record { at = at; segment = segment; parent = parent.Tracks to; track = track }

  abbrev moved_to : WebmCursor → Result WebmStep Rule
  moved_to d = Ok (Moved d)

  entry_reads : (tracks to at : ℕ) (track : Option ℕ) (entry : TrackEntry) (e : Other) (rest : List ℕ) → drop at bytes ≡ other_bytes e ++ rest → IsOther e → at + length (other_bytes e) ≤ to
      → entry_step bytes (in_entry_at tracks to track entry at) tracks to entry ≡ Ok (Moved (in_entry_at tracks to track (note entry (id_of e.head) e.content) (at + length (other_bytes e))))
  unfolding entry_step
  entry_reads tracks to at track entry e rest here h room =
      let c = in_entry_at tracks to track entry at in
      let from = at + length (head_bytes e.head) in
      let behind = at + length (other_bytes e) in
      let end : behind ≡ from + length e.content = content_end e.head e.content at in
      let content : slice_range bytes from behind ≡ e.content = ap (slice_range bytes from) end ∙ range bytes e.content rest from (content_there bytes e.content rest e.head at here) in
      if_false (nat_le to at) _ _ (not_yet false (length e.content) e.head e.content at to h room)
      ∙ ap (λ (r : Result Element Rule). r >>= (λ element. moved_on c element.to (parent.Entry tracks to (noted bytes entry element)))) (known_there bytes e.content rest e.head at to here h room)
      ∙ ap (λ xs. moved_to (in_entry_at tracks to track (note entry (id_of e.head) xs) behind)) content

  over_entry : (tracks to : ℕ) → to ≤ tracks → tracks ≤ segment → (track : Option ℕ) (elements : List Other) (entry : TrackEntry) (at : ℕ) (rest : List ℕ) → AllByRecursion IsOther elements
      → drop at bytes ≡ others_bytes elements ++ rest → at + length (others_bytes elements) ≤ to
      → webm_packets_from bytes (in_entry_at tracks to track entry at) ≡ webm_packets_from bytes (in_entry_at tracks to track (notes entry elements) (at + length (others_bytes elements)))
  over_entry tracks to inner outer track [] entry at rest all here room =
      let none : at ≡ at + 0 = omega arith in
      ap (λ k. webm_packets_from bytes (in_entry_at tracks to track entry k)) none
  over_entry tracks to inner outer track (e ∷ more) entry at rest all here room =
      let n = length (other_bytes e) in
      let behind = others_bytes more in
      let long : length (other_bytes e ++ behind) ≡ n + length behind = length-append (other_bytes e) behind in
      let first : drop at bytes ≡ other_bytes e ++ (behind ++ rest) = here ∙ append_assoc (other_bytes e) behind rest in
      let next = note entry (id_of e.head) e.content in
      let to_there : at + n + length behind ≡ at + length (other_bytes e ++ behind) = omega (arith, long) in
      moves bytes (in_entry_at tracks to track entry at) (in_entry_at tracks to track next (at + n)) (omega arith, inner, outer, fits)
      (entry_reads tracks to at track entry e (behind ++ rest) first all.0 (omega (arith, long)))
      ∙ over_entry tracks to inner outer track more next (at + n) rest all.1 (after bytes (other_bytes e) (behind ++ rest) at first) (omega (arith, long))
      ∙ ap (λ k. webm_packets_from bytes (in_entry_at tracks to track (notes next more) k)) to_there

  entry_ends : (tracks to : ℕ) → to ≤ tracks → tracks ≤ segment → (before next : Option ℕ) (elements : List Other) → IsChosen before elements next
      → webm_packets_from bytes (in_entry_at tracks to before (notes new_entry elements) to) ≡ webm_packets_from bytes (in_tracks_at tracks next to)
  unfolding entry_step
  entry_ends tracks to inner outer before next elements h =
      let c = in_entry_at tracks to before (notes new_entry elements) to in
      moves bytes c (in_tracks_at tracks next to) (omega arith, inner, outer, fits)
      (if_true (nat_le to to) _ _ (le-leb to to (omega arith)) ∙ ap (λ (r : Track). r >>= with_track c tracks) (is_chosen before elements next h))

  tracks_reads : (to at : ℕ) (track : Option ℕ) (head : Head) (content rest : List ℕ) → drop at bytes ≡ (head_bytes head ++ content) ++ rest → IsHead false (length content) head → at + length (head_bytes head ++ content) ≤ to
      → tracks_step bytes (in_tracks_at to track at) to ≡ in_tracks (in_tracks_at to track at) to (known_of head content at to)
  unfolding tracks_step
  tracks_reads to at track head content rest here h room =
      if_false (nat_le to at) _ _ (not_yet false (length content) head content at to h room)
      ∙ ap (λ (r : Result Element Rule). r >>= in_tracks (in_tracks_at to track at) to) (known_there bytes content rest head at to here h room)

  pub over_tracks : (to : ℕ) → to ≤ segment → (items : List InTracks) (before last : Option ℕ) (at : ℕ) (rest : List ℕ) → AreTracks before items last
      → drop at bytes ≡ tracks_bytes items ++ rest → at + length (tracks_bytes items) ≤ to
      → webm_packets_from bytes (in_tracks_at to before at) ≡ webm_packets_from bytes (in_tracks_at to last (at + length (tracks_bytes items)))
  over_tracks to outer [] before last at rest are here room =
      let none : at ≡ at + 0 = omega arith in
      ap (λ k. webm_packets_from bytes (in_tracks_at to before k)) none ∙ ap (λ t. webm_packets_from bytes (in_tracks_at to t (at + 0))) (sym are)
  over_tracks to outer (webm.track_entry head elements ∷ more) before last at rest are here room =
      let content = others_bytes elements in
      let spelled = head_bytes head ++ content in
      let behind = tracks_bytes more in
      let long : length (spelled ++ behind) ≡ length spelled + length behind = length-append spelled behind in
      let first : drop at bytes ≡ spelled ++ (behind ++ rest) = here ∙ append_assoc spelled behind rest in
      let inner = at + length (head_bytes head) in
      let end = at + length spelled in
      let ends : end ≡ inner + length content = content_end head content at in
      let room_here : end ≤ to = omega (arith, long) in
      let next = are.3.0 in
      let to_there : end + length behind ≡ at + length (spelled ++ behind) = omega (arith, long) in
      moves bytes (in_tracks_at to before at) (in_entry_at to end before new_entry inner) (omega arith, outer, fits)
      (tracks_reads to at before head content (behind ++ rest) first are.0 room_here ∙ if_true (nat_eq (id_of head) the.track_entry) _ _ (agrees _ _ are.1))
      ∙ over_entry to end room_here outer before elements new_entry inner (behind ++ rest) are.2 (content_there bytes content (behind ++ rest) head at first) (omega (arith, ends))
      ∙ ap (λ k. webm_packets_from bytes (in_entry_at to end before (notes new_entry elements) k)) (sym ends)
      ∙ entry_ends to end room_here outer before next elements are.3.1
      ∙ over_tracks to outer more next last end rest are.3.2 (after bytes spelled (behind ++ rest) at first) (omega (arith, long))
      ∙ ap (λ k. webm_packets_from bytes (in_tracks_at to last k)) to_there
  over_tracks to outer (webm.other_in_tracks e ∷ more) before last at rest are here room =
      let spelled = other_bytes e in
      let behind = tracks_bytes more in
      let long : length (spelled ++ behind) ≡ length spelled + length behind = length-append spelled behind in
      let first : drop at bytes ≡ spelled ++ (behind ++ rest) = here ∙ append_assoc spelled behind rest in
      let end = at + length spelled in
      let room_here : end ≤ to = omega (arith, long) in
      let to_there : end + length behind ≡ at + length (spelled ++ behind) = omega (arith, long) in
      moves bytes (in_tracks_at to before at) (in_tracks_at to before end) (omega arith, outer, fits)
      (tracks_reads to at before e.head e.content (behind ++ rest) first are.0 room_here ∙ if_false (nat_eq (id_of e.head) the.track_entry) _ _ (differs _ _ are.1))
      ∙ over_tracks to outer more before last end rest are.2 (after bytes spelled (behind ++ rest) at first) (omega (arith, long))
      ∙ ap (λ k. webm_packets_from bytes (in_tracks_at to last k)) to_there

---- The other way: what is chosen is said ----

stays_encoded : (elements : List Other) (entry : TrackEntry) → entry.encoded ≡ true → (notes entry elements).encoded ≡ true
stays_encoded [] entry h = h
stays_encoded (e ∷ more) entry h =
    let id = id_of e.head in
    stays_encoded more (note entry id e.content) (kept (nat_eq id the.codec_id) (nat_eq id the.track_number) (nat_eq id the.content_encodings) entry e.content h) where
      kept : (codec number encodings : Bool) (entry : TrackEntry) (content : List ℕ) → entry.encoded ≡ true → (noted_by codec number encodings entry content).encoded ≡ true
      kept true number encodings entry content h = h
      kept false true encodings entry content h = h
      kept false false true entry content h = refl
      kept false false false entry content h = h

not_encoded_back : (elements : List Other) (entry : TrackEntry) → (notes entry elements).encoded ≡ false → IsNotEncoded elements
not_encoded_back [] entry h = tt
not_encoded_back (e ∷ more) entry h =
    let id = id_of e.head in
    let n = note entry id e.content in
    let apart : id ≢ the.content_encodings = λ is.
    let noted_so : n.encoded ≡ true = ap (λ k. (note entry k e.content).encoded) is in
    let stays = stays_encoded more n noted_so in
    let bad : ⊥ = cc in
    bad in
    (apart, not_encoded_back more n h)

-- what the end of an entry of no chosen track comes to
abbrev Picks : Option (List ℕ) → Option (List ℕ) → Bool → Option ℕ → Type 0
Picks codec content encoded after =
    ((codec_is_vp9 codec ≡ false) × (after ≡ None))
    ⊎ ((number : ℕ) × (codec_is_vp9 codec ≡ true) × SaysNumber content number × (encoded ≡ false) × (after ≡ Some number))

picks_number : (codec : List ℕ) (content : List ℕ) (encoded : Bool) (after : Option ℕ) → is_vp9 codec ≡ true → usable (Some (number_in content)) encoded ≡ Ok after → Picks (Some codec) (Some content) encoded after
picks_number codec content encoded after vp9 is =
    by_test (λ n. usable (Some n) encoded ≡ Ok after → Picks (Some codec) (Some content) encoded after) (nat_eq (length content) 0) _ _ (λ _ bad. absurd (err_not_ok bad)) (λ some.
    by_test (λ n. usable (Some n) encoded ≡ Ok after → Picks (Some codec) (Some content) encoded after) (nat_lt 8 (length content)) _ _ (λ _ bad. absurd (err_not_ok bad)) (λ few.
    let a = eqb-false (length content) 0 some in
    let b = ltb-false 8 (length content) few in
    by_encoded encoded (omega arith) b)) is where
      err_not_ok : {rule : Rule} → Err rule ≡ Ok after → ⊥
      err_not_ok bad = cc

      by_encoded : (encoded : Bool) → 1 ≤ length content → length content ≤ 8 → usable (Some (Is (big_number (length content) content))) encoded ≡ Ok after → Picks (Some codec) (Some content) encoded after
      by_encoded true low high bad = absurd (err_not_ok bad)
      by_encoded false low high good =
          let same : after ≡ Some (big_number (length content) content) = cc in
          inr (big_number (length content) content, vp9, (low, high, refl), refl, same)

picks : (codec content : Option (List ℕ)) (encoded : Bool) (after : Option ℕ) → chosen_by (mapped is_vp9 codec) (usable (mapped number_in content) encoded) ≡ Ok after → Picks codec content encoded after
picks None content encoded after is =
    let same : after ≡ None = cc in
    inl (refl, same)
picks (Some codec) content encoded after is = by_codec (is_vp9 codec) refl is where
  by_codec : (b : Bool) → is_vp9 codec ≡ b → chosen_by (Some b) (usable (mapped number_in content) encoded) ≡ Ok after → Picks (Some codec) content encoded after
  by_codec false b is =
      let same : after ≡ None = cc in
      inl (b, same)
  by_codec true b is = by_content content b is where
    by_content : (content : Option (List ℕ)) → is_vp9 codec ≡ true → usable (mapped number_in content) encoded ≡ Ok after → Picks (Some codec) content encoded after
    by_content None b is =
        let bad : ⊥ = cc in
        absurd bad
    by_content (Some xs) b is = picks_number codec xs encoded after b is

pub is_chosen_back : (before : Option ℕ) (elements : List Other) (after : Option ℕ) → chosen before (notes new_entry elements) ≡ Ok after → IsChosen before elements after
is_chosen_back (Some track) elements after is =
    let same : after ≡ Some track = cc in
    same
is_chosen_back None elements after is =
    let entry = notes new_entry elements in
    told (picks (first_content the.codec_id elements) (first_content the.track_number elements) entry.encoded after
    (sym (ap (λ said. chosen_by said (usable entry.number entry.encoded)) (codec_said elements new_entry)
    ∙ ap (λ n. chosen_by (mapped is_vp9 (first_content the.codec_id elements)) (usable n entry.encoded)) (number_said elements new_entry)) ∙ is)) where
      told : Picks (first_content the.codec_id elements) (first_content the.track_number elements) (notes new_entry elements).encoded after → IsChosen None elements after
      told (inl h) = inl h
      told (inr h) = inr (h.0, h.1, h.2, not_encoded_back elements new_entry h.3, h.4)
