-- Groups, packet by packet.
use Rattle.std.proofs.Common.{◌≡◌, ◌<◌, ◌≤◌, ℕ, List, [], ◌∷◌, ◌++◌, length, map, get_or, refl, sym, ap, subst, ◌∙◌, arith, append_assoc, length-append, inl}
use Rattle.std.specs.Prelude.{Option, Some, None, Result, Ok, Err, OnErr, Vec, slice_range}
use Rattle.std.specs.List.{flat_map}
use Rattle.std.specs.declared.alloc.Global.{Global}
use Rattle.std.proofs.lemmas.Grind.{flat_map-append}
use Rattle.std.proofs.lemmas.List.{append-nil}
use Rattle.std.proofs.lemmas.List.Folds.{length-flat_map-take}
use Rattle.vp9_types.specs.declared.job.Span.{Span}
use Rattle.vp9_types.specs.declared.rule.Rule.{Rule}
use Rattle.ivf_container.specs.Packets.{Packets, header_end, no_packets, packets_of, with_payload}
use Rattle.superframe_index.specs.PayloadFrames.{at_spans, frames_of}
use Rattle.file_frames.specs.FileFrames.{FileFrames, frames_in, joined, split_all, split_packets, with_frames}
use Rattle.packet_reader.proofs.PacketLemmas.{left_behind, none_left, packet_ahead}
use Rattle.packet_reader.proofs.HeaderLemmas.{no_payload_yet}
use Rattle.packet_reader.specs.TakenPackets.{Answer, GivesNext, TakesNext, ahead, begun_at, begun_of, packets_in, rate_told, source_of, stage_of}
use Rattle.packet_reader.specs.declared.reader.PacketReader.{PacketReader}
use Rattle.packet_reader.specs.declared.reader.PacketRefusal.TheVariants as refused
use Rattle.packet_reader.specs.declared.reader.Stage.{Stage}
use Rattle.packet_reader.specs.declared.reader.Stage.TheVariants.{Header, Packet, Ended}
use Rattle.frame_groups.specs.declared.group.Behind.{Behind}
use Rattle.frame_groups.specs.declared.group.Behind.TheVariants.{More, End, Broken, Failed, OutOfMemory}
use Rattle.frame_groups.specs.Groups.{IsGroup, IsReadyAt, LeadAlong, LeadTo, TakesGroup, frames_ahead, payload_frames}
use Rattle.frame_groups.specs.Code.{AddsGroup}
use Rattle.frame_groups.specs.declared.group.FramePayload.{FramePayload}
use Rattle.frame_groups.proofs.PacketSteps.{packet_stays}
use Rattle.frame_groups.proofs.RateLemmas.{rate_again}

---- One packet ----

-- a reader that hasn't ended is asked
pub asked : (stage : Stage) (P : Type 0) (old new : Option (List ℕ)) (answer : Answer) → IsReadyAt stage P → GivesNext stage old new answer → TakesNext stage old new answer
asked Header P old new answer ready gives = gives
asked Packet P old new answer ready gives = gives
asked (Ended refusal) P old new answer ready gives = absurd ready

abbrev pub at_parts : List ℕ → List Span → List (List ℕ)
at_parts payload spans = map (λ span. slice_range payload span.from span.to) spans

pub leads : (stage : Stage) (front payload : List ℕ) (spans : List Span) → packets_in stage front ≡ with_payload payload (no_packets None) → frames_of payload ≡ Ok spans
    → LeadTo stage front (at_parts payload spans) Packet
leads stage front payload spans is parts =
    record { frames_are = λ more. ap frames_in (with_more more); ending_is = λ more. ap (λ (f : FileFrames). f.ending) (with_more more) } where
      with_more : (more : List ℕ) → frames_ahead stage (front ++ more) ≡ with_frames (at_parts payload spans) (frames_ahead Packet more)
      with_more more =
          ap split_packets (packet_stays stage front payload more is)
          ∙ ap (λ (r : Result (List Span) Rule). joined (at_spans payload r) (frames_ahead Packet more)) parts

-- no bytes hold no packet
none_held : (stage : Stage) → (packets_in stage []).payloads ≡ []
unfolding packets_of header_end
none_held Header = refl
none_held Packet = ap (λ (p : Packets). p.payloads) none_left
none_held (Ended refusal) = refl

holds_some : (stage : Stage) (front payload : List ℕ) → packets_in stage front ≡ with_payload payload (no_packets None) → 0 < length front
holds_some stage [] payload is =
    let same : [] ≡ payload ∷ [] = sym (none_held stage) ∙ ap (λ (p : Packets). p.payloads) is in
    let no : ⊥ = cc in
    absurd no
holds_some stage (b ∷ front) payload is = omega arith

none_ahead : (stage : Stage) → frames_in (frames_ahead stage []) ≡ []
unfolding packets_of header_end
none_ahead Header = refl
none_ahead Packet = ap (λ (p : Packets). frames_in (split_packets p)) none_left
none_ahead (Ended refusal) = refl

no_frames_yet : (stage : Stage) (front : List ℕ) → (packets_in stage front).payloads ≡ [] → frames_in (frames_ahead stage front) ≡ []
no_frames_yet stage front none = ap (λ (payloads : List (List ℕ)). frames_in (split_all payloads (packets_in stage front).ending)) none

begun_ahead : (stage : Stage) (begun : Option (List ℕ)) → length (begun_at stage begun) ≤ 4 → frames_in (frames_ahead stage (begun_at stage begun)) ≡ []
begun_ahead Header (Some begun) few = no_frames_yet Header begun (no_payload_yet begun (inl (omega (arith, few))))
begun_ahead Header None few = none_ahead Header
begun_ahead Packet begun few = none_ahead Packet
begun_ahead (Ended refusal) begun few = refl

-- bytes that hold no frame yet
none_along : (stage : Stage) (front : List ℕ) → frames_in (frames_ahead stage front) ≡ [] → LeadAlong stage front []
none_along stage front none = record { frames_are = none; behind_it = λ more. (frames_in (frames_ahead stage (front ++ more)), refl) }

-- nothing was asked: the bytes in front hold no frame
pub no_room : {S : Type 0} (rest : S → Option (List ℕ)) (r : PacketReader S) → length (begun_of r) ≤ 4 → TakesGroup (stage_of r) (ahead rest r) (rest (source_of r)) [] OutOfMemory
no_room rest r few = λ bytes is. let l = left_behind (begun_of r) (rest (source_of r)) bytes is in (begun_of r, l.0, l.2, l.1, none_along (stage_of r) (begun_of r) (begun_ahead (stage_of r) r.front few))

pub at_end : (stage : Stage) (old new : Option (List ℕ)) → TakesNext stage old new (Ok None) → TakesGroup stage old new [] End
at_end stage old new takes = λ bytes told. let h = takes bytes told in
    (h.0, h.1, h.2, h.3, (ap (λ (p : Packets). frames_in (split_packets p)) h.4.0, ap (λ (p : Packets). (split_packets p).ending) h.4.0, h.4.1))

broken_at : (stage : Stage) (bytes : List ℕ) (packets : Packets) (rule : Rule) → packets_in stage bytes ≡ packets → frames_in (split_packets packets) ≡ [] → (split_packets packets).ending ≡ Some rule
    → (frames_in (frames_ahead stage bytes) ≡ []) × ((frames_ahead stage bytes).ending ≡ Some rule)
broken_at stage bytes packets rule is frames ending =
    (ap (λ (p : Packets). frames_in (split_packets p)) is ∙ frames, ap (λ (p : Packets). (split_packets p).ending) is ∙ ending)

pub at_rule : (stage : Stage) (old new : Option (List ℕ)) (rule : Rule) → TakesNext stage old new (Err (refused.Rule rule)) → TakesGroup stage old new [] (Broken rule)
at_rule stage old new rule takes = λ bytes told. let h = takes bytes told in
    (h.0, h.1, h.2, h.3, broken_at stage (h.0 ++ h.1) (no_packets (Some rule)) rule h.4 refl refl)

pub at_fault : (stage : Stage) (old new : Option (List ℕ)) → TakesNext stage old new (Err refused.Failed) → TakesGroup stage old new [] Failed
at_fault stage old new takes = λ bytes told. let h = takes bytes told in (h.0, h.1, h.2, h.3, none_along stage h.0 (no_frames_yet stage h.0 h.4))

pub at_memory : (stage : Stage) (old new : Option (List ℕ)) → TakesNext stage old new (Err refused.OutOfMemory) → TakesGroup stage old new [] OutOfMemory
at_memory stage old new takes = λ bytes told. let h = takes bytes told in (h.0, h.1, h.2, h.3, none_along stage h.0 (no_frames_yet stage h.0 h.4))

-- a payload whose sizes break a rule
pub at_sizes : (stage : Stage) (old new : Option (List ℕ)) (payload : Vec ℕ Global) (rule : Rule) → TakesNext stage old new (Ok (Some payload)) → frames_of payload.items ≡ Err rule
    → TakesGroup stage old new [] (Broken rule)
at_sizes stage old new payload rule takes sizes = λ bytes told. let h = takes bytes told in
    let rest = packets_in Packet h.1 in
    let split : split_packets (with_payload payload.items rest) ≡ record { payloads = []; ending = Some rule } = ap (λ (r : Result (List Span) Rule). joined (at_spans payload.items r) (split_packets rest)) sizes in
    (h.0, h.1, h.2, h.3, broken_at stage (h.0 ++ h.1) (with_payload payload.items rest) rule h.4.1 (ap frames_in split) (ap (λ (f : FileFrames). f.ending) split))

pub at_payload : (stage : Stage) (old new : Option (List ℕ)) (payload : Vec ℕ Global) (spans : List Span) → TakesNext stage old new (Ok (Some payload)) → frames_of payload.items ≡ Ok spans
    → TakesGroup stage old new (at_parts payload.items spans ++ []) More
at_payload stage old new payload spans takes parts =
    subst (λ (frames : List (List ℕ)). TakesGroup stage old new frames More) (sym (append-nil (at_parts payload.items spans)))
    (λ bytes told. let h = takes bytes told in (h.0, h.1, h.2, h.3, (leads stage h.0 payload.items spans h.4.0 parts, holds_some stage h.0 payload.items h.4.0)))

---- One packet more ----

lead_along : (stage next : Stage) (a b : List ℕ) (first frames : List (List ℕ)) → LeadTo stage a first next → LeadAlong next b frames → LeadAlong stage (a ++ b) (first ++ frames)
lead_along stage next a b first frames lead along =
    record {
      frames_are = lead.frames_are b ∙ ap (λ (xs : List (List ℕ)). first ++ xs) along.frames_are;
      behind_it = λ more. let k = along.behind_it more in (
        k.0,
        ap (λ (xs : List ℕ). frames_in (frames_ahead stage xs)) (append_assoc a b more) ∙ lead.frames_are (b ++ more)
            ∙ ap (λ (xs : List (List ℕ)). first ++ xs) k.1 ∙ sym (append_assoc first frames k.0),
      );
    }

group_more : (stage next : Stage) (a b rest : List ℕ) (first frames : List (List ℕ)) (behind : Behind) → LeadTo stage a first next → IsGroup next b rest frames behind
    → IsGroup stage (a ++ b) rest (first ++ frames) behind
group_more stage next a b rest first frames More lead group = (
  record {
    frames_are = λ more. ap (λ (xs : List ℕ). frames_in (frames_ahead stage xs)) (append_assoc a b more) ∙ lead.frames_are (b ++ more)
        ∙ ap (λ (xs : List (List ℕ)). first ++ xs) (group.0.frames_are more) ∙ sym (append_assoc first frames (frames_in (frames_ahead Packet more)));
    ending_is = λ more. ap (λ (xs : List ℕ). (frames_ahead stage xs).ending) (append_assoc a b more) ∙ lead.ending_is (b ++ more) ∙ group.0.ending_is more;
  },
  omega (arith, group.1, length-append a b),
)
group_more stage next a b rest first frames End lead group =
    (lead.frames_are b ∙ ap (λ (xs : List (List ℕ)). first ++ xs) group.0, lead.ending_is b ∙ group.1, group.2)
group_more stage next a b rest first frames (Broken rule) lead group = (
  ap (λ (xs : List ℕ). frames_in (frames_ahead stage xs)) (append_assoc a b rest) ∙ lead.frames_are (b ++ rest) ∙ ap (λ (xs : List (List ℕ)). first ++ xs) group.0,
  ap (λ (xs : List ℕ). (frames_ahead stage xs).ending) (append_assoc a b rest) ∙ lead.ending_is (b ++ rest) ∙ group.1,
)
group_more stage next a b rest first frames Failed lead group = lead_along stage next a b first frames lead group
group_more stage next a b rest first frames OutOfMemory lead group = lead_along stage next a b first frames lead group

pub takes_more : (stage : Stage) (old mid new : Option (List ℕ)) (first frames : List (List ℕ)) (behind : Behind) → TakesGroup stage old mid first More → TakesGroup Packet mid new frames behind
    → TakesGroup stage old new (first ++ frames) behind
takes_more stage old mid new first frames behind takes next = λ bytes told. let h = takes bytes told in let k = next h.1 h.3 in
    (h.0 ++ k.0, k.1, h.2 ∙ ap (λ (xs : List ℕ). h.0 ++ xs) k.2 ∙ sym (append_assoc h.0 k.0 k.1), k.3, group_more stage Packet h.0 k.0 k.1 first frames behind h.4.0 k.4)

---- What is added ----

-- the payload of a packet
pub adds_one : (stage : Stage) (old new : Option (List ℕ)) (before mid after : List FramePayload) (p : FramePayload) → mid ≡ before → after ≡ mid ++ p ∷ [] → TakesGroup stage old new (payload_frames p ++ []) More
    → (more : List FramePayload) × (after ≡ before ++ more) × TakesGroup stage old new (flat_map payload_frames more) More
adds_one stage old new before mid after p same is takes = (p ∷ [], is ∙ ap (λ (xs : List FramePayload). xs ++ p ∷ []) same, takes)

-- one group behind another
pub adds_more : {S : Type 0} (rest : S → Option (List ℕ)) (old mid new : PacketReader S) (before between after : List FramePayload) (behind : Behind) → AddsGroup old mid rest before between More
    → stage_of mid ≡ Packet → AddsGroup mid new rest between after behind → AddsGroup old new rest before after behind
adds_more rest old mid new before between after behind first stands next =
    let one = flat_map payload_frames first.0 in
    let more = flat_map payload_frames next.0 in
    let here = subst (λ (s : Stage). TakesGroup s (ahead rest mid) (rest (source_of new)) more behind) stands next.2 in
    let takes = subst (λ (told : Option (List ℕ)). TakesGroup Packet told (rest (source_of new)) more behind) (packet_ahead rest mid stands) here in (
      first.0 ++ next.0,
      next.1 ∙ ap (λ (xs : List FramePayload). xs ++ next.0) first.1 ∙ append_assoc before first.0 next.0,
      subst (λ (frames : List (List ℕ)). TakesGroup (stage_of old) (ahead rest old) (rest (source_of new)) frames behind) (sym (flat_map-append payload_frames first.0 next.0))
          (takes_more (stage_of old) (ahead rest old) (rest (source_of mid)) (rest (source_of new)) one more behind first.2 takes),
      rate_again (stage_of mid) (stage_of old) (ahead rest old) (ahead rest mid) (rate_told old) (rate_told mid) (rate_told new) one more (flat_map payload_frames (first.0 ++ next.0)) behind
          first.3 stands next.3,
    )

---- Nothing more ----

pub frames_alone : (stage : Stage) (front : List ℕ) (frames : List (List ℕ)) → LeadTo stage front frames Packet → frames_in (frames_ahead stage front) ≡ frames
frames_alone stage front frames lead =
    ap (λ (xs : List ℕ). frames_in (frames_ahead stage xs)) (sym (append-nil front)) ∙ lead.frames_are [] ∙ ap (λ (xs : List (List ℕ)). frames ++ xs) (none_ahead Packet) ∙ append-nil frames

pub ends_alone : (stage : Stage) (front : List ℕ) (frames : List (List ℕ)) → LeadTo stage front frames Packet → (frames_ahead stage front).ending ≡ None
ends_alone stage front frames lead =
    ap (λ (xs : List ℕ). (frames_ahead stage xs).ending) (sym (append-nil front)) ∙ lead.ending_is [] ∙ ap (λ (p : Packets). (split_packets p).ending) none_left

---- A group that has frames ----

none_long : {A : Type 0} (xs : List A) → length xs ≡ 0 → xs ≡ []
none_long [] none = refl
none_long (x ∷ xs) none = absurd cc

none_in_each : {X A : Type 0} (f : X → List A) (xs : List X) (i : ℕ) (d : X) → i < length xs → flat_map f xs ≡ [] → f (get_or xs i d) ≡ []
none_in_each f xs i d low none = none_long (f (get_or xs i d)) (omega (arith, length-flat_map-take f xs i d low, ap length none))

-- a payload that has frames is one of these
pub some_in_all : (payloads items : List FramePayload) (i : ℕ) (p : FramePayload) → items ≡ payloads → i < length items → p ≡ get_or items i p → (payload_frames p ≡ [] → ⊥)
    → flat_map payload_frames payloads ≡ [] → ⊥
some_in_all payloads items i p same low is some none =
    some (ap payload_frames is ∙ none_in_each payload_frames items i p low (ap (flat_map payload_frames) same ∙ none))

pub on_any_err : {T E P : Type 0} (r : Result T E) → P → OnErr r P
on_any_err (Ok x) p = tt
on_any_err (Err e) p = p
