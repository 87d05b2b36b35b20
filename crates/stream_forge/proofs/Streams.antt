-- A stream, as its frames are made one after another.
use Rattle.std.proofs.Common.{◌≡◌, ◌∙◌, ℕ, suc, ◌+◌, ◌-◌, ◌^◌, ◌<◌, ◌≤◌, List, [], ◌∷◌, ◌++◌, length, true, false, refl, sym, ap, append_assoc, arith, subst}
use Rattle.std.specs.Prelude.{IfOk, is_some, Option, Some, None, Result, Ok, Err}
use Rattle.std.proofs.lemmas.List.{append-nil, length-append}
use Rattle.vp9_types.specs.declared.rule.Rule.{Rule}
use Rattle.frame_headers.specs.declared.header.Uncompressed.{Uncompressed}
use Rattle.header_writer.specs.declared.choices.Choices.{Choices}
use Rattle.container_writer.specs.Files.{file_header, packet_of}
use Rattle.ivf_container.specs.Packets.{written_bytes}
use Rattle.drawn_frames.specs.drawn_symbols.declared.draws.Draws.{Draws}
use Rattle.drawn_frames.specs.MadeFrames as headers
use Rattle.drawn_frames.specs.frame_writer.declared.written.NotWritten.{NotWritten}
use Rattle.drawn_frames.specs.frame_writer.declared.written.NotWritten.TheVariants.{Unsaid, TooLong, OutOfMemory}
use Rattle.drawn_frames.specs.frame_writer.declared.written.Written.{Written}
use Rattle.seq_decoder.specs.Code.{StandsFor}
use Rattle.seq_decoder.specs.DecoderState.{State, start_state}
use Rattle.seq_decoder.specs.declared.decoder.Decoder.{Decoder}
use Rattle.stream_forge.specs.Code.{Gives, GivesTo, IsLost, IsMadeAfter, IsSoFar, Passes}
use Rattle.stream_forge.specs.MadeFiles.{left_behind_head, choices_at, head_at, packet_bytes_from}
use Rattle.stream_forge.specs.FileReads.{AreMade, EndsBefore, IsFrameOf, IsMadeFrame, IsNone, IsReadAsDrawn}
use Rattle.stream_forge.proofs.Heads.{made_next}

none_less : (n : ℕ) → n - 0 ≡ n
none_less n = omega arith

pub none_made : (number count : ℕ) (decoder : Decoder) (draws : Draws) (out old : List ℕ) → StandsFor decoder start_state → draws.x ≡ number → out ≡ old ++ file_header 520 136 30 1 count → old ≡ []
    → IsSoFar number count 0 decoder draws out
none_made number count decoder draws out old stands from put none = record {
  state = start_state;
  stands = stands;
  frames = [];
  put = put ∙ ap (λ l. l ++ file_header 520 136 30 1 count) none ∙ sym (append-nil (file_header 520 136 30 1 count));
  many = refl;
  rest = λ others made. rw (none_less count, from) at made;
}

packets_more : (n : ℕ) (frames : List (List ℕ)) (frame : List ℕ) → packet_bytes_from n (frames ++ frame ∷ []) ≡ packet_bytes_from n frames ++ written_bytes (packet_of (n + length frames) frame)
packets_more n [] frame =
    let same : n ≡ n + 0 = omega arith in
    append-nil (written_bytes (packet_of n frame)) ∙ ap (λ n. written_bytes (packet_of n frame)) same
packets_more n (f ∷ frames) frame =
    let same : n + 1 + length frames ≡ n + suc (length frames) = omega arith in
    ap (λ l. written_bytes (packet_of n f) ++ l) (packets_more (n + 1) frames frame ∙ ap (λ m. packet_bytes_from (n + 1) frames ++ written_bytes (packet_of m frame)) same)
    ∙ sym (append_assoc (written_bytes (packet_of n f)) (packet_bytes_from (n + 1) frames) (written_bytes (packet_of (n + length (f ∷ frames)) frame)))

one_left : (count n : ℕ) → n < count → count - n ≡ suc (count - (n + 1))
one_left count n below = omega (arith, below)

pub one_made : (number count n : ℕ) (decoder after_it : Decoder) (draws rest : Draws) (out more bytes : List ℕ) → n < count → (far : IsSoFar number count n decoder draws out)
    → ((state : State) → StandsFor decoder state → IsMadeFrame n state draws.x bytes rest.x) → length bytes < 2 ^ 32 → Passes n decoder bytes after_it → more ≡ out ++ written_bytes (packet_of n bytes)
    → IsSoFar number count (n + 1) after_it rest more
one_made number count n decoder after_it draws rest out more bytes below far gives small passes put =
    let p = passes far.state far.stands in
    let header = file_header 520 136 30 1 count in
    let at : 0 + length far.frames ≡ n = omega (arith, far.many) in record {
      state = p.0.state;
      stands = p.2;
      frames = far.frames ++ bytes ∷ [];
      put = put ∙ ap (λ l. l ++ written_bytes (packet_of n bytes)) far.put ∙ append_assoc header (packet_bytes_from 0 far.frames) (written_bytes (packet_of n bytes))
          ∙ ap (λ l. header ++ l) (ap (λ n. packet_bytes_from 0 far.frames ++ written_bytes (packet_of n bytes)) (sym at) ∙ sym (packets_more 0 far.frames bytes));
      many = length-append far.frames (bytes ∷ []) ∙ ap (λ n. n + 1) far.many;
      rest = λ others made.
          rw (append_assoc far.frames (bytes ∷ []) others) (far.rest (bytes ∷ others) (rw (one_left count n below) (rest.x, gives far.state far.stands, small, (p.0, p.1, made))));
    }

-- it ends before a frame that there can't be
ends_at : (count n : ℕ) (state : State) (x : ℕ) → n < count → EndsBefore n state x → AreMade n (count - n) state x []
ends_at count n state x below ends = rw (one_left count n below) ends

pub ends_here : (number count n : ℕ) (decoder : Decoder) (draws : Draws) (out : List ℕ) → n < count → (far : IsSoFar number count n decoder draws out)
    → ((state : State) → StandsFor decoder state → EndsBefore n state draws.x) → IsReadAsDrawn number count out
ends_here number count n decoder draws out below far ends = record {
  frames = far.frames;
  made = rw (append-nil far.frames) at (far.rest [] (ends_at count n far.state draws.x below (ends far.state far.stands)));
  bytes = far.put;
}

none_left : (count n : ℕ) → count ≤ n → count - n ≡ 0
none_left count n all = omega (arith, all)

pub all_made : (number count n : ℕ) (decoder : Decoder) (draws : Draws) (out : List ℕ) → count ≤ n → (far : IsSoFar number count n decoder draws out) → IsReadAsDrawn number count out
all_made number count n decoder draws out all far = record {
  frames = far.frames;
  made = rw (append-nil far.frames) at (far.rest [] (rw (none_left count n all) tt));
  bytes = far.put;
}

---- What was written of the next one ----

frame_to : (state : State) (choices : Choices) (header : Uncompressed) (x : ℕ) (bytes : List ℕ) (broken : Option Rule) (next : ℕ) → is_some broken ≡ false → GivesTo state choices header x bytes broken next → IsFrameOf state choices header x bytes next
frame_to state choices header x bytes None next whole gives = gives
frame_to state choices header x bytes (Some rule) next whole gives = let no : ⊥ = cc in absurd no

none_to : (state : State) (choices : Choices) (header : Uncompressed) (x : ℕ) (bytes : List ℕ) (broken : Option Rule) (next : ℕ) → is_some broken ≡ true → GivesTo state choices header x bytes broken next → IsNone state header x
none_to state choices header x bytes None next broken gives = let no : ⊥ = cc in absurd no
none_to state choices header x bytes (Some rule) next broken gives = gives

pub frame_made : (state : State) (choices : Choices) (header : Uncompressed) (x : ℕ) (w : Written) (next : ℕ) → is_some w.broken ≡ false → Gives state choices header x (Ok w) next → IsFrameOf state choices header x w.bytes.items next
frame_made state choices header x w next whole gives = frame_to state choices header x w.bytes.items w.broken next whole gives

pub frame_breaks : (state : State) (choices : Choices) (header : Uncompressed) (x : ℕ) (w : Written) (next : ℕ) → is_some w.broken ≡ true → Gives state choices header x (Ok w) next → IsNone state header x
frame_breaks state choices header x w next broken gives = none_to state choices header x w.bytes.items w.broken next broken gives

-- it isn't written, and that isn't for want of memory
none_lost : (state : State) (choices : Choices) (header : Uncompressed) (x : ℕ) (why : NotWritten) (next : ℕ) → IsLost why → Gives state choices header x (Err why) next → IsNone state header x
none_lost state choices header x Unsaid next lost gives = gives
none_lost state choices header x TooLong next lost gives = gives
none_lost state choices header x OutOfMemory next lost gives = absurd lost

pub not_written : (state : State) (choices : Choices) (header : Uncompressed) (x : ℕ) (r : Result Written NotWritten) (why : NotWritten) (next : ℕ) → r ≡ Err why → IsLost why → Gives state choices header x r next → IsNone state header x
not_written state choices header x r why next is lost gives = none_lost state choices header x why next lost (subst (λ (r : Result Written NotWritten). Gives state choices header x r next) is gives)

pub if_ended : {A E : Type 0} (P Q : A → Type 0) (r : Result A E) → IfOk r P → ((x : A) → P x → Q x) → IfOk r Q
if_ended P Q (Ok x) h g = g x h
if_ended P Q (Err e) h g = tt

pub persists : (number count n : ℕ) (decoder after_it : Decoder) (draws rest : Draws) (out bytes : List ℕ) (far : IsSoFar number count n decoder draws out)
    → ((state : State) → StandsFor decoder state → IsMadeFrame n state draws.x bytes rest.x) → Passes n decoder bytes after_it
    → IsMadeAfter (head_at n far.state draws.x) decoder.persist → headers.IsMade after_it.persist
persists number count n decoder after_it draws rest out bytes far gives passes made =
    let p = passes far.state far.stands in
    made_next n far.state (choices_at n far.state draws.x) (head_at n far.state draws.x) (left_behind_head n far.state draws.x) rest.x bytes p.0 decoder.persist after_it.persist far.stands.persist p.2.persist (gives far.state far.stands) p.1 made
