-- A drawn frame is read as it is drawn.
use Rattle.std.proofs.Common.{◌≡◌, ◌≤◌, ◌<◌, ◌^◌, ◌∙◌, ℕ, List, refl, sym, ap, ◌⊎◌, inl, inr, subst}
use Rattle.std.specs.Prelude.{IsOk, Option, Some, None, Result, Ok, Err}
use Rattle.vp9_types.specs.declared.block.Modes.{Modes}
use Rattle.vp9_types.specs.declared.job.Span.{Span}
use Rattle.vp9_types.specs.declared.rule.Rule.{Rule}
use Rattle.frame_headers.specs.Header.{head_of}
use Rattle.frame_headers.specs.declared.header.FrameHead.TheVariants as head
use Rattle.frame_headers.specs.declared.header.Header.{Header}
use Rattle.frame_headers.specs.declared.header.Uncompressed.{Uncompressed}
use Rattle.frame_headers.specs.declared.header.Uncompressed.TheVariants.{ShowExisting, Coded}
use Rattle.frame_headers.specs.declared.persist.Persist.{Persist}
use Rattle.prob_contexts.specs.ProbLists.{ContextLists, lists_of}
use Rattle.seq_decoder.specs.frame_state.FrameReading.{read_frame}
use Rattle.seq_decoder.specs.frame_state.Sources.{FramePast, FrameSources}
use Rattle.drawn_frames.specs.frame_writer.FrameBytes.{frame_bytes, with_size}
use Rattle.drawn_frames.specs.frame_writer.SaidFrames.{frame_told}
use Rattle.drawn_frames.specs.frame_writer.Code.{GivesFrame, IsFrame, IsLongHeader, IsTooLong, IsUntold, ReadsFrame, compressed_size, input_with, sources_with}
use Rattle.drawn_frames.specs.frame_writer.declared.frame.FrameToWrite.{FrameToWrite}
use Rattle.drawn_frames.specs.frame_writer.declared.written.NotWritten.{NotWritten}
use Rattle.drawn_frames.specs.frame_writer.declared.written.NotWritten.TheVariants.{Unsaid, TooLong, OutOfMemory}
use Rattle.drawn_frames.specs.frame_writer.declared.written.Written.{Written}
use Rattle.bool_lists.specs.BoolLists.{BoolList, bytes_taken}
use Rattle.compressed_writer.specs.Spelling.{spelled_compressed}
use Rattle.drawn_frames.specs.tile_writer.declared.unwritten.Unwritten.TheVariants as unwritten
use Rattle.drawn_frames.specs.SymbolDraws.{drawing}
use Rattle.drawn_frames.specs.declared.symbols.DrawnSymbols.{DrawnSymbols}
use Rattle.drawn_frames.specs.Code.{sized}
use Rattle.drawn_frames.specs.ModeDraws.{draw_frame_modes}
use Rattle.seq_decoder.proofs.of_frame_decoder.PlainFrames.{frame_decodes}
use Rattle.seq_decoder.specs.After.{Stepped, after_coded, input_of, past_of, references_of, step}
use Rattle.seq_decoder.specs.SavedContexts.{context_before, saved_before}
use Rattle.seq_decoder.specs.DecoderState.{State, persist_of}
use Rattle.seq_decoder.proofs.Slots.{step_is}
use Rattle.stream_forge.specs.Code.{Gives, GivesTo}
use Rattle.header_writer.specs.declared.choices.Choices.{Choices}
use Rattle.stream_forge.specs.MadeFiles.{drawn_blocks, drawn_sources, drawn_updates, symbols_from}
use Rattle.stream_forge.specs.FileReads.{IsCodedFrame, IsFrameOf, IsNone}

---- The size of the compressed header is read by no one else ----

same_before : (header : Header) (size : ℕ) (saved : List ContextLists) → context_before (with_size header size) saved ≡ context_before header saved
unfolding saved_before
same_before header size saved = refl

past_sized : (state : State) (header : Header) (size : ℕ) → past_of state header ≡ past_of state (with_size header size)
past_sized state header size = λ i. record (past_of state header) { contexts = sym (same_before header size state.contexts) i }

---- A coded frame ----

-- what it was written by, as the code has it, and as the standard says it
record IsBy (state : State) (header : Header) (frame : FrameToWrite) (past : FramePast) (x : ℕ) (symbols : DrawnSymbols) : Type 0 where
  header_is : frame.header ≡ header
  past_is : past ≡ past_of state header
  contexts : lists_of frame.contexts ≡ context_before header state.contexts
  modes : draw_frame_modes header x ≡ (frame.modes, symbols.draws.x)

updates_by : (state : State) (header : Header) (frame : FrameToWrite) (past : FramePast) (x : ℕ) (symbols : DrawnSymbols) → IsBy state header frame past x symbols
    → spelled_compressed frame.header past.contexts (lists_of frame.contexts) frame.modes ≡ drawn_updates state header x
updates_by state header frame past x symbols is =
    λ i. spelled_compressed (is.header_is i) ((ap (λ (p : FramePast). p.contexts) is.past_is) i) (is.contexts i) ((ap (λ p. p.0) (sym is.modes)) i)

sources_by : (state : State) (header : Header) (frame : FrameToWrite) (past : FramePast) (x : ℕ) (symbols : DrawnSymbols) → IsBy state header frame past x symbols
    → sources_with frame past (compressed_size frame past) ≡ drawn_sources state header x
sources_by state header frame past x symbols is = λ i. record {
  header = with_size (is.header_is i) (bytes_taken (updates_by state header frame past x symbols is i));
  modes = (ap (λ p. p.0) (sym is.modes)) i;
  contexts = is.contexts i;
  past = is.past_is i;
}

input_by : (state : State) (header : Header) (frame : FrameToWrite) (past : FramePast) (x : ℕ) (symbols : DrawnSymbols) (compressed : Span) (bytes : List ℕ) → IsBy state header frame past x symbols
    → input_with frame past (compressed_size frame past) compressed bytes ≡ input_of state bytes (drawn_sources state header x).header compressed
input_by state header frame past x symbols compressed bytes is = λ i. record {
  header = (sources_by state header frame past x symbols is i).header;
  compressed = compressed;
  bytes = bytes;
  past = (is.past_is ∙ past_sized state header (bytes_taken (drawn_updates state header x))) i;
}

symbols_by : (state : State) (header : Header) (frame : FrameToWrite) (past : FramePast) (x : ℕ) (symbols : DrawnSymbols) → IsBy state header frame past x symbols
    → symbols ≡ symbols_from (draw_frame_modes header x).1
symbols_by state header frame past x symbols is = ap (λ p. symbols_from p.1) (sym is.modes)

blocks_by : (state : State) (header : Header) (frame : FrameToWrite) (past : FramePast) (x : ℕ) (symbols : DrawnSymbols) → IsBy state header frame past x symbols
    → drawn_blocks state header x ≡ frame_told drawing (sources_with frame past (compressed_size frame past)) symbols
blocks_by state header frame past x symbols is =
    λ i. frame_told drawing (sym (sources_by state header frame past x symbols is) i) (sym (symbols_by state header frame past x symbols is) i)

given_by : (persist : Persist) (state : State) (header : Header) (frame : FrameToWrite) (past : FramePast) (x : ℕ) (symbols last : DrawnSymbols) (bytes : List ℕ) (broken : Option Rule) (lists : Option (List BoolList))
    → persist ≡ persist_of state → IsBy state header frame past x symbols → (f : IsFrame drawing persist frame past (compressed_size frame past) symbols bytes broken last) → f.lists ≡ lists
    → GivesTo state frame.choices (Coded header) x bytes broken last.draws.x
given_by persist state header frame past x symbols last bytes None (Some lists) same is f at =
    let sources = sources_by state header frame past x symbols is in
    let input = input_by state header frame past x symbols f.compressed bytes is in
    let read : ReadsFrame drawing (input_with frame past (compressed_size frame past) f.compressed bytes) (sources_with frame past (compressed_size frame past)) symbols None (Some lists) last = rw at at f.read in
    let exact : bytes ≡ frame_bytes persist frame.choices (sources_with frame past (compressed_size frame past)) lists = rw at at f.exact in
    record {
      short = subst (λ bools. bytes_taken bools < 2 ^ 16) (updates_by state header frame past x symbols is) f.short;
      compressed = f.compressed;
      head = (λ i. head_of (sym same i) bytes) ∙ f.head ∙ ap (λ (by : FrameSources). Ok (head.Coded by.header f.compressed)) sources;
      read = read.0;
      reads = ap read_frame (sym input) ∙ read.1 ∙ ap (λ by. Ok (read.0, by)) sources;
      lists = lists;
      told = blocks_by state header frame past x symbols is ∙ read.2;
      is = exact ∙ (λ i. frame_bytes (same i) frame.choices (sources i) lists);
    }
given_by persist state header frame past x symbols last bytes None None same is f at =
    let read : ReadsFrame drawing (input_with frame past (compressed_size frame past) f.compressed bytes) (sources_with frame past (compressed_size frame past)) symbols None None last = rw at at f.read in
    absurd read
given_by persist state header frame past x symbols last bytes (Some rule) None same is f at =
    let read : ReadsFrame drawing (input_with frame past (compressed_size frame past) f.compressed bytes) (sources_with frame past (compressed_size frame past)) symbols (Some rule) None last = rw at at f.read in
    inl (unwritten.Broken rule, blocks_by state header frame past x symbols is ∙ read.1)
given_by persist state header frame past x symbols last bytes (Some rule) (Some lists) same is f at =
    let read : ReadsFrame drawing (input_with frame past (compressed_size frame past) f.compressed bytes) (sources_with frame past (compressed_size frame past)) symbols (Some rule) (Some lists) last = rw at at f.read in
    absurd read

untold_by : (state : State) (header : Header) (frame : FrameToWrite) (past : FramePast) (x : ℕ) (symbols : DrawnSymbols) → IsBy state header frame past x symbols
    → IsUntold drawing (sources_with frame past (compressed_size frame past)) symbols → IsNone state (Coded header) x
untold_by state header frame past x symbols is (inl told) = inl (unwritten.Unsaid, blocks_by state header frame past x symbols is ∙ told)
untold_by state header frame past x symbols is (inr told) = inl (unwritten.Broken told.0, blocks_by state header frame past x symbols is ∙ told.1)

long_by : (state : State) (header : Header) (frame : FrameToWrite) (past : FramePast) (x : ℕ) (symbols : DrawnSymbols) → IsBy state header frame past x symbols
    → IsLongHeader frame past.contexts ⊎ IsTooLong drawing (sources_with frame past (compressed_size frame past)) symbols → IsNone state (Coded header) x
long_by state header frame past x symbols is (inl long) = inr (inl (subst (λ bools. 2 ^ 16 ≤ bytes_taken bools) (updates_by state header frame past x symbols is) long))
long_by state header frame past x symbols is (inr long) = inr (inr (subst (λ (p : FrameSources × DrawnSymbols). IsTooLong drawing p.0 p.1)
    (λ i. (sources_by state header frame past x symbols is i, symbols_by state header frame past x symbols is i)) long))

pub coded_given : (persist : Persist) (state : State) (frame : FrameToWrite) (past : FramePast) (x : ℕ) (symbols last : DrawnSymbols) (result : Result Written NotWritten)
    → persist ≡ persist_of state → past ≡ past_of state frame.header → lists_of frame.contexts ≡ context_before frame.header state.contexts → draw_frame_modes frame.header x ≡ (frame.modes, symbols.draws.x)
    → GivesFrame drawing persist frame past symbols result last → Gives state frame.choices (Coded frame.header) x result last.draws.x
coded_given persist state frame past x symbols last (Ok w) same past_is contexts modes gives =
    given_by persist state frame.header frame past x symbols last w.bytes.items w.broken gives.lists same (record { header_is = refl; past_is = past_is; contexts = contexts; modes = modes }) gives refl
coded_given persist state frame past x symbols last (Err Unsaid) same past_is contexts modes gives =
    untold_by state frame.header frame past x symbols (record { header_is = refl; past_is = past_is; contexts = contexts; modes = modes }) gives
coded_given persist state frame past x symbols last (Err TooLong) same past_is contexts modes gives =
    long_by state frame.header frame past x symbols (record { header_is = refl; past_is = past_is; contexts = contexts; modes = modes }) gives
coded_given persist state frame past x symbols last (Err OutOfMemory) same past_is contexts modes gives = tt

---- With a compressed header of one byte before it is written ----

same_modes : (header : Header) (x : ℕ) → draw_frame_modes (sized 1 header) x ≡ draw_frame_modes header x
unfolding draw_frame_modes
same_modes header x = refl

same_contexts : (header : Header) (saved : List ContextLists) → context_before (sized 1 header) saved ≡ context_before header saved
unfolding saved_before
same_contexts header saved = refl

same_past : (state : State) (header : Header) → past_of state (sized 1 header) ≡ past_of state header
same_past state header = λ i. record (past_of state header) { contexts = same_contexts header state.contexts i }

same_spelled : (header : Header) (old new : ContextLists) (modes : Modes) → spelled_compressed (sized 1 header) old new modes ≡ spelled_compressed header old new modes
unfolding spelled_compressed
same_spelled header old new modes = refl

same_updates : (state : State) (header : Header) (x : ℕ) → drawn_updates state (sized 1 header) x ≡ drawn_updates state header x
same_updates state header x =
    same_spelled header _ _ _ ∙ (λ i. spelled_compressed header (same_contexts header state.contexts i) (same_contexts header state.contexts i) (same_modes header x i).0)

same_sources : (state : State) (header : Header) (x : ℕ) → drawn_sources state (sized 1 header) x ≡ drawn_sources state header x
same_sources state header x = λ i. record {
  header = with_size header (bytes_taken (same_updates state header x i));
  modes = (same_modes header x i).0;
  contexts = same_contexts header state.contexts i;
  past = same_past state header i;
}

same_blocks : (state : State) (header : Header) (x : ℕ) → drawn_blocks state (sized 1 header) x ≡ drawn_blocks state header x
same_blocks state header x = λ i. frame_told drawing (same_sources state header x i) (symbols_from (same_modes header x i).1)

frame_unsized : (state : State) (choices : Choices) (header : Header) (x : ℕ) (bytes : List ℕ) (next : ℕ) → IsCodedFrame state choices (sized 1 header) x bytes next → IsCodedFrame state choices header x bytes next
frame_unsized state choices header x bytes next f =
    let sources = same_sources state header x in record {
      short = subst (λ bools. bytes_taken bools < 2 ^ 16) (same_updates state header x) f.short;
      compressed = f.compressed;
      head = f.head ∙ ap (λ (by : FrameSources). Ok (head.Coded by.header f.compressed)) sources;
      read = f.read;
      reads = ap (λ (by : FrameSources). read_frame (input_of state bytes by.header f.compressed)) (sym sources) ∙ f.reads ∙ ap (λ by. Ok (f.read, by)) sources;
      lists = f.lists;
      told = sym (same_blocks state header x) ∙ f.told;
      is = f.is ∙ ap (λ by. frame_bytes (persist_of state) choices by f.lists) sources;
    }

none_unsized : (state : State) (header : Header) (x : ℕ) → IsNone state (Coded (sized 1 header)) x → IsNone state (Coded header) x
none_unsized state header x (inl unsaid) = inl (unsaid.0, sym (same_blocks state header x) ∙ unsaid.1)
none_unsized state header x (inr (inl long)) = inr (inl (subst (λ bools. 2 ^ 16 ≤ bytes_taken bools) (same_updates state header x) long))
none_unsized state header x (inr (inr long)) = inr (inr (subst (λ (p : FrameSources × DrawnSymbols). IsTooLong drawing p.0 p.1)
    (λ i. (same_sources state header x i, symbols_from (same_modes header x i).1)) long))

unsized_to : (state : State) (choices : Choices) (header : Header) (x : ℕ) (bytes : List ℕ) (broken : Option Rule) (next : ℕ) → GivesTo state choices (Coded (sized 1 header)) x bytes broken next → GivesTo state choices (Coded header) x bytes broken next
unsized_to state choices header x bytes None next f = frame_unsized state choices header x bytes next f
unsized_to state choices header x bytes (Some rule) next none = none_unsized state header x none

pub gives_unsized : (state : State) (choices : Choices) (header : Header) (x : ℕ) (result : Result Written NotWritten) (next : ℕ) → Gives state choices (Coded (sized 1 header)) x result next → Gives state choices (Coded header) x result next
gives_unsized state choices header x (Ok w) next gives = unsized_to state choices header x w.bytes.items w.broken next gives
gives_unsized state choices header x (Err Unsaid) next none = none_unsized state header x none
gives_unsized state choices header x (Err TooLong) next none = none_unsized state header x none
gives_unsized state choices header x (Err OutOfMemory) next gives = tt

---- A frame is decoded ----

-- it steps on, whatever its number
record Steps (number : ℕ) (state : State) (bytes : List ℕ) : Type 0 where
  stepped : Stepped
  steps : step number state bytes ≡ Ok stepped

steps_so : (number : ℕ) (state : State) (choices : Choices) (header : Uncompressed) (x : ℕ) (bytes : List ℕ) (next : ℕ) → IsFrameOf state choices header x bytes next → Steps number state bytes
steps_so number state choices (ShowExisting slot) x bytes next f = record { stepped = _; steps = step_is number state bytes (Ok (head.ShowExisting slot)) f.0 }
steps_so number state choices (Coded header) x bytes next f =
    let own = (drawn_sources state header x).header in
    let done = frame_decodes (references_of state.slots own.kind) (input_of state bytes own f.compressed) f.read (drawn_sources state header x) f.reads in record {
      stepped = _;
      steps = step_is number state bytes (Ok (head.Coded own f.compressed)) f.head ∙ ap (after_coded number state own) done;
    }

pub frame_steps : (number : ℕ) (state : State) (choices : Choices) (header : Uncompressed) (x : ℕ) (bytes : List ℕ) (next : ℕ) → IsFrameOf state choices header x bytes next → IsOk (step number state bytes)
frame_steps number state choices header x bytes next f = let s = steps_so number state choices header x bytes next f in rw s.steps refl
