-- From how the work ended and what the note took to the cause of the answer.
use Rattle.std.proofs.Common.{◌≡◌, ℕ, ◌<◌, List, length, refl, ap, sym, subst, ◌∙◌, inl, inr, arith}
use Rattle.std.specs.Prelude.{◌⊎◌, Bool, true, false, Option, Some, None, take}
use Rattle.std.proofs.lemmas.List.{take_all}
use Rattle.vp9_types.specs.declared.outcome.Stop.{Stop}
use Rattle.edge_io.specs.Putting.{Takes}
use Rattle.command_words.specs.declared.command.Command.{Command}
use Rattle.command_words.specs.declared.command.Command.TheVariants as command
use Rattle.command_words.specs.declared.command.DecodeOptions.{DecodeOptions}
use Rattle.command_words.specs.declared.command.MadeStream.{MadeStream}
use Rattle.vp9_app.specs.declared.status.Status.{Status}
use Rattle.vp9_app.specs.declared.status.Status.TheVariants as status
use Rattle.vp9_app.specs.Notes.{note_line}
use Rattle.vp9_app.specs.Answers.{Reports, Runs, Works, without_memory}
use Rattle.vp9_app.specs.Making.{Makes, Trials}
use Rattle.vp9_app.specs.ReadingCommands.{BreaksOff, Completes, DecodesBy, Output, Reads, Streams, WritesFront, decode_output, list_output}
use Rattle.vp9_app.specs.Seen.{OfSink, OfSource, SinkQuiet, Unread}
use Rattle.vp9_app.specs.Code.{MayLackMemory}
use Rattle.vp9_app.specs.Laws.{AllQuiet, EndsAs, EndsAsTrial, HasCause, IsComplete, IsDecodedBy, IsDone, IsLeftBy, IsLeftByFault}

---- Want of memory in place of a rule's line ----

-- a whole text is a front of it
whole_front : (o : OfSink) (text : List ℕ) → Takes o.before o.after text → (n : ℕ) × Takes o.before o.after (take n text)
whole_front o text h = (length text, subst (λ t. Takes o.before o.after t) (sym (take_all (length text) text (omega arith))) h)

completes_front : (output : List ℕ → Output) (s : OfSource) (o : OfSink) (st : Status) → Completes output s o st → WritesFront output s o
completes_front output s o st h = λ bytes told. whole_front o (output bytes).text (h.told bytes told).1

breaks_front : (output : List ℕ → Output) (s : OfSource) (o : OfSink) (stop : Stop) → BreaksOff output s o stop → WritesFront output s o
breaks_front output s o stop h = λ bytes told. whole_front o (output bytes).text (h.told bytes told).1

lacks : (output : List ℕ → Output) (s : OfSource) (o : OfSink) (st : Status) → Completes output s o st → Reads output s o status.OutOfMemory
lacks output s o st h = (h.source, h.out, completes_front output s o st h)

reads_told : (output : List ℕ → Output) (s : OfSource) (o : OfSink) (first told : Status) → Reads output s o first → MayLackMemory first told → Reads output s o told
reads_told output s o (status.Broken stop) told h (inl e) = subst (λ st. Reads output s o st) (sym e) h
reads_told output s o (status.Broken stop) told h (inr e) = subst (λ st. Reads output s o st) (sym e) (lacks output s o (status.Broken stop) h)
reads_told output s o status.Done told h e = subst (λ st. Reads output s o st) (sym e) h
reads_told output s o status.Usage told h e = absurd h
reads_told output s o status.ReadFault told h e = subst (λ st. Reads output s o st) (sym e) h
reads_told output s o status.WriteFault told h e = subst (λ st. Reads output s o st) (sym e) h
reads_told output s o status.OutOfMemory told h e = subst (λ st. Reads output s o st) (sym e) h

streams_told : (options : DecodeOptions) (s : OfSource) (o : OfSink) (first told : Status) → Streams options s o first → MayLackMemory first told → Streams options s o told
streams_told options s o (status.Broken stop) told h (inl e) = subst (λ st. Streams options s o st) (sym e) h
streams_told options s o (status.Broken stop) told h (inr e) = subst (λ st. Streams options s o st) (sym e) (h.source, h.out, breaks_front (decode_output options) s o stop h)
streams_told options s o status.Done told h e = subst (λ st. Streams options s o st) (sym e) h
streams_told options s o status.Usage told h e = absurd h
streams_told options s o status.ReadFault told h e = subst (λ st. Streams options s o st) (sym e) h
streams_told options s o status.WriteFault told h e = subst (λ st. Streams options s o st) (sym e) h
streams_told options s o status.OutOfMemory told h e = subst (λ st. Streams options s o st) (sym e) h

decodes_told : (plain : Bool) (options : DecodeOptions) (s : OfSource) (o : OfSink) (first told : Status) → DecodesBy plain options s o first → MayLackMemory first told → DecodesBy plain options s o told
decodes_told true options = reads_told (decode_output options)
decodes_told false options = streams_told options

makes_told : (stream : MadeStream) (o : OfSink) (first told : Status) → Makes stream o first → MayLackMemory first told → Makes stream o told
makes_told stream o status.Done told h e = subst (λ st. Makes stream o st) (sym e) h
makes_told stream o status.WriteFault told h e = subst (λ st. Makes stream o st) (sym e) h
makes_told stream o status.OutOfMemory told h e = subst (λ st. Makes stream o st) (sym e) h
makes_told stream o status.Usage told h e = absurd h
makes_told stream o status.ReadFault told h e = absurd h
makes_told stream o (status.Broken stop) told h e = absurd h

trial_told : (stream : MadeStream) (o : OfSink) (first told : Status) → Trials stream o first → MayLackMemory first told → Trials stream o told
trial_told stream o (status.Broken stop) told h (inl e) = subst (λ st. Trials stream o st) (sym e) h
trial_told stream o (status.Broken stop) told h (inr e) = subst (λ st. Trials stream o st) (sym e) (h.0, inl h.1)
trial_told stream o status.Done told h e = subst (λ st. Trials stream o st) (sym e) h
trial_told stream o status.WriteFault told h e = subst (λ st. Trials stream o st) (sym e) h
trial_told stream o status.OutOfMemory told h e = subst (λ st. Trials stream o st) (sym e) h
trial_told stream o status.Usage told h e = absurd h
trial_told stream o status.ReadFault told h e = absurd h

none_told : (s : OfSource) (o : OfSink) (first told : Status) → Works None s o first → MayLackMemory first told → Works None s o told
none_told s o status.Usage told h e = subst (λ st. Works None s o st) (sym e) h
none_told s o status.Done told h e = absurd h
none_told s o (status.Broken stop) told h e = absurd h
none_told s o status.ReadFault told h e = absurd h
none_told s o status.WriteFault told h e = absurd h
none_told s o status.OutOfMemory told h e = subst (λ st. Works None s o st) (sym e) h

pub works_told : (c : Option Command) (s : OfSource) (o : OfSink) (first told : Status) → Works c s o first → MayLackMemory first told → Works c s o told
works_told None = none_told
works_told (Some command.List) = reads_told list_output
works_told (Some (command.Decode options)) = decodes_told options.plain options
works_told (Some (command.Make stream)) = λ s o first told h m. (h.0, makes_told stream o first told h.1 m)
works_told (Some (command.Trial stream)) = λ s o first told h m. (h.0, trial_told stream o first told h.1 m)

---- Causes ----

-- the cause where the note took the line, of a command that reads its source
cause_read : (c : Command) (output : List ℕ → Output) (s : OfSource) (o n : OfSink) (told : Status) → ((st : Status) → Completes output s o st → IsDone c s o st)
    → (o.after ≡ o.before → IsLeftByFault c s o) → Reads output s o told → SinkQuiet n → Takes n.before n.after (note_line told) → HasCause (Some c) s o n told
cause_read c output s o n status.Done done left h q t = (c, refl, record { source = h.source; out = h.out; note = q }, done status.Done h, t)
cause_read c output s o n (status.Broken stop) done left h q t = (c, refl, h.out, q, done (status.Broken stop) h, t)
cause_read c output s o n status.ReadFault done left h q t = (c, refl, h.0, h.1, q, left h.2, t)
cause_read c output s o n status.WriteFault done left h q t = inl h.1
cause_read c output s o n status.OutOfMemory done left h q t = (h.1, q)
cause_read c output s o n status.Usage done left h q t = absurd h

-- the same of a decode by a crew
cause_streamed : (options : DecodeOptions) (s : OfSource) (o n : OfSink) (told : Status) → options.plain ≡ false → Streams options s o told → SinkQuiet n → Takes n.before n.after (note_line told)
    → HasCause (Some (command.Decode options)) s o n told
cause_streamed options s o n status.Done crew h q t =
    (command.Decode options, refl, record { source = h.source; out = h.out; note = q }, subst (λ plain. IsDecodedBy plain options s o status.Done) (sym crew) h, t)
cause_streamed options s o n (status.Broken stop) crew h q t =
    (command.Decode options, refl, h.out, q, subst (λ plain. IsDecodedBy plain options s o (status.Broken stop)) (sym crew) h, t)
cause_streamed options s o n status.ReadFault crew h q t = (command.Decode options, refl, h.0, h.1, q, subst (λ plain. IsLeftBy plain options s o) (sym crew) h.2, t)
cause_streamed options s o n status.WriteFault crew h q t = inl h.1
cause_streamed options s o n status.OutOfMemory crew h q t = (h.1, q)
cause_streamed options s o n status.Usage crew h q t = absurd h

cause_decoded : (plain : Bool) (options : DecodeOptions) (s : OfSource) (o n : OfSink) (told : Status) → options.plain ≡ plain → DecodesBy plain options s o told → SinkQuiet n
    → Takes n.before n.after (note_line told) → HasCause (Some (command.Decode options)) s o n told
cause_decoded true options s o n told is h q t =
    cause_read (command.Decode options) (decode_output options) s o n told (λ st d. subst (λ plain. IsDecodedBy plain options s o st) (sym is) d)
    (λ kept. subst (λ plain. IsLeftBy plain options s o) (sym is) kept) h q t
cause_decoded false options s o n told is h q t = cause_streamed options s o n told is h q t

cause_made : (stream : MadeStream) (s : OfSource) (o n : OfSink) (told : Status) → Unread s → Makes stream o told → SinkQuiet n → Takes n.before n.after (note_line told)
    → HasCause (Some (command.Make stream)) s o n told
cause_made stream s o n status.Done u h q t = (command.Make stream, refl, record { source = u.0; out = h.0; note = q }, (u, h.1, refl), t)
cause_made stream s o n (status.Broken stop) u h q t = absurd h
cause_made stream s o n status.ReadFault u h q t = absurd h
cause_made stream s o n status.WriteFault u h q t = inl h.0
cause_made stream s o n status.OutOfMemory u h q t = (h.0, q)
cause_made stream s o n status.Usage u h q t = absurd h

cause_tried : (stream : MadeStream) (s : OfSource) (o n : OfSink) (told : Status) → Unread s → Trials stream o told → SinkQuiet n → Takes n.before n.after (note_line told)
    → HasCause (Some (command.Trial stream)) s o n told
cause_tried stream s o n status.Done u h q t = (command.Trial stream, refl, record { source = u.0; out = h.0; note = q }, (u, h.1), t)
cause_tried stream s o n (status.Broken stop) u h q t = (command.Trial stream, refl, h.0, q, (u, (h.1, h.2)), t)
cause_tried stream s o n status.ReadFault u h q t = absurd h
cause_tried stream s o n status.WriteFault u h q t = inl h.0
cause_tried stream s o n status.OutOfMemory u h q t = (h.0, q)
cause_tried stream s o n status.Usage u h q t = absurd h

cause_none : (s : OfSource) (o n : OfSink) (told : Status) → Works None s o told → SinkQuiet n → Takes n.before n.after (note_line told) → HasCause None s o n told
cause_none s o n status.Usage h q t = (refl, record { source = h.0; out = h.1; note = q }, t)
cause_none s o n status.Done h q t = absurd h
cause_none s o n (status.Broken stop) h q t = absurd h
cause_none s o n status.ReadFault h q t = absurd h
cause_none s o n status.WriteFault h q t = absurd h
cause_none s o n status.OutOfMemory h q t = (h.1, q)

cause_told : (c : Option Command) (s : OfSource) (o n : OfSink) (told : Status) → Works c s o told → SinkQuiet n → Takes n.before n.after (note_line told) → HasCause c s o n told
cause_told None s o n told h q t = cause_none s o n told h q t
cause_told (Some command.List) s o n told h q t = cause_read command.List list_output s o n told (λ st d. d) (λ kept. kept) h q t
cause_told (Some (command.Decode options)) s o n told h q t = cause_decoded options.plain options s o n told refl h q t
cause_told (Some (command.Make stream)) s o n told h q t = cause_made stream s o n told h.0 h.1 q t
cause_told (Some (command.Trial stream)) s o n told h q t = cause_tried stream s o n told h.0 h.1 q t

-- the cause where the note wanted memory
lacking_read : (c : Option Command) (output : List ℕ → Output) (s : OfSource) (o n : OfSink) (told : Status) → Reads output s o told → SinkQuiet n → HasCause c s o n (without_memory told)
lacking_read c output s o n status.Done h q = (h.out, q)
lacking_read c output s o n (status.Broken stop) h q = (h.out, q)
lacking_read c output s o n status.ReadFault h q = (h.1, q)
lacking_read c output s o n status.WriteFault h q = inl h.1
lacking_read c output s o n status.OutOfMemory h q = (h.1, q)
lacking_read c output s o n status.Usage h q = absurd h

lacking_streamed : (c : Option Command) (options : DecodeOptions) (s : OfSource) (o n : OfSink) (told : Status) → Streams options s o told → SinkQuiet n → HasCause c s o n (without_memory told)
lacking_streamed c options s o n status.Done h q = (h.out, q)
lacking_streamed c options s o n (status.Broken stop) h q = (h.out, q)
lacking_streamed c options s o n status.ReadFault h q = (h.1, q)
lacking_streamed c options s o n status.WriteFault h q = inl h.1
lacking_streamed c options s o n status.OutOfMemory h q = (h.1, q)
lacking_streamed c options s o n status.Usage h q = absurd h

lacking_decoded : (plain : Bool) (c : Option Command) (options : DecodeOptions) (s : OfSource) (o n : OfSink) (told : Status) → DecodesBy plain options s o told → SinkQuiet n
    → HasCause c s o n (without_memory told)
lacking_decoded true c options s o n told h q = lacking_read c (decode_output options) s o n told h q
lacking_decoded false c options s o n told h q = lacking_streamed c options s o n told h q

lacking_made : (c : Option Command) (stream : MadeStream) (s : OfSource) (o n : OfSink) (told : Status) → Makes stream o told → SinkQuiet n → HasCause c s o n (without_memory told)
lacking_made c stream s o n status.Done h q = (h.0, q)
lacking_made c stream s o n (status.Broken stop) h q = absurd h
lacking_made c stream s o n status.ReadFault h q = absurd h
lacking_made c stream s o n status.WriteFault h q = inl h.0
lacking_made c stream s o n status.OutOfMemory h q = (h.0, q)
lacking_made c stream s o n status.Usage h q = absurd h

lacking_tried : (c : Option Command) (stream : MadeStream) (s : OfSource) (o n : OfSink) (told : Status) → Trials stream o told → SinkQuiet n → HasCause c s o n (without_memory told)
lacking_tried c stream s o n status.Done h q = (h.0, q)
lacking_tried c stream s o n (status.Broken stop) h q = (h.0, q)
lacking_tried c stream s o n status.ReadFault h q = absurd h
lacking_tried c stream s o n status.WriteFault h q = inl h.0
lacking_tried c stream s o n status.OutOfMemory h q = (h.0, q)
lacking_tried c stream s o n status.Usage h q = absurd h

lacking_none : (s : OfSource) (o n : OfSink) (told : Status) → Works None s o told → SinkQuiet n → HasCause None s o n (without_memory told)
lacking_none s o n status.Usage h q = (h.1, q)
lacking_none s o n status.Done h q = absurd h
lacking_none s o n (status.Broken stop) h q = absurd h
lacking_none s o n status.ReadFault h q = absurd h
lacking_none s o n status.WriteFault h q = absurd h
lacking_none s o n status.OutOfMemory h q = (h.1, q)

cause_lacking : (c : Option Command) (s : OfSource) (o n : OfSink) (told : Status) → Works c s o told → SinkQuiet n → HasCause c s o n (without_memory told)
cause_lacking None s o n told h q = lacking_none s o n told h q
cause_lacking (Some command.List) s o n told h q = lacking_read (Some command.List) list_output s o n told h q
cause_lacking (Some (command.Decode options)) s o n told h q = lacking_decoded options.plain (Some (command.Decode options)) options s o n told h q
cause_lacking (Some (command.Make stream)) s o n told h q = lacking_made (Some (command.Make stream)) stream s o n told h.1 q
cause_lacking (Some (command.Trial stream)) s o n told h q = lacking_tried (Some (command.Trial stream)) stream s o n told h.1 q

pub cause_of : (c : Option Command) (s : OfSource) (o n : OfSink) (told last : Status) → Works c s o told → Reports n told last → HasCause c s o n last
cause_of c s o n told last h (inl r) = subst (λ st. HasCause c s o n st) (sym r.1) (cause_told c s o n told h r.0 r.2)
cause_of c s o n told last h (inr (inl r)) = subst (λ st. HasCause c s o n st) (sym r.1) (inr r.0)
cause_of c s o n told last h (inr (inr r)) = subst (λ st. HasCause c s o n st) (sym r.2) (cause_lacking c s o n told h r.0)

---- Complete answers ----

clash : (before now : ℕ) → before < now → now ≡ before → ⊥
clash before now rose same = omega (arith, rose, same)

-- where no count rose, the output's status or want of memory is told
read_by_output : (output : List ℕ → Output) (s : OfSource) (o n : OfSink) (told : Status) → Reads output s o told → AllQuiet s o n → EndsAs output s told
read_by_output output s o n status.Done h a = λ bytes t. inl (sym (h.told bytes t).0)
read_by_output output s o n (status.Broken stop) h a = λ bytes t. inl (sym (h.told bytes t).0)
read_by_output output s o n status.ReadFault h a = λ bytes t. absurd (clash s.faults s.faults_now h.0 a.source)
read_by_output output s o n status.WriteFault h a = λ bytes t. absurd (clash o.faults o.faults_now h.1 a.out)
read_by_output output s o n status.OutOfMemory h a = λ bytes t. inr refl
read_by_output output s o n status.Usage h a = absurd h

-- a write fault aside, a note that wants memory leaves that answer
read_lacking : (output : List ℕ → Output) (s : OfSource) (o n : OfSink) (told : Status) → Reads output s o told → AllQuiet s o n → without_memory told ≡ status.OutOfMemory
read_lacking output s o n status.Done h a = refl
read_lacking output s o n (status.Broken stop) h a = refl
read_lacking output s o n status.ReadFault h a = refl
read_lacking output s o n status.WriteFault h a = absurd (clash o.faults o.faults_now h.1 a.out)
read_lacking output s o n status.OutOfMemory h a = refl
read_lacking output s o n status.Usage h a = absurd h

complete_read : (output : List ℕ → Output) (s : OfSource) (o n : OfSink) (told last : Status) → Reads output s o told → Reports n told last → AllQuiet s o n → EndsAs output s last
complete_read output s o n told last h (inl r) = λ a. subst (λ st. EndsAs output s st) (sym r.1) (read_by_output output s o n told h a)
complete_read output s o n told last h (inr (inl r)) = λ a. absurd (clash n.faults n.faults_now r.0 a.note)
complete_read output s o n told last h (inr (inr r)) = λ a bytes t. inr (r.2 ∙ read_lacking output s o n told h a)

-- the same of a decode by a crew
streamed_by_output : (options : DecodeOptions) (s : OfSource) (o n : OfSink) (told : Status) → Streams options s o told → AllQuiet s o n → EndsAs (decode_output options) s told
streamed_by_output options s o n status.Done h a = λ bytes t. inl (sym (h.told bytes t).0)
streamed_by_output options s o n (status.Broken stop) h a = λ bytes t. inl (sym (h.told bytes t).0)
streamed_by_output options s o n status.ReadFault h a = λ bytes t. absurd (clash s.faults s.faults_now h.0 a.source)
streamed_by_output options s o n status.WriteFault h a = λ bytes t. absurd (clash o.faults o.faults_now h.1 a.out)
streamed_by_output options s o n status.OutOfMemory h a = λ bytes t. inr refl
streamed_by_output options s o n status.Usage h a = absurd h

streamed_lacking : (options : DecodeOptions) (s : OfSource) (o n : OfSink) (told : Status) → Streams options s o told → AllQuiet s o n → without_memory told ≡ status.OutOfMemory
streamed_lacking options s o n status.Done h a = refl
streamed_lacking options s o n (status.Broken stop) h a = refl
streamed_lacking options s o n status.ReadFault h a = refl
streamed_lacking options s o n status.WriteFault h a = absurd (clash o.faults o.faults_now h.1 a.out)
streamed_lacking options s o n status.OutOfMemory h a = refl
streamed_lacking options s o n status.Usage h a = absurd h

complete_streamed : (options : DecodeOptions) (s : OfSource) (o n : OfSink) (told last : Status) → Streams options s o told → Reports n told last → AllQuiet s o n → EndsAs (decode_output options) s last
complete_streamed options s o n told last h (inl r) = λ a. subst (λ st. EndsAs (decode_output options) s st) (sym r.1) (streamed_by_output options s o n told h a)
complete_streamed options s o n told last h (inr (inl r)) = λ a. absurd (clash n.faults n.faults_now r.0 a.note)
complete_streamed options s o n told last h (inr (inr r)) = λ a bytes t. inr (r.2 ∙ streamed_lacking options s o n told h a)

complete_decoded : (plain : Bool) (options : DecodeOptions) (s : OfSource) (o n : OfSink) (told last : Status) → DecodesBy plain options s o told → Reports n told last → AllQuiet s o n
    → EndsAs (decode_output options) s last
complete_decoded true options = complete_read (decode_output options)
complete_decoded false options = complete_streamed options

-- a stream is made, or there is no memory for it
made_by_output : (stream : MadeStream) (s : OfSource) (o n : OfSink) (told : Status) → Makes stream o told → AllQuiet s o n → (told ≡ status.Done) ⊎ (told ≡ status.OutOfMemory)
made_by_output stream s o n status.Done h a = inl refl
made_by_output stream s o n (status.Broken stop) h a = absurd h
made_by_output stream s o n status.ReadFault h a = absurd h
made_by_output stream s o n status.WriteFault h a = absurd (clash o.faults o.faults_now h.0 a.out)
made_by_output stream s o n status.OutOfMemory h a = inr refl
made_by_output stream s o n status.Usage h a = absurd h

lacks_for_file : (told : Status) → (told ≡ status.Done) ⊎ (told ≡ status.OutOfMemory) → without_memory told ≡ status.OutOfMemory
lacks_for_file told (inl e) = ap without_memory e
lacks_for_file told (inr e) = ap without_memory e

complete_made : (stream : MadeStream) (s : OfSource) (o n : OfSink) (told last : Status) → Makes stream o told → Reports n told last → IsComplete (Some (command.Make stream)) s o n last
complete_made stream s o n told last h (inl r) = λ a. subst (λ st. (st ≡ status.Done) ⊎ (st ≡ status.OutOfMemory)) (sym r.1) (made_by_output stream s o n told h a)
complete_made stream s o n told last h (inr (inl r)) = λ a. absurd (clash n.faults n.faults_now r.0 a.note)
complete_made stream s o n told last h (inr (inr r)) = λ a. inr (r.2 ∙ lacks_for_file told (made_by_output stream s o n told h a))

-- a trial ends as a made file does, or there is no memory for it
tried_by_output : (stream : MadeStream) (s : OfSource) (o n : OfSink) (told : Status) → Trials stream o told → AllQuiet s o n → EndsAsTrial stream told
tried_by_output stream s o n status.Done h a = inl (None, h.1.0, refl)
tried_by_output stream s o n (status.Broken stop) h a = inl (Some (stop.frame, stop.rule), h.2, refl)
tried_by_output stream s o n status.ReadFault h a = absurd h
tried_by_output stream s o n status.WriteFault h a = absurd (clash o.faults o.faults_now h.0 a.out)
tried_by_output stream s o n status.OutOfMemory h a = inr refl
tried_by_output stream s o n status.Usage h a = absurd h

-- a write fault aside, a note that wants memory leaves that answer
trial_lacking : (stream : MadeStream) (s : OfSource) (o n : OfSink) (told : Status) → Trials stream o told → AllQuiet s o n → without_memory told ≡ status.OutOfMemory
trial_lacking stream s o n status.Done h a = refl
trial_lacking stream s o n (status.Broken stop) h a = refl
trial_lacking stream s o n status.ReadFault h a = refl
trial_lacking stream s o n status.WriteFault h a = absurd (clash o.faults o.faults_now h.0 a.out)
trial_lacking stream s o n status.OutOfMemory h a = refl
trial_lacking stream s o n status.Usage h a = absurd h

complete_tried : (stream : MadeStream) (s : OfSource) (o n : OfSink) (told last : Status) → Trials stream o told → Reports n told last → AllQuiet s o n → EndsAsTrial stream last
complete_tried stream s o n told last h (inl r) = λ a. subst (λ st. EndsAsTrial stream st) (sym r.1) (tried_by_output stream s o n told h a)
complete_tried stream s o n told last h (inr (inl r)) = λ a. absurd (clash n.faults n.faults_now r.0 a.note)
complete_tried stream s o n told last h (inr (inr r)) = λ a. inr (r.2 ∙ trial_lacking stream s o n told h a)

-- words that are no command leave the usage line, or want of memory
no_command : (s : OfSource) (o : OfSink) (told : Status) → Works None s o told → (told ≡ status.Usage) ⊎ (told ≡ status.OutOfMemory)
no_command s o status.Usage h = inl refl
no_command s o status.OutOfMemory h = inr refl
no_command s o status.Done h = absurd h
no_command s o (status.Broken stop) h = absurd h
no_command s o status.ReadFault h = absurd h
no_command s o status.WriteFault h = absurd h

lacks_memory : (told : Status) → (told ≡ status.Usage) ⊎ (told ≡ status.OutOfMemory) → without_memory told ≡ status.OutOfMemory
lacks_memory told (inl e) = ap without_memory e
lacks_memory told (inr e) = ap without_memory e

complete_none : (s : OfSource) (o n : OfSink) (told last : Status) → Works None s o told → Reports n told last → IsComplete None s o n last
complete_none s o n told last h (inl r) = λ a. subst (λ st. (st ≡ status.Usage) ⊎ (st ≡ status.OutOfMemory)) (sym r.1) (no_command s o told h)
complete_none s o n told last h (inr (inl r)) = λ a. absurd (clash n.faults n.faults_now r.0 a.note)
complete_none s o n told last h (inr (inr r)) = λ a. inr (r.2 ∙ lacks_memory told (no_command s o told h))

pub complete_of : (c : Option Command) (s : OfSource) (o n : OfSink) (told last : Status) → Works c s o told → Reports n told last → IsComplete c s o n last
complete_of None = complete_none
complete_of (Some command.List) = λ s o n told last h r. complete_read list_output s o n told last h r
complete_of (Some (command.Decode options)) = λ s o n told last h r. complete_decoded options.plain options s o n told last h r
complete_of (Some (command.Make stream)) = λ s o n told last h r. complete_made stream s o n told last h.1 r
complete_of (Some (command.Trial stream)) = λ s o n told last h r. complete_tried stream s o n told last h.1 r

pub runs : (c : Option Command) (s : OfSource) (o n : OfSink) (first told last : Status) → Works c s o first → MayLackMemory first told → Reports n told last → Runs c s o n last
runs c s o n first told last h m r = record { first = told; work = works_told c s o first told h m; note = r }
