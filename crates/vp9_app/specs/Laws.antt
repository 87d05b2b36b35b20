-- The causes of the answers of a run, and where it is complete.
use Rattle.std.specs.Prelude.{◌≡◌, ◌⊎◌, ℕ, Bool, true, false, List, [], Option, Some, None}
use Rattle.vp9_types.specs.declared.rule.Rule.{Rule}
use Rattle.edge_io.specs.Filling.{WhereTold}
use Rattle.edge_io.specs.Putting.{Takes}
use Rattle.command_words.specs.declared.command.Command.{Command}
use Rattle.command_words.specs.declared.command.Command.TheVariants as command
use Rattle.command_words.specs.declared.command.DecodeOptions.{DecodeOptions}
use Rattle.command_words.specs.declared.command.MadeStream.{MadeStream}
use Rattle.stream_trial.specs.Trials.{BreaksAt, MadeEnds}
use Rattle.vp9_app.specs.declared.status.Status.{Status}
use Rattle.vp9_app.specs.declared.status.Status.TheVariants as status
use Rattle.vp9_app.specs.Making.{WritesMade, WritesTrial}
use Rattle.vp9_app.specs.ReadingCommands.{BreaksOff, Completes, LeavesTaken, Output, decode_output, list_output}
use Rattle.vp9_app.specs.Seen.{OfSink, OfSource, SinkFailed, SinkQuiet, SourceFailed, SourceQuiet, Unread}
use Rattle.vp9_app.specs.Notes.{note_line}
use Rattle.vp9_app.specs.Statuses.{status_of_ending}

-- no count rose
pub record AllQuiet (s : OfSource) (o n : OfSink) : Type 0 where
  pub source : SourceQuiet s
  pub out : SinkQuiet o
  pub note : SinkQuiet n

-- a stream is tried: its line is written, or nothing of a stream that breaks a rule
abbrev pub IsTried : MadeStream → OfSink → Status → Type 0
IsTried stream o status.Done = WritesTrial stream o
IsTried stream o (status.Broken stop) = (o.after ≡ o.before) × BreaksAt stream.number stream.frames stop
IsTried stream o last = ⊥

-- A decode is done, by whether it is plain: one by a crew needn't have read what is behind a frame that breaks a rule, where its source may
-- have failed.
abbrev pub IsDecodedBy : Bool → DecodeOptions → OfSource → OfSink → Status → Type 0
IsDecodedBy true options s o last = Completes (decode_output options) s o last
IsDecodedBy false options s o (status.Broken stop) = BreaksOff (decode_output options) s o stop
IsDecodedBy false options s o last = Completes (decode_output options) s o last

abbrev pub IsDecoded : DecodeOptions → OfSource → OfSink → Status → Type 0
IsDecoded options = IsDecodedBy options.plain options

-- all of its work is done: what it reads is read, and its whole output is written
abbrev pub IsDone : Command → OfSource → OfSink → Status → Type 0
IsDone command.List s o last = Completes list_output s o last
IsDone (command.Decode options) s o last = IsDecoded options s o last
IsDone (command.Make stream) s o last = Unread s × WritesMade stream o × (last ≡ status.Done)
IsDone (command.Trial stream) s o last = Unread s × IsTried stream o last

-- What a decode leaves written where its source failed, by whether it is plain: nothing, or by a crew what the front that was taken shows.
abbrev pub IsLeftBy : Bool → DecodeOptions → OfSource → OfSink → Type 0
IsLeftBy true options s o = o.after ≡ o.before
IsLeftBy false options s o = LeavesTaken options s o

-- what a command leaves written where its source failed: nothing, but for a decode by a crew
abbrev pub IsLeftByFault : Command → OfSource → OfSink → Type 0
IsLeftByFault (command.Decode options) s o = IsLeftBy options.plain options s o
IsLeftByFault used s o = o.after ≡ o.before

-- The cause of each answer. Where a frame breaks a rule, a source that is decoded as it comes may have failed behind that frame; any other
-- didn't fail (`IsDone`).
abbrev pub HasCause : Option Command → OfSource → OfSink → OfSink → Status → Type 0
HasCause c s o n status.Done = (used : Command) × (c ≡ Some used) × AllQuiet s o n × IsDone used s o status.Done × Takes n.before n.after []
HasCause c s o n (status.Broken stop) =
    (used : Command) × (c ≡ Some used) × SinkQuiet o × SinkQuiet n × IsDone used s o (status.Broken stop) × Takes n.before n.after (note_line (status.Broken stop))
HasCause c s o n status.Usage = (c ≡ None) × AllQuiet s o n × Takes n.before n.after (note_line status.Usage)
HasCause c s o n status.ReadFault =
    (used : Command) × (c ≡ Some used) × SourceFailed s × SinkQuiet o × SinkQuiet n × IsLeftByFault used s o × Takes n.before n.after (note_line status.ReadFault)
HasCause c s o n status.WriteFault = SinkFailed o ⊎ SinkFailed n
HasCause c s o n status.OutOfMemory = SinkQuiet o × SinkQuiet n

-- a command that reads its source ends as the output of its bytes, where the source tells them
abbrev pub EndsAs : (List ℕ → Output) → OfSource → Status → Type 0
EndsAs output s last = WhereTold s.rest (λ bytes. (last ≡ (output bytes).status) ⊎ (last ≡ status.OutOfMemory))

-- a trial ends as the output of a file that is made from the number
abbrev pub EndsAsTrial : MadeStream → Status → Type 0
EndsAsTrial stream last =
    ((ending : Option (ℕ × Rule)) × MadeEnds stream.number stream.frames ending × (last ≡ status_of_ending ending)) ⊎ (last ≡ status.OutOfMemory)

-- where no count rises, the answer is that of the words and the output, or want of memory
abbrev pub IsComplete : Option Command → OfSource → OfSink → OfSink → Status → Type 0
IsComplete None s o n last = AllQuiet s o n → (last ≡ status.Usage) ⊎ (last ≡ status.OutOfMemory)
IsComplete (Some command.List) s o n last = AllQuiet s o n → EndsAs list_output s last
IsComplete (Some (command.Decode options)) s o n last = AllQuiet s o n → EndsAs (decode_output options) s last
IsComplete (Some (command.Make stream)) s o n last = AllQuiet s o n → (last ≡ status.Done) ⊎ (last ≡ status.OutOfMemory)
IsComplete (Some (command.Trial stream)) s o n last = AllQuiet s o n → EndsAsTrial stream last
