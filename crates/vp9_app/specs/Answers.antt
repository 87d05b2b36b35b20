-- What a run of the program reads, writes and tells.
use Rattle.std.specs.Prelude.{◌≡◌, ◌⊎◌, ℕ, IsTrue, take, Option, Some, None}
use Rattle.edge_io.specs.Putting.{Takes}
use Rattle.command_words.specs.declared.command.Command.{Command}
use Rattle.command_words.specs.declared.command.Command.TheVariants as command
use Rattle.vp9_app.specs.declared.status.Status.{Status}
use Rattle.vp9_app.specs.declared.status.Status.TheVariants as status
use Rattle.vp9_app.specs.Making.{Makes, Trials}
use Rattle.vp9_app.specs.Notes.{note_line}
use Rattle.vp9_app.specs.ReadingCommands.{DecodesSo, Reads, list_output}
use Rattle.vp9_app.specs.Seen.{OfSink, OfSource, SinkFailed, SinkQuiet, SourceQuiet, Unread}

-- nothing was read or written
abbrev pub Untouched : OfSource → OfSink → Type 0
Untouched s o = SourceQuiet s × SinkQuiet o × (s.left ≡ s.rest) × (o.after ≡ o.before)

-- how the work of a command may end, before the note is written
abbrev pub Works : Option Command → OfSource → OfSink → Status → Type 0
Works None s o status.Usage = Untouched s o
Works None s o status.OutOfMemory = Untouched s o
Works None s o status = ⊥
Works (Some command.List) s o status = Reads list_output s o status
Works (Some (command.Decode options)) s o status = DecodesSo options s o status
Works (Some (command.Make stream)) s o status = Unread s × Makes stream o status
Works (Some (command.Trial stream)) s o status = Unread s × Trials stream o status

-- the status where the note wants memory: a write fault goes first
abbrev pub without_memory : Status → Status
without_memory status.WriteFault = status.WriteFault
without_memory first = status.OutOfMemory

-- The note took the line of the status, or it refused, by a fault or, if it grows, for want of memory: then it took a
-- front of that line.
abbrev pub Reports : OfSink → Status → Status → Type 0
Reports n first last =
    (SinkQuiet n × (last ≡ first) × Takes n.before n.after (note_line first))
    ⊎ (SinkFailed n × (last ≡ status.WriteFault) × ((k : ℕ) × Takes n.before n.after (take k (note_line first))))
    ⊎ (SinkQuiet n × IsTrue n.grows × (last ≡ without_memory first) × ((k : ℕ) × Takes n.before n.after (take k (note_line first))))

-- the whole run: the work ends somehow, and then the note is written
pub record Runs (c : Option Command) (s : OfSource) (o n : OfSink) (last : Status) : Type 0 where
  pub first : Status
  pub work : Works c s o first
  pub note : Reports n first last
