-- The commands that make a stream, to write it or to try the decoder on it: what they write, and how they end.
use Rattle.std.specs.Prelude.{◌≡◌, ◌⊎◌, ℕ, take, None}
use Rattle.edge_io.specs.Putting.{Takes}
use Rattle.command_words.specs.declared.command.MadeStream.{MadeStream}
use Rattle.stream_trial.specs.stream_forge.MadeFiles.{made}
use Rattle.stream_trial.specs.Trials.{BreaksAt, MadeEnds, made_line}
use Rattle.vp9_app.specs.declared.status.Status.{Status}
use Rattle.vp9_app.specs.declared.status.Status.TheVariants as status
use Rattle.vp9_app.specs.Seen.{OfSink, SinkFailed, SinkQuiet}

---- A stream ----

-- the file that is made from the number was written, and a front of it, which may be empty
abbrev pub WritesMade : MadeStream → OfSink → Type 0
WritesMade stream o = Takes o.before o.after (made stream.number stream.frames)

abbrev pub WritesFrontOfMade : MadeStream → OfSink → Type 0
WritesFrontOfMade stream o = (n : ℕ) × Takes o.before o.after (take n (made stream.number stream.frames))

-- How its work may end. Without memory for the whole file nothing is written.
abbrev pub Makes : MadeStream → OfSink → Status → Type 0
Makes stream o status.Done = SinkQuiet o × WritesMade stream o
Makes stream o status.WriteFault = SinkFailed o × WritesFrontOfMade stream o
Makes stream o status.OutOfMemory = SinkQuiet o × ((o.after ≡ o.before) ⊎ WritesFrontOfMade stream o)
Makes stream o status = ⊥

---- A trial of one ----

-- the line of the file that is made from the number was written, and a front of it, which may be empty: the file breaks no rule
abbrev pub WritesTrial : MadeStream → OfSink → Type 0
WritesTrial stream o = MadeEnds stream.number stream.frames None × Takes o.before o.after (made_line stream.number stream.frames)

abbrev pub WritesFrontOfTrial : MadeStream → OfSink → Type 0
WritesFrontOfTrial stream o = MadeEnds stream.number stream.frames None × ((n : ℕ) × Takes o.before o.after (take n (made_line stream.number stream.frames)))

-- How its work may end. Without memory for the file, or to decode it, nothing is written.
abbrev pub Trials : MadeStream → OfSink → Status → Type 0
Trials stream o status.Done = SinkQuiet o × WritesTrial stream o
Trials stream o (status.Broken stop) = SinkQuiet o × (o.after ≡ o.before) × BreaksAt stream.number stream.frames stop
Trials stream o status.WriteFault = SinkFailed o × WritesFrontOfTrial stream o
Trials stream o status.OutOfMemory = SinkQuiet o × ((o.after ≡ o.before) ⊎ WritesFrontOfTrial stream o)
Trials stream o status = ⊥
