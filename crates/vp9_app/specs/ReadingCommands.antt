-- The commands that read their source: what they write for its bytes, and how they end.
use Rattle.std.specs.Prelude.{◌≡◌, ℕ, Bool, true, false, List, [], take, Some}
use Rattle.vp9_types.specs.declared.outcome.Stop.{Stop}
use Rattle.edge_io.specs.Filling.{WhereTold}
use Rattle.edge_io.specs.Putting.{Takes}
use Rattle.edge_io.specs.SourceReading.{Gave}
use Rattle.command_words.specs.declared.command.DecodeOptions.{DecodeOptions}
use Rattle.stream_decoder.specs.seq_decoder.Outputs.{output_of}
use Rattle.stream_decoder.specs.Streams.{MayHaveFailed, WritesTaken}
use Rattle.vp9_app.specs.declared.status.Status.{Status}
use Rattle.vp9_app.specs.declared.status.Status.TheVariants as status
use Rattle.vp9_app.specs.Listing.{listing}
use Rattle.vp9_app.specs.Seen.{OfSink, OfSource, SinkFailed, SinkQuiet, SourceFailed, SourceQuiet}
use Rattle.vp9_app.specs.Statuses.{status_of_ending}

-- what a command writes for the bytes of its source, and how it ends
pub record Output : Type 0 where
  pub text : List ℕ
  pub status : Status

-- the listing
abbrev pub list_output : List ℕ → Output
list_output bytes = record { text = (listing bytes).adds; status = status_of_ending (listing bytes).ending }

-- The shown frames of the sequential decoding process, in order and in the format that is asked for, to the end of the bytes or
-- up to the first frame that breaks a rule. How a file is decoded changes nothing of it.
abbrev pub decode_output : DecodeOptions → List ℕ → Output
decode_output options bytes = record { text = (output_of options.format bytes).adds; status = status_of_ending (output_of options.format bytes).ending }

-- the source was read to its end, the whole output of its bytes is written, and it ends so
pub record Completes (output : List ℕ → Output) (s : OfSource) (o : OfSink) (status : Status) : Type 0 where
  pub source : SourceQuiet s
  pub out : SinkQuiet o
  pub told : WhereTold s.rest (λ bytes. ((output bytes).status ≡ status) × Takes o.before o.after (output bytes).text × (s.left ≡ Some []))

-- a front of the output is written
abbrev pub WritesFront : (List ℕ → Output) → OfSource → OfSink → Type 0
WritesFront output s o = WhereTold s.rest (λ bytes. (n : ℕ) × Takes o.before o.after (take n (output bytes).text))

---- Of a source that is read whole first ----

-- how its work may end
abbrev pub Reads : (List ℕ → Output) → OfSource → OfSink → Status → Type 0
Reads output s o status.Done = Completes output s o status.Done
Reads output s o (status.Broken stop) = Completes output s o (status.Broken stop)
Reads output s o status.ReadFault = SourceFailed s × SinkQuiet o × (o.after ≡ o.before)
Reads output s o status.WriteFault = SourceQuiet s × SinkFailed o × WritesFront output s o
Reads output s o status.OutOfMemory = SourceQuiet s × SinkQuiet o × WritesFront output s o
Reads output s o status.Usage = ⊥

---- Of a source that is decoded as it comes ----

-- A frame breaks this rule, and the whole output up to it is written. A front of the source's bytes was taken: what is behind that frame
-- needn't be read, and the source may have failed there.
pub record BreaksOff (output : List ℕ → Output) (s : OfSource) (o : OfSink) (stop : Stop) : Type 0 where
  pub source : MayHaveFailed s.rest s.left s.faults s.faults_now
  pub out : SinkQuiet o
  pub taken : (front : List ℕ) × Gave s.rest s.left front
  pub told : WhereTold s.rest (λ bytes. ((output bytes).status ≡ status.Broken stop) × Takes o.before o.after (output bytes).text)

-- A front of the source's bytes was taken, no frame of whose whole packets breaks a rule, and what these show is written. Of a WebM file,
-- which is read whole first, nothing is.
abbrev pub LeavesTaken : DecodeOptions → OfSource → OfSink → Type 0
LeavesTaken options s o = (front : List ℕ) × Gave s.rest s.left front × WhereTold s.rest (λ bytes. WritesTaken options.format bytes front o.before o.after)

-- how the work of a decode may end
abbrev pub Streams : DecodeOptions → OfSource → OfSink → Status → Type 0
Streams options s o status.Done = Completes (decode_output options) s o status.Done
Streams options s o (status.Broken stop) = BreaksOff (decode_output options) s o stop
Streams options s o status.ReadFault = SourceFailed s × SinkQuiet o × LeavesTaken options s o
Streams options s o status.WriteFault = MayHaveFailed s.rest s.left s.faults s.faults_now × SinkFailed o × WritesFront (decode_output options) s o
Streams options s o status.OutOfMemory = MayHaveFailed s.rest s.left s.faults s.faults_now × SinkQuiet o × WritesFront (decode_output options) s o
Streams options s o status.Usage = ⊥

---- A decode ----

-- by whether it is plain
abbrev pub DecodesBy : Bool → DecodeOptions → OfSource → OfSink → Status → Type 0
DecodesBy true options = Reads (decode_output options)
DecodesBy false options = Streams options

-- a plain one reads its source whole first, and one by a crew decodes it as it comes
abbrev pub DecodesSo : DecodeOptions → OfSource → OfSink → Status → Type 0
DecodesSo options = DecodesBy options.plain options
