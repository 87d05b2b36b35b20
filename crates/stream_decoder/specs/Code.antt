-- Where a decode stands that takes its source group by group.
use Rattle.std.specs.Prelude.{◌≡◌, ℕ, List, [], Option, ⊤}
use Rattle.edge_io.specs.Filling.{WhereTold}
use Rattle.edge_io.specs.Putting.{Takes}
use Rattle.vp9_types.specs.declared.outcome.Outcome.{Outcome}
use Rattle.vp9_types.specs.declared.outcome.Outcome.TheVariants as outcome
use Rattle.frame_output.specs.declared.rendering.Format.{Format}
use Rattle.packet_reader.specs.declared.reader.Stage.{Stage}
use Rattle.packet_reader.specs.declared.reader.Stage.TheVariants.{Header, Packet, Ended}
use Rattle.frame_groups.specs.declared.group.Behind.{Behind}
use Rattle.frame_groups.specs.declared.group.Behind.TheVariants as behind
use Rattle.frame_groups.specs.Groups.{HasRateOf, IsReady, TakesGroup, ahead, rate_told, source_of, stage_of}
use Rattle.job_decoder.specs.Pasts.{IsPast, frames_behind}
use Rattle.job_decoder.specs.Reaches.{past_texts}
use Rattle.job_decoder.specs.declared.group.Reached.{Reached}
use Rattle.job_decoder.specs.declared.group.Reached.TheVariants as reached
use Rattle.job_decoder.specs.declared.past.Past.{Past}
use Rattle.stream_decoder.specs.declared.steps.Turn.{Turn}
use Rattle.stream_decoder.specs.declared.steps.Turn.TheVariants.{On, Over}
use Rattle.stream_decoder.specs.declared.steps.Way.{Way}
use Rattle.stream_decoder.specs.Streams.{DecodesSource}

---- Before a turn ----

-- What a decode was begun with. Of its source: what that had ahead, where it told it, and its count of faults. Of its sink: what that had
-- taken, where it told it, and its count of faults.
pub record Begun : Type 0 where
  pub told : Option (List ℕ)
  pub failed : ℕ
  pub taken : Option (List ℕ)
  pub faults : ℕ

-- Nothing was taken yet. Or whole packets were, which have these frames, and the rate is that of the file. Of the source: what was ahead at
-- the beginning and what is ahead now, and what it has left.
abbrev pub HasTaken : Stage → Option (List ℕ) → Option (List ℕ) → Option (List ℕ) → ℕ × ℕ → List (List ℕ) → Type 0
HasTaken Header told now left rate frames = (now ≡ told) × (frames ≡ [])
HasTaken Packet told now left rate frames = (now ≡ left) × TakesGroup Header told left frames behind.More × WhereTold told (λ bytes. HasRateOf bytes rate)
HasTaken (Ended refusal) told now left rate frames = ⊥

-- a rate that is told behind the next group: any one, where the header is ahead still
abbrev pub MayTell : Stage → ℕ × ℕ → ℕ × ℕ → Type 0
MayTell Header told rate = ⊤
MayTell Packet told rate = rate ≡ told
MayTell (Ended refusal) told rate = rate ≡ told

-- All frames behind are decoded, and what is kept of them is right, by the rate that is told then.
abbrev pub IsPastAt : Stage → Format → ℕ × ℕ → Past → Type 0
IsPastAt stage format told p = (rate : ℕ × ℕ) → MayTell stage told rate → IsPast format rate p

-- their texts were taken, and nothing else
abbrev pub HasWritten : Stage → Format → ℕ × ℕ → Past → Option (List ℕ) → Option (List ℕ) → Type 0
HasWritten stage format told p old new = (rate : ℕ × ℕ) → MayTell stage told rate → Takes old new (past_texts format rate p)

-- What was taken of the source since the beginning is decoded and written, and nothing failed. Of the source: its stage, what is ahead and
-- what it has left, the rate, and its count of faults; and of the sink: what it has taken, and its count of faults.
pub record IsOnWay (format : Format) (b : Begun) (stage : Stage) (now left : Option (List ℕ)) (rate : ℕ × ℕ) (failed : ℕ) (p : Past) (taken : Option (List ℕ)) (faults : ℕ) : Type 0 where
  pub took : HasTaken stage b.told now left rate (frames_behind p)
  pub wrote : HasWritten stage format rate p b.taken taken
  pub sound : failed ≡ b.failed
  pub quiet : faults ≡ b.faults

abbrev pub OnWay : {S K : Type 0} → Format → Begun → (S → Option (List ℕ)) → (S → ℕ) → (K → Option (List ℕ)) → (K → ℕ) → Way S K → Type 0
OnWay format b rest failed_of taken faults_of w =
    IsOnWay format b (stage_of w.reader) (ahead rest w.reader) (rest (source_of w.reader)) (rate_told w.reader) (failed_of (source_of w.reader)) w.past (taken w.sink) (faults_of w.sink)

-- the source may be asked, the frames behind are a past, and the sink may be put to
abbrev pub MayGoOn : {S K : Type 0} → Format → (S → Type 0) → (K → Type 0) → Way S K → Type 0
MayGoOn format can_fill can_put w = IsReady can_fill w.reader × IsPastAt (stage_of w.reader) format (rate_told w.reader) w.past × can_put w.sink

---- Behind a turn ----

abbrev pub source_in : {S K : Type 0} → Turn S K → S
source_in (On w) = source_of w.reader
source_in (Over s) = s.source

abbrev pub sink_of : {S K : Type 0} → Turn S K → K
sink_of (On w) = w.sink
sink_of (Over s) = s.sink

-- the decode is on its way still, or it has ended as it should
abbrev pub Turned : {S K : Type 0} → Format → Begun → (S → Option (List ℕ)) → (S → ℕ) → (K → Option (List ℕ)) → (K → ℕ) → Turn S K → Type 0
Turned format b rest failed_of taken faults_of (On w) = OnWay format b rest failed_of taken faults_of w
Turned format b rest failed_of taken faults_of (Over s) =
    DecodesSource format b.told (rest s.source) b.failed (failed_of s.source) b.taken (taken s.sink) b.faults (faults_of s.sink) s.outcome

abbrev pub MayTurn : {S K : Type 0} → Format → (S → Type 0) → (K → Type 0) → Turn S K → Type 0
MayTurn format can_fill can_put (On w) = MayGoOn format can_fill can_put w
MayTurn format can_fill can_put (Over s) = ⊤

-- where a decode stops, there are frames in which it does
abbrev pub StopsInFrames : {K : Type 0} → List (List ℕ) → Reached K → Type 0
StopsInFrames frames (reached.Further p sink) = ⊤
StopsInFrames frames (reached.Ended decoded) = frames ≡ [] → ⊥

---- What the steps answer ----

abbrev pub over : {S K : Type 0} → Way S K → Outcome → Turn S K
over w o = Over (record { outcome = o; source = source_of w.reader; sink = w.sink })

-- how a decode goes on behind a group that is decoded
abbrev pub turn_of : {S K : Type 0} → Behind → Way S K → Turn S K
turn_of behind.More w = On w
turn_of behind.End w = over w outcome.Done
turn_of (behind.Broken rule) w = over w (outcome.Broken (record { frame = w.past.count; rule = rule }))
turn_of behind.Failed w = over w outcome.ReadFault
turn_of behind.OutOfMemory w = over w outcome.OutOfMemory
