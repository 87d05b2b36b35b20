-- The frames of an IVF file, taken from a source in groups of whole packets. What a file's frames are stands in file_frames, and
-- where a reader of packets stands in packet_reader.
use Rattle.std.specs.Prelude.{◌≡◌, ℕ, ◌<◌, List, [], ◌++◌, length, map, slice_range, false, Option, Some, None, ⊤}
use Rattle.std.specs.List.{flat_map}
use Rattle.edge_io.specs.Filling.{WhereTold}
use Rattle.file_frames.specs.Containers.{is_webm, rate_of_file}
use Rattle.file_frames.specs.FileFrames.{FileFrames, frames_in, split_packets}
use Rattle.packet_reader.specs.TakenPackets as packets
use Rattle.packet_reader.specs.declared.reader.Stage.{Stage}
use Rattle.packet_reader.specs.declared.reader.Stage.TheVariants.{Header, Packet, Ended}
use Rattle.frame_groups.specs.declared.group.Behind.{Behind}
use Rattle.frame_groups.specs.declared.group.Behind.TheVariants.{More, End, Broken, Failed, OutOfMemory}
use Rattle.frame_groups.specs.declared.group.FrameGroup.{FrameGroup}
use Rattle.frame_groups.specs.declared.group.FramePayload.{FramePayload}
use Rattle.frame_groups.specs.declared.reader.GroupReader.{GroupReader}

---- The reader ----

abbrev pub source_of : {S : Type 0} → GroupReader S → S
source_of r = packets.source_of r.packets

-- where it stands
abbrev pub stage_of : {S : Type 0} → GroupReader S → Stage
stage_of r = packets.stage_of r.packets

-- bytes that the source gave before the reader had it: they count as long as it stands before the header
abbrev pub begun_of : {S : Type 0} → GroupReader S → List ℕ
begun_of r = packets.begun_of r.packets

-- what is ahead of it: the bytes in front that weren't taken, and then what its source has left
abbrev pub ahead : {S : Type 0} → (S → Option (List ℕ)) → GroupReader S → Option (List ℕ)
ahead rest r = packets.ahead rest r.packets

-- the frame rate that it tells
abbrev pub rate_told : {S : Type 0} → GroupReader S → ℕ × ℕ
rate_told r = packets.rate_told r.packets

-- it hasn't ended, and the source may be asked
abbrev pub IsReadyAt : Stage → Type 0 → Type 0
IsReadyAt Header can_fill = can_fill
IsReadyAt Packet can_fill = can_fill
IsReadyAt (Ended refusal) can_fill = ⊥

abbrev pub IsReady : {S : Type 0} → (S → Type 0) → GroupReader S → Type 0
IsReady can_fill r = IsReadyAt (stage_of r) (can_fill (source_of r))

---- A group ----

-- the frames of a payload, by where they lie
abbrev pub payload_frames : FramePayload → List (List ℕ)
payload_frames p = map (λ span. slice_range p.bytes.items span.from span.to) p.parts.items

-- the frames of a group
abbrev pub group_frames : FrameGroup → List (List ℕ)
group_frames g = flat_map payload_frames g.payloads.items

-- the frames that bytes hold: from the beginning of a file on, or from the beginning of a packet on
abbrev pub frames_ahead : Stage → List ℕ → FileFrames
frames_ahead stage bytes = split_packets (packets.packets_in stage bytes)

-- Whatever comes behind these bytes: what they hold together are these frames, and then what the others hold by themselves, read from
-- the second stage on; and it ends as that does.
pub record LeadTo (stage : Stage) (front : List ℕ) (frames : List (List ℕ)) (next : Stage) : Type 0 where
  pub frames_are : (more : List ℕ) → frames_in (frames_ahead stage (front ++ more)) ≡ frames ++ frames_in (frames_ahead next more)
  pub ending_is : (more : List ℕ) → (frames_ahead stage (front ++ more)).ending ≡ (frames_ahead next more).ending

-- These bytes hold these frames, and whatever comes behind the bytes, the frames stay the first ones.
pub record LeadAlong (stage : Stage) (front : List ℕ) (frames : List (List ℕ)) : Type 0 where
  pub frames_are : frames_in (frames_ahead stage front) ≡ frames
  pub behind_it : (more : List ℕ) → (behind : List (List ℕ)) × (frames_in (frames_ahead stage (front ++ more)) ≡ frames ++ behind)

-- Of the bytes that were left a front was taken. It is whole packets with these frames, one of them at least; or all up to the end, or a
-- rule is broken behind the frames; or the source failed, or memory was wanting, behind those of the packets that are whole in it.
abbrev pub IsGroup : Stage → List ℕ → List ℕ → List (List ℕ) → Behind → Type 0
IsGroup stage front rest frames More = LeadTo stage front frames Packet × (0 < length front)
IsGroup stage front rest frames End = (frames_in (frames_ahead stage front) ≡ frames) × ((frames_ahead stage front).ending ≡ None) × (rest ≡ [])
IsGroup stage front rest frames (Broken rule) =
    (frames_in (frames_ahead stage (front ++ rest)) ≡ frames) × ((frames_ahead stage (front ++ rest)).ending ≡ Some rule)
IsGroup stage front rest frames Failed = LeadAlong stage front frames
IsGroup stage front rest frames OutOfMemory = LeadAlong stage front frames

-- what is ahead, and what the source has left then, where it tells that
abbrev pub TakesGroup : Stage → Option (List ℕ) → Option (List ℕ) → List (List ℕ) → Behind → Type 0
TakesGroup stage old new frames behind =
    WhereTold old (λ bytes. (front : List ℕ) × (rest : List ℕ) × (bytes ≡ front ++ rest) × (new ≡ Some rest) × IsGroup stage front rest frames behind)

-- behind a group that has more behind it a reader stands before a packet, and its source may be asked
abbrev pub StandsBehind : Behind → Stage → Type 0 → Type 0
StandsBehind More stage can_fill = (stage ≡ Packet) × can_fill
StandsBehind End stage can_fill = ⊤
StandsBehind (Broken rule) stage can_fill = ⊤
StandsBehind Failed stage can_fill = ⊤
StandsBehind OutOfMemory stage can_fill = ⊤

-- nothing but the source is ahead behind a group; but want of memory may come before anything was asked
abbrev pub NoneBegun : Behind → Option (List ℕ) → Option (List ℕ) → Type 0
NoneBegun More now told = now ≡ told
NoneBegun End now told = now ≡ told
NoneBegun (Broken rule) now told = now ≡ told
NoneBegun Failed now told = now ≡ told
NoneBegun OutOfMemory now told = ⊤

-- a source's count of faults, before and after: it rises exactly where the source failed
abbrev pub CountsGroup : ℕ → ℕ → Behind → Type 0
CountsGroup before now More = now ≡ before
CountsGroup before now End = now ≡ before
CountsGroup before now (Broken rule) = now ≡ before
CountsGroup before now Failed = before < now
CountsGroup before now OutOfMemory = now ≡ before

-- the rate is that of a file with these bytes, if it isn't a WebM file
abbrev pub HasRateOf : List ℕ → ℕ × ℕ → Type 0
HasRateOf bytes rate = is_webm bytes ≡ false → rate ≡ rate_of_file bytes

-- The rate that is told, before a group and behind it. The first group tells that of the file, whose bytes are those that were ahead
-- before, unless the source failed or memory was wanting before its first frame. Each other one leaves it.
abbrev pub TellsGroupRate : Stage → Option (List ℕ) → ℕ × ℕ → ℕ × ℕ → List (List ℕ) → Behind → Type 0
TellsGroupRate Header told before now frames More = WhereTold told (λ bytes. HasRateOf bytes now)
TellsGroupRate Header told before now frames End = WhereTold told (λ bytes. HasRateOf bytes now)
TellsGroupRate Header told before now frames (Broken rule) = WhereTold told (λ bytes. HasRateOf bytes now)
TellsGroupRate Header told before now frames Failed = (frames ≡ [] → ⊥) → WhereTold told (λ bytes. HasRateOf bytes now)
TellsGroupRate Header told before now frames OutOfMemory = (frames ≡ [] → ⊥) → WhereTold told (λ bytes. HasRateOf bytes now)
TellsGroupRate Packet told before now frames behind = now ≡ before
TellsGroupRate (Ended refusal) told before now frames behind = now ≡ before
