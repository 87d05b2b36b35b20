-- What is taken of a source on the way to a group, or to its container.
use Rattle.std.specs.Prelude.{◌≡◌, ℕ, ◌+◌, ◌<◌, ◌≤◌, ◌^◌, List, [], ◌++◌, length, take, Option, Some, Result, Ok, Err, ⊤}
use Rattle.std.specs.List.{flat_map}
use Rattle.edge_io.specs.Filling.{WhereTold}
use Rattle.edge_io.specs.SourceReading.{Gave}
use Rattle.packet_reader.specs.TakenPackets.{ahead, rate_told, source_of, stage_of}
use Rattle.packet_reader.specs.declared.reader.PacketReader.{PacketReader}
use Rattle.frame_groups.specs.declared.group.Behind.{Behind}
use Rattle.frame_groups.specs.declared.group.FramePayload.{FramePayload}
use Rattle.frame_groups.specs.Groups.{IsReadyAt, TakesGroup, TellsGroupRate, payload_frames}

-- a reader of packets hasn't ended, and its source may be asked
abbrev pub CanGoOn : {S : Type 0} → (S → Type 0) → PacketReader S → Type 0
CanGoOn can_fill r = IsReadyAt (stage_of r) (can_fill (source_of r))

-- payloads were added, whose frames were taken, and the rate is told
abbrev pub AddsGroup : {S : Type 0} → PacketReader S → PacketReader S → (S → Option (List ℕ)) → List FramePayload → List FramePayload → Behind → Type 0
AddsGroup old new rest before after behind =
    (more : List FramePayload) × (after ≡ before ++ more)
    × TakesGroup (stage_of old) (ahead rest old) (rest (source_of new)) (flat_map payload_frames more) behind
    × TellsGroupRate (stage_of old) (ahead rest old) (rate_told old) (rate_told new) (flat_map payload_frames more) behind

-- n bytes are in the buffer, and fewer than 4 only at the end; or before a fault a front was given
abbrev pub TakesFront : {E : Type 0} → Option (List ℕ) → Option (List ℕ) → List ℕ → Result ℕ E → Type 0
TakesFront old new buf (Ok n) = (n ≤ 4) × Gave old new (take n buf) × (n < 4 → WhereTold old (λ bytes. new ≡ Some []))
TakesFront old new buf (Err e) = (front : List ℕ) × Gave old new front × (length front < 4)

-- how many bytes a source has given, before and after it gave n; where it gave some, that is less than 2 ^ 63
abbrev pub CountsFront : {E : Type 0} → ℕ → ℕ → Result ℕ E → Type 0
CountsFront before now (Ok n) = (now ≡ before + n) × (0 < n → now < 2 ^ 63)
CountsFront before now (Err e) = ⊤
