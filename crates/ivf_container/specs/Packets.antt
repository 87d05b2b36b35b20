-- The packets of an IVF file. IVF has no part in the VP9 standard: this is the whole of its description here.
use Rattle.std.specs.Prelude.{◌≡◌, ◌≢◌, ◌⊎◌, ℕ, zero, suc, ◌+◌, ◌-◌, ◌<◌, ◌≤◌, not, if◌then◌else◌, nat_eq, nat_lt, List, [], ◌∷◌, ◌++◌, length, take, map, slice_range, codes, Option, Some, None, Result, Ok, Err}
use Rattle.std.specs.List.{flat_map, starts_with, AllByRecursion}
use Rattle.byteorder.specs.Endian.{little_number}
use Rattle.vp9_types.specs.declared.rule.Rule.{Rule}
use Rattle.vp9_types.specs.declared.rule.Rule.TheVariants.{IvfSignature, IvfHeader, IvfCodec, IvfTruncated}
use Rattle.ivf_container.specs.declared.packet.Packet.{Packet}

-- what a file holds: the payloads of its packets, and the rule at which it breaks off, or None at the end of the file
pub record Packets : Type 0 where
  pub payloads : List (List ℕ)
  pub ending : Option Rule

abbrev pub no_packets : Option Rule → Packets
no_packets ending = record { payloads = []; ending = ending }

-- a payload, and then these packets
abbrev pub with_payload : List ℕ → Packets → Packets
with_payload payload packets = record { payloads = payload ∷ packets.payloads; ending = packets.ending }

-- payloads, and then these packets
abbrev pub with_payloads : List (List ℕ) → Packets → Packets
with_payloads payloads packets = record { payloads = payloads ++ packets.payloads; ending = packets.ending }

---- What a file is ----

-- the length of the file header, as it says itself
abbrev pub header_length : List ℕ → ℕ
header_length bytes = little_number 2 (slice_range bytes 6 8)

-- the frame rate that a file header names: a number of frames, and in how many seconds
abbrev pub frame_rate_of : List ℕ → ℕ × ℕ
frame_rate_of bytes = (little_number 4 (slice_range bytes 16 20), little_number 4 (slice_range bytes 20 24))

-- A file header begins with `DKIF`, names the codec `VP90`, and has at least 32 bytes. What its other fields say, and
-- what it has from byte 32 on, is free.
pub record IsHeader (header : List ℕ) : Type 0 where
  pub signature : take 4 header ≡ codes "DKIF"
  pub codec : slice_range header 8 12 ≡ codes "VP90"
  pub least : 32 ≤ length header
  pub says_length : header_length header ≡ length header

-- the bytes have no header, and this is the rule: that of the first test that fails
abbrev pub FailsHeader : List ℕ → Rule → Type 0
FailsHeader bytes IvfSignature = (4 ≤ length bytes) × (take 4 bytes ≢ codes "DKIF")
FailsHeader bytes IvfHeader =
    (length bytes < 4)
    ⊎ ((take 4 bytes ≡ codes "DKIF") × ((length bytes < 32) ⊎ (header_length bytes < 32) ⊎ (length bytes < header_length bytes)))
FailsHeader bytes IvfCodec =
    (take 4 bytes ≡ codes "DKIF") × (32 ≤ header_length bytes) × (header_length bytes ≤ length bytes) × (slice_range bytes 8 12 ≢ codes "VP90")
FailsHeader bytes rule = ⊥

-- a packet as it is written: the payload's length in 4 bytes, little endian, a time stamp in 8, and the payload
pub record Written : Type 0 where
  pub size : List ℕ
  pub stamp : List ℕ
  pub payload : List ℕ

pub record IsWritten (w : Written) : Type 0 where
  pub size_len : length w.size ≡ 4
  pub stamp_len : length w.stamp ≡ 8
  pub says_length : little_number 4 w.size ≡ length w.payload

abbrev pub written_bytes : Written → List ℕ
written_bytes w = w.size ++ w.stamp ++ w.payload

abbrev pub BeginsNoPacket : List ℕ → Type 0
BeginsNoPacket rest = (w : Written) (more : List ℕ) → IsWritten w → rest ≡ written_bytes w ++ more → ⊥

-- what is left behind the packets: nothing, or less than a packet
abbrev pub EndsAs : List ℕ → Option Rule → Type 0
EndsAs rest None = rest ≡ []
EndsAs rest (Some rule) = (rule ≡ IvfTruncated) × (rest ≢ []) × BeginsNoPacket rest

-- the bytes are packets with these payloads, and a rest
pub record IsBody (bytes : List ℕ) (packets : Packets) : Type 0 where
  pub written : List Written
  pub rest : List ℕ
  pub whole : bytes ≡ flat_map written_bytes written ++ rest
  pub each : AllByRecursion IsWritten written
  pub payloads : packets.payloads ≡ map (λ w. w.payload) written
  pub ends : EndsAs rest packets.ending

-- the bytes are a header and a body with these packets
pub record HasPackets (bytes : List ℕ) (packets : Packets) : Type 0 where
  pub header : List ℕ
  pub body : List ℕ
  pub whole : bytes ≡ header ++ body
  pub is_header : IsHeader header
  pub is_body : IsBody body packets

-- the bytes are a file with these packets, or one whose header fails already
abbrev pub IsFile : List ℕ → Packets → Type 0
IsFile bytes packets = HasPackets bytes packets ⊎ ((rule : Rule) × FailsHeader bytes rule × (packets ≡ no_packets (Some rule)))

---- The same, computed ----

-- where the file header ends, or the rule of the first test that fails
unfoldable pub header_end : List ℕ → Result ℕ Rule
header_end bytes =
    if nat_lt (length bytes) 4 then Err IvfHeader
    else (if not (starts_with nat_eq bytes (codes "DKIF")) then Err IvfSignature
    else (if nat_lt (length bytes) 32 then Err IvfHeader
    else (if nat_lt (header_length bytes) 32 then Err IvfHeader
    else (if nat_lt (length bytes) (header_length bytes) then Err IvfHeader
    else (if not (starts_with nat_eq (slice_range bytes 8 12) (codes "VP90")) then Err IvfCodec
    else Ok (header_length bytes))))))

-- the size that the packet at a place says its payload has
abbrev pub size_at : List ℕ → ℕ → ℕ
size_at bytes at = little_number 4 (slice_range bytes at (at + 4))

-- the packet at a place, None at the end, or the rule if it is cut short
unfoldable pub next_packet_at : List ℕ → ℕ → Result (Option Packet) Rule
next_packet_at bytes at =
    if nat_eq (length bytes - at) 0 then Ok None
    else (if nat_lt (length bytes - at) 12 then Err IvfTruncated
    else (if nat_lt (length bytes - at - 12) (size_at bytes at) then Err IvfTruncated
    else Ok (Some (record { from = at + 12; to = at + 12 + size_at bytes at }))))

-- the payload of a packet
abbrev pub payload_of : List ℕ → Packet → List ℕ
payload_of bytes p = slice_range bytes p.from p.to

-- the packets from a place on, as the next one there decides; `further` has those from a later place on
abbrev pub go_on : List ℕ → (ℕ → Packets) → Result (Option Packet) Rule → Packets
go_on bytes further (Ok None) = no_packets None
go_on bytes further (Ok (Some p)) = with_payload (payload_of bytes p) (further p.to)
go_on bytes further (Err rule) = no_packets (Some rule)

-- the packets from a place on, where there are fewer than n
abbrev pub fewer_from : ℕ → List ℕ → ℕ → Packets
fewer_from zero bytes at = no_packets None
fewer_from (suc n) bytes at = go_on bytes (fewer_from n bytes) (next_packet_at bytes at)

-- the packets from a place on
unfoldable pub packets_from : List ℕ → ℕ → Packets
packets_from bytes at = fewer_from (suc (length bytes)) bytes at

abbrev pub packets_after : List ℕ → Result ℕ Rule → Packets
packets_after bytes (Ok at) = packets_from bytes at
packets_after bytes (Err rule) = no_packets (Some rule)

-- the packets of a file
unfoldable pub packets_of : List ℕ → Packets
packets_of bytes = packets_after bytes (header_end bytes)

---- What the calls answer ----

-- the header ends at a place, where the packets begin, or it breaks a rule
abbrev pub IsBegun : List ℕ → Result ℕ Rule → Type 0
IsBegun bytes (Ok at) = (at ≤ length bytes) × (packets_of bytes ≡ packets_from bytes at)
IsBegun bytes (Err rule) = packets_of bytes ≡ no_packets (Some rule)

-- a packet at a place, with those behind it
pub record IsPacket (bytes : List ℕ) (at : ℕ) (p : Packet) : Type 0 where
  pub from : at + 12 ≡ p.from
  pub to : p.to ≡ p.from + size_at bytes at
  pub in_order : p.from ≤ p.to
  pub within : p.to ≤ length bytes
  pub packets : packets_from bytes at ≡ with_payload (payload_of bytes p) (packets_from bytes p.to)

-- the end at a place, a packet there, or too few bytes for one
abbrev pub IsNext : List ℕ → ℕ → Result (Option Packet) Rule → Type 0
IsNext bytes at (Ok None) = (at ≡ length bytes) × (packets_from bytes at ≡ no_packets None)
IsNext bytes at (Ok (Some p)) = IsPacket bytes at p
IsNext bytes at (Err rule) = (rule ≡ IvfTruncated) × (packets_from bytes at ≡ no_packets (Some rule))
