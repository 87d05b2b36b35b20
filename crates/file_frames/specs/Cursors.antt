-- What a cursor over packets has ahead, and what its calls answer.
use Rattle.std.specs.Prelude.{◌≡◌, ℕ, ◌+◌, ◌-◌, ◌<◌, ◌≤◌, List, length, slice_range, Option, Some, None, Result, Ok, Err}
use Rattle.vp9_types.specs.declared.job.Span.{Span}
use Rattle.vp9_types.specs.declared.rule.Rule.{Rule}
use Rattle.ivf_container.specs.Packets.{Packets, no_packets, packets_from, with_payload}
use Rattle.webm_container.specs.Code.{Fits, blocks_ahead}
use Rattle.file_frames.specs.declared.packets.PacketCursor.{PacketCursor}
use Rattle.file_frames.specs.declared.packets.PacketCursor.TheVariants as cursor

-- the packets that a cursor has ahead
abbrev pub packets_left : List ℕ → PacketCursor → Packets
packets_left bytes (cursor.Ivf at) = packets_from bytes at
packets_left bytes (cursor.Webm blocks) = blocks_ahead bytes blocks
packets_left bytes (cursor.Broken rule) = no_packets (Some rule)

-- where it stands
abbrev pub place_of : PacketCursor → ℕ
place_of (cursor.Ivf at) = at
place_of (cursor.Webm blocks) = blocks.at
place_of (cursor.Broken rule) = 0

-- it stands in these bytes
abbrev pub FitsFile : List ℕ → PacketCursor → Type 0
FitsFile bytes (cursor.Ivf at) = at ≤ length bytes
FitsFile bytes (cursor.Webm blocks) = Fits (length bytes) blocks
FitsFile bytes (cursor.Broken rule) = Unit {0}

-- a payload ahead, which is passed
pub record IsPassed (bytes : List ℕ) (old : PacketCursor) (payload : Span) (new : PacketCursor) : Type 0 where
  pub in_order : payload.from ≤ payload.to
  pub within : payload.to ≤ length bytes
  pub left : packets_left bytes old ≡ with_payload (slice_range bytes payload.from payload.to) (packets_left bytes new)
  pub nearer : place_of old + (payload.to - payload.from) < place_of new
  pub bounded : place_of new ≤ length bytes

-- the next packet, the end of the file, or the rule that it breaks there
abbrev pub IsNextPacket : List ℕ → PacketCursor → Result (Option Span) Rule → PacketCursor → Type 0
IsNextPacket bytes old (Ok (Some payload)) new = IsPassed bytes old payload new
IsNextPacket bytes old (Ok None) new = packets_left bytes old ≡ no_packets None
IsNextPacket bytes old (Err rule) new = packets_left bytes old ≡ no_packets (Some rule)
