-- The packets of an IVF file, taken one after another from a source. What a file's packets are stands in ivf_container.
use Rattle.std.specs.Prelude.{◌≡◌, ℕ, ◌<◌, List, [], ◌∷◌, ◌++◌, Option, Some, None, Result, Ok, Err, Vec, ⊤}
use Rattle.std.specs.declared.alloc.Global.{Global}
use Rattle.edge_io.specs.Filling.{WhereTold}
use Rattle.edge_io.specs.declared.read.ReadError.{ReadError}
use Rattle.edge_io.specs.declared.read.ReadError.TheVariants as read
use Rattle.vp9_types.specs.declared.rule.Rule.{Rule}
use Rattle.ivf_container.specs.Packets.{Packets, header_end, no_packets, packets_from, packets_of, frame_rate_of, with_payload}
use Rattle.packet_reader.specs.declared.reader.PacketReader.{PacketReader}
use Rattle.packet_reader.specs.declared.reader.PacketRefusal.{PacketRefusal}
use Rattle.packet_reader.specs.declared.reader.PacketRefusal.TheVariants as refused
use Rattle.packet_reader.specs.declared.reader.Stage.{Stage}
use Rattle.packet_reader.specs.declared.reader.Stage.TheVariants.{Header, Packet, Ended}

abbrev pub source_of : {S : Type 0} → PacketReader S → S
source_of r = r.source

abbrev pub stage_of : {S : Type 0} → PacketReader S → Stage
stage_of r = r.stage

-- bytes that the source gave before the reader had it: they count as long as it stands before the header
abbrev pub begun_at : Stage → Option (List ℕ) → List ℕ
begun_at Header (Some front) = front
begun_at Header None = []
begun_at Packet front = []
begun_at (Ended refusal) front = []

abbrev pub begun_of : {S : Type 0} → PacketReader S → List ℕ
begun_of r = begun_at r.stage r.front

-- bytes, and behind them what a source has left, where it tells that
abbrev pub with_front : List ℕ → Option (List ℕ) → Option (List ℕ)
with_front [] told = told
with_front (b ∷ front) None = None
with_front (b ∷ front) (Some bytes) = Some (b ∷ front ++ bytes)

-- what is ahead of a reader: the bytes in front that weren't taken, and then what its source has left
abbrev pub ahead : {S : Type 0} → (S → Option (List ℕ)) → PacketReader S → Option (List ℕ)
ahead rest r = with_front (begun_of r) (rest (source_of r))

-- the frame rate that a reader tells
abbrev pub rate_told : {S : Type 0} → PacketReader S → ℕ × ℕ
rate_told r = r.rate

abbrev pub Answer : Type 0
Answer = Result (Option (Vec ℕ Global)) PacketRefusal

abbrev pub refusal_of : ReadError → PacketRefusal
refusal_of read.Failed = refused.Failed
refusal_of read.OutOfMemory = refused.OutOfMemory

-- the packets that bytes hold: from the beginning of a file on, or from the beginning of a packet on
abbrev pub packets_in : Stage → List ℕ → Packets
packets_in Header bytes = packets_of bytes
packets_in Packet bytes = packets_from bytes 0
packets_in (Ended refusal) bytes = no_packets None

-- Of the bytes that were left a front was taken. It is the next packet alone, or all up to the end, or it breaks a rule, or the
-- source failed, or memory was wanted, before a whole packet was there.
abbrev pub IsNext : Stage → List ℕ → List ℕ → Answer → Type 0
IsNext stage front rest (Ok (Some payload)) =
    (packets_in stage front ≡ with_payload payload.items (no_packets None)) × (packets_in stage (front ++ rest) ≡ with_payload payload.items (packets_from rest 0))
IsNext stage front rest (Ok None) = (packets_in stage front ≡ no_packets None) × (rest ≡ [])
IsNext stage front rest (Err (refused.Rule rule)) = packets_in stage (front ++ rest) ≡ no_packets (Some rule)
IsNext stage front rest (Err refused.Failed) = (packets_in stage front).payloads ≡ []
IsNext stage front rest (Err refused.OutOfMemory) = (packets_in stage front).payloads ≡ []

-- what is ahead, and what the source has left then, where it tells that
abbrev pub TakesNext : Stage → Option (List ℕ) → Option (List ℕ) → Answer → Type 0
TakesNext stage old new answer =
    WhereTold old (λ bytes. (front : List ℕ) × (rest : List ℕ) × (bytes ≡ front ++ rest) × (new ≡ Some rest) × IsNext stage front rest answer)

-- a reader that has ended answers as it did then
abbrev pub answer_of : Option PacketRefusal → Answer
answer_of None = Ok None
answer_of (Some refusal) = Err refusal

abbrev pub GivesNext : Stage → Option (List ℕ) → Option (List ℕ) → Answer → Type 0
GivesNext (Ended refusal) old new answer = answer ≡ answer_of refusal
GivesNext Header old new answer = TakesNext Header old new answer
GivesNext Packet old new answer = TakesNext Packet old new answer

-- the rate of a file: what its header names, and 0 and 0 where that breaks a rule
abbrev pub rate_with : List ℕ → Result ℕ Rule → ℕ × ℕ
rate_with bytes (Ok end) = frame_rate_of bytes
rate_with bytes (Err rule) = (0, 0)

abbrev pub HasRate : List ℕ → ℕ × ℕ → Type 0
HasRate bytes rate = rate ≡ rate_with bytes (header_end bytes)

-- The rate that is told, before an answer and after it. The first answer tells that of the file, whose bytes are those that were
-- left before, unless the source failed or memory was wanting. Each other one leaves it.
abbrev pub TellsRate : Stage → Option (List ℕ) → ℕ × ℕ → ℕ × ℕ → Answer → Type 0
TellsRate Header told before now (Ok payload) = WhereTold told (λ bytes. HasRate bytes now)
TellsRate Header told before now (Err (refused.Rule rule)) = WhereTold told (λ bytes. HasRate bytes now)
TellsRate Header told before now (Err refused.Failed) = ⊤
TellsRate Header told before now (Err refused.OutOfMemory) = ⊤
TellsRate Packet told before now answer = now ≡ before
TellsRate (Ended refusal) told before now answer = now ≡ before

-- it stays as it is
abbrev pub IsAgain : {S : Type 0} → PacketReader S → PacketReader S → Answer → Type 0
IsAgain old new answer = (refusal : Option PacketRefusal) → old.stage ≡ Ended refusal → new ≡ old

-- where a reader stands after an answer
abbrev pub stage_after : Answer → Stage
stage_after (Ok (Some payload)) = Packet
stage_after (Ok None) = Ended None
stage_after (Err refusal) = Ended (Some refusal)

-- a source's count of faults, before and after: it rises exactly where the answer is a fault
abbrev pub CountsRefusals : {A : Type 0} → ℕ → ℕ → Result A PacketRefusal → Type 0
CountsRefusals before now (Ok x) = now ≡ before
CountsRefusals before now (Err refused.Failed) = before < now
CountsRefusals before now (Err refused.OutOfMemory) = now ≡ before
CountsRefusals before now (Err (refused.Rule rule)) = now ≡ before

-- and not again where a fault is only told again
abbrev pub CountsNext : Stage → ℕ → ℕ → Answer → Type 0
CountsNext (Ended refusal) before now answer = now ≡ before
CountsNext Header before now answer = CountsRefusals before now answer
CountsNext Packet before now answer = CountsRefusals before now answer

-- the source may be asked, or won't be
abbrev pub IsReadyAt : Stage → Type 0 → Type 0
IsReadyAt (Ended refusal) can_fill = ⊤
IsReadyAt Header can_fill = can_fill
IsReadyAt Packet can_fill = can_fill

abbrev pub IsReady : {S : Type 0} → (S → Type 0) → PacketReader S → Type 0
IsReady can_fill r = IsReadyAt r.stage (can_fill r.source)
