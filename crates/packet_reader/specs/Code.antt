-- What is taken of a source on the way to a packet.
use Rattle.std.specs.Prelude.{◌≡◌, ◌⊎◌, ℕ, ◌+◌, ◌<◌, ◌≤◌, max, List, [], ◌++◌, length, take, codes, Option, Some, Result, Ok, Err, Vec, ⊤}
use Rattle.std.specs.declared.alloc.Global.{Global}
use Rattle.edge_io.specs.Filling.{WhereTold}
use Rattle.edge_io.specs.SourceReading.{Gave}
use Rattle.edge_io.specs.declared.read.ReadError.{ReadError}
use Rattle.ivf_container.specs.Packets.{IsHeader, header_end, header_length, packets_of, frame_rate_of}
use Rattle.packet_reader.specs.declared.reader.PacketRefusal.{PacketRefusal}
use Rattle.packet_reader.specs.declared.reader.PacketRefusal.TheVariants as refused

-- bytes are filled up to n with a front of what a source has left; they are fewer only where it ends, or is refused
abbrev pub FillsUp : ℕ → List ℕ → List ℕ → Option (List ℕ) → Option (List ℕ) → Result ⊤ ReadError → Type 0
FillsUp n before after old new (Ok x) =
    (front : List ℕ) × (after ≡ before ++ front) × Gave old new front × (length after ≤ n) × (length after < n → WhereTold old (λ bytes. new ≡ Some []))
FillsUp n before after old new (Err e) = (front : List ℕ) × Gave old new front × (length before + length front < n)

-- bytes that are less than a header, by what they say themselves
abbrev pub IsShort : List ℕ → Type 0
IsShort front = (length front < 32) ⊎ (length front < header_length front)

-- bytes that the tests of a header need no more of, and that are no more than a header
pub record IsEnough (front : List ℕ) : Type 0 where
  pub least : 32 ≤ length front
  pub said : take 4 front ≡ codes "DKIF" → length front ≡ max (header_length front) 32

-- what may be a header was taken
abbrev pub TakesHeader : Option (List ℕ) → Option (List ℕ) → Result (Vec ℕ Global) ReadError → Type 0
TakesHeader old new (Ok header) =
    Gave old new header.items × (IsEnough header.items ⊎ (IsShort header.items × WhereTold old (λ bytes. new ≡ Some [])))
TakesHeader old new (Err e) = (front : List ℕ) × Gave old new front × IsShort front

-- a front was taken that is the file header, with this rate, or breaks a rule, or is less than a header
abbrev pub IsPassed : List ℕ → List ℕ → Result (ℕ × ℕ) PacketRefusal → Type 0
IsPassed front rest (Ok rate) = IsHeader front × (rate ≡ frame_rate_of front)
IsPassed front rest (Err (refused.Rule rule)) = header_end (front ++ rest) ≡ Err rule
IsPassed front rest (Err refused.Failed) = (packets_of front).payloads ≡ []
IsPassed front rest (Err refused.OutOfMemory) = (packets_of front).payloads ≡ []

abbrev pub PassesHeader : Option (List ℕ) → Option (List ℕ) → Result (ℕ × ℕ) PacketRefusal → Type 0
PassesHeader old new result =
    WhereTold old (λ bytes. (front : List ℕ) × (rest : List ℕ) × (bytes ≡ front ++ rest) × (new ≡ Some rest) × IsPassed front rest result)
