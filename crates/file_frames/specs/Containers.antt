-- The packets of a file, whatever its container is. A file that begins as WebM does is read as that, each other one as IVF.
use Rattle.std.specs.Prelude.{◌≡◌, ◌⊎◌, ℕ, Bool, true, false, List, [], ◌∷◌, nat_eq, if◌then◌else◌, Result, Ok, Err}
use Rattle.std.specs.List.{starts_with}
use Rattle.vp9_types.specs.declared.rule.Rule.{Rule}
use Rattle.ivf_container.specs.Packets.{Packets, IsFile, header_end, packets_of, frame_rate_of}
use Rattle.webm_container.specs.Walk.{webm_packets}

-- it begins with the id of the element EBML
abbrev pub is_webm : List ℕ → Bool
is_webm bytes = starts_with nat_eq bytes (26 ∷ 69 ∷ 223 ∷ 163 ∷ [])

abbrev pub HasPackets : List ℕ → Packets → Type 0
HasPackets bytes packets =
    ((is_webm bytes ≡ true) × (packets ≡ webm_packets bytes))
    ⊎ ((is_webm bytes ≡ false) × IsFile bytes packets)

-- the same, computed
unfoldable pub packets_of_file : List ℕ → Packets
packets_of_file bytes = if is_webm bytes then webm_packets bytes else packets_of bytes

abbrev pub rate_with : List ℕ → Result ℕ Rule → ℕ × ℕ
rate_with bytes (Ok end) = frame_rate_of bytes
rate_with bytes (Err rule) = (0, 0)

-- how many frames a second a file tells, as a number and what it is divided by: what the header of an IVF file has, and 30 of
-- a WebM file
unfoldable pub rate_of_file : List ℕ → ℕ × ℕ
rate_of_file bytes = if is_webm bytes then (30, 1) else rate_with bytes (header_end bytes)
