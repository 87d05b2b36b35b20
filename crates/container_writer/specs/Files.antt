-- An IVF file as it is written.
use Rattle.std.specs.Prelude.{ℕ, List, ◌++◌, length, codes}
use Rattle.byteorder.specs.Endian.{little_bytes}
use Rattle.ivf_container.specs.Packets.{Written}

-- the signature, version 0, the header's length, the codec, width, height, rate, scale, the count of frames, and 4 bytes
-- that aren't used; numbers stand with the lowest byte first
unfoldable pub file_header : ℕ → ℕ → ℕ → ℕ → ℕ → List ℕ
file_header w h rate scale count =
    codes "DKIF" ++ little_bytes 2 0 ++ little_bytes 2 32 ++ codes "VP90"
    ++ little_bytes 2 w ++ little_bytes 2 h ++ little_bytes 4 rate ++ little_bytes 4 scale ++ little_bytes 4 count ++ little_bytes 4 0

-- a packet with its time stamp
abbrev pub packet_of : ℕ → List ℕ → Written
packet_of stamp payload = record { size = little_bytes 4 (length payload); stamp = little_bytes 8 stamp; payload = payload }
