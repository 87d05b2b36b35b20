-- A file has the packets of its container.
use Rattle.std.proofs.Common.{◌≡◌, ◌∙◌, ℕ, Bool, true, false, List, ap, inl, inr, refl, sym}
use Rattle.std.specs.Prelude.{if◌then◌else◌}
use Rattle.ivf_container.specs.Packets.{Packets, IsFile, packets_of}
use Rattle.webm_container.specs.Walk.{webm_packets}
use Rattle.file_frames.specs.Containers.{HasPackets, is_webm, packets_of_file}

abbrev pub packets_if : List ℕ → Bool → Packets
packets_if bytes webm = if webm then webm_packets bytes else packets_of bytes

has_by : (bytes : List ℕ) (webm : Bool) → is_webm bytes ≡ webm → IsFile bytes (packets_of bytes) → HasPackets bytes (packets_if bytes webm)
has_by bytes true is file = inl (is, refl)
has_by bytes false is file = inr (is, file)

pub has_packets : (bytes : List ℕ) → IsFile bytes (packets_of bytes) → HasPackets bytes (packets_of_file bytes)
unfolding packets_of_file
has_packets bytes file = has_by bytes (is_webm bytes) refl file

pub only_packets : (bytes : List ℕ) (packets : Packets) → ((packets : Packets) → IsFile bytes packets → packets ≡ packets_of bytes) → HasPackets bytes packets → packets ≡ packets_of_file bytes
unfolding packets_of_file
only_packets bytes packets only (inl h) = h.1 ∙ sym (ap (packets_if bytes) h.0)
only_packets bytes packets only (inr h) = only packets h.1 ∙ sym (ap (packets_if bytes) h.0)
