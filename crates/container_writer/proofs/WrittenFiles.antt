-- What was written is a file.
use Rattle.std.proofs.Common.{◌≡◌, ℕ, ◌<◌, ◌^◌, List, [], ◌++◌, length, map, inl, refl, sym, arith}
use Rattle.std.specs.Prelude.{None}
use Rattle.std.specs.List.{flat_map, AllByRecursion}
use Rattle.std.proofs.lemmas.List.{append-nil, append_assoc}
use Rattle.byteorder.specs.Numbers.{little_number-reads_back}
use Rattle.ivf_container.specs.Packets.{Packets, Written, IsHeader, IsWritten, written_bytes, packets_of}
use Rattle.ivf_container.proofs.Files.{only_packets}
use Rattle.container_writer.specs.Files.{file_header, packet_of}

pub header_is : (w h rate scale count : ℕ) → IsHeader (file_header w h rate scale count)
unfolding file_header
header_is w h rate scale count =
    let size : length (file_header w h rate scale count) ≡ 32 = refl in
    record { signature = refl; codec = refl; least = omega (arith, size); says_length = refl }

pub packet_is : (stamp : ℕ) (payload : List ℕ) → length payload < 2 ^ 32 → IsWritten (packet_of stamp payload)
packet_is stamp payload fits = record {
  size_len = refl;
  stamp_len = refl;
  says_length = little_number-reads_back 4 (length payload) [] (omega (arith, fits));
}

pub file_is : (w h rate scale count : ℕ) (packets : List Written) → AllByRecursion IsWritten packets
    → packets_of (file_header w h rate scale count ++ flat_map written_bytes packets) ≡ record { payloads = map (λ p. p.payload) packets; ending = None }
file_is w h rate scale count packets all =
    let header = file_header w h rate scale count in
    let held : Packets = record { payloads = map (λ (p : Written). p.payload) packets; ending = None } in
    sym (only_packets (header ++ flat_map written_bytes packets) held (inl (record {
      header = header;
      body = flat_map written_bytes packets;
      whole = refl;
      is_header = header_is w h rate scale count;
      is_body = record {
        written = packets;
        rest = [];
        whole = sym (append-nil (flat_map written_bytes packets));
        each = all;
        payloads = refl;
        ends = refl;
      };
    })))

-- a payload behind its packet's header
pub behind_header : (old size stamp payload : List ℕ) → (old ++ (size ++ stamp)) ++ payload ≡ old ++ (size ++ stamp ++ payload)
behind_header old size stamp payload = simp append_assoc
