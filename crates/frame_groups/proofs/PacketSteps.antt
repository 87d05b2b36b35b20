-- A packet stays the same packet whatever comes behind it.
use Rattle.std.proofs.Common.{◌≡◌, ℕ, suc, List, [], ◌∷◌, ◌++◌, length, map, sym, ap, subst, ◌∙◌, arith, inl, inr, append_assoc}
use Rattle.std.specs.Prelude.{None}
use Rattle.std.specs.List.{flat_map, AllByRecursion}
use Rattle.std.proofs.lemmas.List.{append-nil}
use Rattle.ivf_container.specs.Packets.{Packets, IsBody, IsFile, IsWritten, Written, no_packets, packets_from, packets_of, with_payload, written_bytes}
use Rattle.ivf_container.proofs.Bodies.{has_body}
use Rattle.ivf_container.proofs.Files.{has_packets}
use Rattle.packet_reader.proofs.HeaderLemmas.{packets_behind}
use Rattle.packet_reader.proofs.PacketLemmas.{one_packet}
use Rattle.packet_reader.specs.TakenPackets.{packets_in}
use Rattle.packet_reader.specs.declared.reader.Stage.{Stage}
use Rattle.packet_reader.specs.declared.reader.Stage.TheVariants.{Header, Packet, Ended}

-- one packet with this payload
abbrev alone : List ℕ → Packets
alone payload = with_payload payload (no_packets None)

-- bytes that are one packet are it as it is written
record IsOne (front payload : List ℕ) : Type 0 where
  w : Written
  is_written : IsWritten w
  same : w.payload ≡ payload
  whole : front ≡ written_bytes w

is_one : (front payload : List ℕ) → IsBody front (alone payload) → IsOne front payload
is_one front payload body = by_written body.written body.rest body.whole body.each body.payloads body.ends where
  by_written : (written : List Written) (rest : List ℕ) → front ≡ flat_map written_bytes written ++ rest → AllByRecursion IsWritten written
      → payload ∷ [] ≡ map (λ w. w.payload) written → rest ≡ [] → IsOne front payload
  by_written [] rest whole each payloads none = cc
  by_written (w ∷ []) rest whole each payloads none =
      let same : w.payload ≡ payload = cc in
      record {
        w = w;
        is_written = each.0;
        same = same;
        whole = whole ∙ ap (λ xs. (written_bytes w ++ []) ++ xs) none ∙ append-nil (written_bytes w ++ []) ∙ append-nil (written_bytes w);
      }
  by_written (w ∷ (v ∷ written)) rest whole each payloads none = cc

body_stays : (front payload more : List ℕ) → packets_from front 0 ≡ alone payload → packets_from (front ++ more) 0 ≡ with_payload payload (packets_from more 0)
unfolding packets_from
body_stays front payload more is =
    let one = is_one front payload (subst (λ (p : Packets). IsBody front p) is (has_body (suc (length front)) front 0 (omega arith) (omega arith))) in
    ap (λ xs. packets_from (xs ++ more) 0) one.whole ∙ one_packet one.w more one.is_written ∙ ap (λ p. with_payload p (packets_from more 0)) one.same

file_stays : (front payload more : List ℕ) → packets_of front ≡ alone payload → packets_of (front ++ more) ≡ with_payload payload (packets_from more 0)
file_stays front payload more is = by_file (has_packets front) where
  by_file : IsFile front (packets_of front) → packets_of (front ++ more) ≡ with_payload payload (packets_from more 0)
  by_file (inl h) =
      let body : packets_from h.body 0 ≡ alone payload = sym (packets_behind h.header h.body h.is_header) ∙ sym (ap packets_of h.whole) ∙ is in
      ap (λ xs. packets_of (xs ++ more)) h.whole ∙ ap packets_of (append_assoc h.header h.body more) ∙ packets_behind h.header (h.body ++ more) h.is_header
      ∙ body_stays h.body payload more body
  by_file (inr (rule, fails, same)) =
      let no : [] ≡ payload ∷ [] = ap (λ (p : Packets). p.payloads) (sym same ∙ is) in
      cc

pub packet_stays : (stage : Stage) (front payload more : List ℕ) → packets_in stage front ≡ alone payload → packets_in stage (front ++ more) ≡ with_payload payload (packets_in Packet more)
packet_stays Header front payload more is = file_stays front payload more is
packet_stays Packet front payload more is = body_stays front payload more is
packet_stays (Ended refusal) front payload more is = let no : [] ≡ payload ∷ [] = ap (λ (p : Packets). p.payloads) is in cc
