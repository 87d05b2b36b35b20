-- A file has the packets that the walk finds, and no others.
use Rattle.std.proofs.Common.{◌≡◌, inl, inr, ℕ, suc, ◌≤◌, List, length, take, drop, refl, sym, ap, subst, ◌∙◌, arith, length-append}
use Rattle.std.specs.Prelude.{Result, Ok, Err}
use Rattle.std.proofs.lemmas.List.{take-append-drop, drop_at}
use Rattle.vp9_types.specs.declared.rule.Rule.{Rule}
use Rattle.ivf_container.specs.Packets.{Packets, IsFile, IsBody, header_end, packets_of, packets_from, packets_after}
use Rattle.ivf_container.proofs.Headers.{IsTested, is_tested, is_header, ends_header, fails_header}
use Rattle.ivf_container.proofs.Bodies.{has_body, only_body}

pub has_packets : (bytes : List ℕ) → IsFile bytes (packets_of bytes)
unfolding packets_of packets_from
has_packets bytes = by_header (header_end bytes) (is_tested bytes) where
  by_header : (r : Result ℕ Rule) → IsTested bytes r → IsFile bytes (packets_after bytes r)
  by_header (Ok at) t = inl (record {
    header = take at bytes;
    body = drop at bytes;
    whole = sym (take-append-drop at bytes);
    is_header = is_header bytes at t;
    is_body = has_body (suc (length bytes)) bytes at t.2 (omega arith);
  })
  by_header (Err rule) t = inr (rule, t, refl)

body_only : (bytes : List ℕ) (at : ℕ) (packets : Packets) → at ≤ length bytes → IsBody (drop at bytes) packets → packets ≡ packets_from bytes at
unfolding packets_from
body_only bytes at packets fits b =
    ap (λ xs. record { payloads = xs; ending = packets.ending }) b.payloads
    ∙ sym (only_body (suc (length bytes)) bytes at fits (omega arith) b.written b.rest packets.ending b.whole b.each b.ends)

pub only_packets : (bytes : List ℕ) (packets : Packets) → IsFile bytes packets → packets ≡ packets_of bytes
unfolding packets_of
only_packets bytes packets (inr (rule, fails, same)) = same ∙ ap (packets_after bytes) (sym (fails_header bytes rule fails))
only_packets bytes packets (inl h) =
    let ended : header_end bytes ≡ Ok (length h.header) = ap header_end h.whole ∙ ends_header h.header h.body h.is_header in
    let behind : drop (length h.header) bytes ≡ h.body = ap (drop (length h.header)) h.whole ∙ drop_at h.header h.body (length h.header) refl in
    let fits : length h.header ≤ length bytes = omega (arith, ap length h.whole, length-append h.header h.body) in
    body_only bytes (length h.header) packets fits (subst (λ xs. IsBody xs packets) (sym behind) h.is_body) ∙ ap (packets_after bytes) (sym ended)
