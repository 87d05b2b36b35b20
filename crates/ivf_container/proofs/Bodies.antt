-- The packets behind the header: what lies at a place is a packet and what is behind it, the end, or less than a packet.
use Rattle.std.proofs.Common.{◌≡◌, ℕ, zero, suc, ◌+◌, ◌-◌, ◌<◌, ◌≤◌, List, [], ◌∷◌, ◌++◌, length, map, take, drop, refl, sym, ap, ◌∙◌, arith, length-drop, length-append, append_assoc}
use Rattle.std.specs.Prelude.{Option, Some, None, Result, Ok, Err, slice_range}
use Rattle.std.specs.List.{flat_map, AllByRecursion}
use Rattle.std.proofs.lemmas.List.{take-append-drop, drop-drop, drop_at, take_at, drop_all, length-take-le}
use Rattle.byteorder.specs.Endian.{little_number}
use Rattle.vp9_types.specs.declared.rule.Rule.{Rule}
use Rattle.ivf_container.specs.declared.packet.Packet.{Packet}
use Rattle.ivf_container.specs.Packets.{Written, IsWritten, written_bytes, BeginsNoPacket, EndsAs, IsBody, size_at, payload_of, next_packet_at, go_on, fewer_from, no_packets, with_payload}
use Rattle.ivf_container.proofs.Walks.{IsPlaced, IsStep, is_step}

cut : (xs : List ℕ) (i j : ℕ) → i ≤ j → drop i xs ≡ slice_range xs i j ++ drop j xs
cut xs i j order =
    let there : i + (j - i) ≡ j = omega arith in
    sym (take-append-drop (j - i) (drop i xs)) ∙ ap (λ ys. slice_range xs i j ++ ys) (drop-drop (j - i) i xs ∙ ap (λ k. drop k xs) there)

length_range : (xs : List ℕ) (i j : ℕ) → i ≤ j → j ≤ length xs → length (slice_range xs i j) ≡ j - i
length_range xs i j order within = length-take-le (j - i) (drop i xs) (omega (arith, length-drop i xs))

-- the packet at a place, as it is written
abbrev written_at : List ℕ → ℕ → Packet → Written
written_at bytes at p = record { size = slice_range bytes at (at + 4); stamp = slice_range bytes (at + 4) (at + 12); payload = payload_of bytes p }

is_written : (bytes : List ℕ) (at : ℕ) (p : Packet) → IsPlaced bytes at p → IsWritten (written_at bytes at p)
is_written bytes at p h = record {
  size_len = length_range bytes at (at + 4) (omega arith) (omega arith) ∙ omega arith;
  stamp_len = length_range bytes (at + 4) (at + 12) (omega arith) (omega arith) ∙ omega arith;
  says_length = sym (length_range bytes p.from p.to (omega arith) h.within ∙ omega arith);
}

is_cut : (bytes : List ℕ) (at : ℕ) (p : Packet) → IsPlaced bytes at p → drop at bytes ≡ written_bytes (written_at bytes at p) ++ drop p.to bytes
is_cut bytes at p h =
    let size = cut bytes at (at + 4) (omega arith) in
    let stamp = cut bytes (at + 4) (at + 12) (omega arith) in
    let payload = ap (λ k. drop k bytes) (sym h.from) ∙ cut bytes p.from p.to (omega arith) in
    size ∙ ap (λ xs. slice_range bytes at (at + 4) ++ xs) (stamp ∙ ap (λ xs. slice_range bytes (at + 4) (at + 12) ++ xs) payload)
    ∙ simp append_assoc

-- a written packet at a place
record IsThere (bytes : List ℕ) (at : ℕ) (w : Written) (more : List ℕ) : Type 0 where
  size : size_at bytes at ≡ length w.payload
  total : at + 12 + length w.payload + length more ≡ length bytes
  payload : slice_range bytes (at + 12) (at + 12 + length w.payload) ≡ w.payload
  behind : drop (at + 12 + length w.payload) bytes ≡ more

is_there : (bytes : List ℕ) (at : ℕ) (w : Written) (more : List ℕ) → at ≤ length bytes → IsWritten w → drop at bytes ≡ written_bytes w ++ more → IsThere bytes at w more
is_there bytes at w more fits h here =
    let parts : drop at bytes ≡ w.size ++ (w.stamp ++ (w.payload ++ more)) = here ∙ simp append_assoc in
    let four : at + 4 - at ≡ 4 = omega arith in
    let front : slice_range bytes at (at + 4) ≡ w.size = ap (λ n. take n (drop at bytes)) four ∙ ap (take 4) parts ∙ take_at w.size _ 4 h.size_len in
    let after_size : drop (at + 4) bytes ≡ w.stamp ++ (w.payload ++ more) = sym (drop-drop 4 at bytes) ∙ ap (drop 4) parts ∙ drop_at w.size _ 4 h.size_len in
    let four_eight : at + 4 + 8 ≡ at + 12 = omega arith in
    let after_stamp : drop (at + 12) bytes ≡ w.payload ++ more =
    ap (λ n. drop n bytes) (sym four_eight) ∙ sym (drop-drop 8 (at + 4) bytes) ∙ ap (drop 8) after_size ∙ drop_at w.stamp _ 8 h.stamp_len in
    let n = length w.payload in
    let n_more : at + 12 + n - (at + 12) ≡ n = omega arith in
    record {
      size = ap (little_number 4) front ∙ h.says_length;
      total = omega (arith, h.size_len, h.stamp_len, length-drop at bytes, ap length parts, length-append w.size (w.stamp ++ (w.payload ++ more)), length-append w.stamp (w.payload ++ more), length-append w.payload more);
      payload = ap (λ k. take k (drop (at + 12) bytes)) n_more ∙ ap (take n) after_stamp ∙ take_at w.payload more n refl;
      behind = sym (drop-drop n (at + 12) bytes) ∙ ap (drop n) after_stamp ∙ drop_at w.payload more n refl;
    }

nothing_left : (bytes : List ℕ) (at : ℕ) → at ≤ length bytes → drop at bytes ≡ [] → at ≡ length bytes
nothing_left bytes at fits e = omega (arith, length-drop at bytes, ap length e)

-- where too few bytes are left for the packet that begins there
cut_short : (bytes : List ℕ) (at : ℕ) → at ≤ length bytes → length bytes < at + 12 + size_at bytes at → BeginsNoPacket (drop at bytes)
cut_short bytes at fits short w more h here =
    let there = is_there bytes at w more fits h here in
    absurd (omega (arith, there.size, there.total))

-- what the walk finds from a place on are the packets of the bytes there
pub has_body : (n : ℕ) (bytes : List ℕ) (at : ℕ) → at ≤ length bytes → length bytes - at < n → IsBody (drop at bytes) (fewer_from n bytes at)
has_body zero bytes at fits below = absurd (omega arith)
has_body (suc n) bytes at fits below =
    by_next (next_packet_at bytes at) (is_step bytes at fits) (λ to later within. has_body n bytes to within (omega arith)) where
      by_next : (r : Result (Option Packet) Rule) → IsStep bytes at r
          → ((to : ℕ) → at + 12 ≤ to → to ≤ length bytes → IsBody (drop to bytes) (fewer_from n bytes to))
          → IsBody (drop at bytes) (go_on bytes (fewer_from n bytes) r)
      by_next (Ok None) step further =
          record { written = []; rest = drop at bytes; whole = refl; each = tt; payloads = refl; ends = drop_all at bytes (omega (arith, step)) }
      by_next (Err rule) step further =
          record {
            written = [];
            rest = drop at bytes;
            whole = refl;
            each = tt;
            payloads = refl;
            ends = (step.0, λ e. omega (arith, step.1, nothing_left bytes at fits e), cut_short bytes at fits step.2);
          }
      by_next (Ok (Some p)) step further =
          let b = further p.to (omega arith) step.within in
          let w = written_at bytes at p in
          record {
            written = w ∷ b.written;
            rest = b.rest;
            whole = is_cut bytes at p step ∙ ap (λ xs. written_bytes w ++ xs) b.whole ∙ sym (append_assoc (written_bytes w) (flat_map written_bytes b.written) b.rest);
            each = (is_written bytes at p step, b.each);
            payloads = ap (λ xs. payload_of bytes p ∷ xs) b.payloads;
            ends = b.ends;
          }

-- no other packets are
pub only_body : (n : ℕ) (bytes : List ℕ) (at : ℕ) → at ≤ length bytes → length bytes - at < n
    → (written : List Written) (rest : List ℕ) (ending : Option Rule) → drop at bytes ≡ flat_map written_bytes written ++ rest
    → AllByRecursion IsWritten written → EndsAs rest ending
    → fewer_from n bytes at ≡ record { payloads = map (λ w. w.payload) written; ending = ending }
only_body zero bytes at fits below written rest ending whole each ends = absurd (omega arith)
only_body (suc n) bytes at fits below [] rest None whole each ends = at_end (next_packet_at bytes at) (is_step bytes at fits) where
  at_end : (r : Result (Option Packet) Rule) → IsStep bytes at r → go_on bytes (fewer_from n bytes) r ≡ no_packets None
  at_end (Ok None) step = refl
  at_end (Ok (Some p)) step = absurd (omega (arith, step.from, step.to, step.within, nothing_left bytes at fits (whole ∙ ends)))
  at_end (Err rule) step = absurd (omega (arith, step.1, nothing_left bytes at fits (whole ∙ ends)))
only_body (suc n) bytes at fits below [] rest (Some rule) whole each ends = at_cut (next_packet_at bytes at) (is_step bytes at fits) where
  at_cut : (r : Result (Option Packet) Rule) → IsStep bytes at r → go_on bytes (fewer_from n bytes) r ≡ no_packets (Some rule)
  at_cut (Ok None) step = absurd (ends.1 (sym whole ∙ drop_all at bytes (omega (arith, step))))
  at_cut (Ok (Some p)) step = absurd (ends.2 (written_at bytes at p) (drop p.to bytes) (is_written bytes at p step) (sym whole ∙ is_cut bytes at p step))
  at_cut (Err other) step = ap (λ r. no_packets (Some r)) (step.0 ∙ sym ends.0)
only_body (suc n) bytes at fits below (w ∷ written) rest ending whole each ends =
    at_packet (next_packet_at bytes at) (is_step bytes at fits)
    (λ to within later behind. only_body n bytes to within later written rest ending behind each.1 ends) where
      more : List ℕ
      more = flat_map written_bytes written ++ rest

      there : IsThere bytes at w more
      there = is_there bytes at w more fits each.0 (whole ∙ append_assoc (written_bytes w) (flat_map written_bytes written) rest)

      at_packet : (r : Result (Option Packet) Rule) → IsStep bytes at r
          → ((to : ℕ) → to ≤ length bytes → length bytes - to < n → drop to bytes ≡ more
          → fewer_from n bytes to ≡ record { payloads = map (λ w. w.payload) written; ending = ending })
          → go_on bytes (fewer_from n bytes) r ≡ record { payloads = w.payload ∷ map (λ w. w.payload) written; ending = ending }
      at_packet (Ok None) step further = absurd (omega (arith, step, there.total))
      at_packet (Err rule) step further = absurd (omega (arith, step.2, there.size, there.total))
      at_packet (Ok (Some p)) step further =
          let to : p.to ≡ at + 12 + length w.payload = omega (arith, step.from, step.to, there.size) in
          let payload : payload_of bytes p ≡ w.payload = ap (λ k. slice_range bytes k p.to) step.from ∙ ap (slice_range bytes (at + 12)) to ∙ there.payload in
          let behind : drop p.to bytes ≡ more = ap (λ k. drop k bytes) to ∙ there.behind in
          ap (with_payload (payload_of bytes p)) (further p.to step.within (omega (arith, there.size)) behind) ∙ ap (λ x. record { payloads = x ∷ map (λ w. w.payload) written; ending = ending }) payload
