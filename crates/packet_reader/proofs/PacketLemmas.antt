-- The packet that bytes begin with.
use Rattle.std.proofs.Common.{◌≡◌, ℕ, suc, ◌+◌, ◌<◌, ◌≤◌, List, [], ◌∷◌, ◌++◌, length, take, drop, refl, sym, ap, ◌∙◌, arith, append_assoc, length-append, length-drop}
use Rattle.std.specs.Prelude.{Option, Some, None, Result, Ok, Err}
use Rattle.std.specs.List.{flat_map}
use Rattle.std.proofs.lemmas.List.{append-nil, take-append-drop, take-append-le, length-take-le}
use Rattle.byteorder.specs.Endian.{little_number}
use Rattle.edge_io.specs.Filling.{WhereTold}
use Rattle.edge_io.specs.SourceReading.{Gave}
use Rattle.edge_io.specs.declared.read.ReadError.{ReadError}
use Rattle.edge_io.specs.declared.read.ReadError.TheVariants as read
use Rattle.vp9_types.specs.declared.rule.Rule.{Rule}
use Rattle.vp9_types.specs.declared.rule.Rule.TheVariants.{IvfTruncated}
use Rattle.ivf_container.specs.declared.packet.Packet.{Packet}
use Rattle.ivf_container.specs.Packets.{Packets, Written, IsWritten, written_bytes, size_at, next_packet_at, go_on, fewer_from, packets_from, no_packets, with_payload}
use Rattle.ivf_container.proofs.Walks.{IsStep, is_step, next_from}
use Rattle.ivf_container.proofs.Bodies.{has_body, only_body}
use Rattle.packet_reader.specs.TakenPackets.{TakesNext, ahead, begun_at, refusal_of, source_of, stage_of, with_front}
use Rattle.packet_reader.specs.declared.reader.PacketReader.{PacketReader}
use Rattle.packet_reader.specs.declared.reader.Stage.TheVariants as stage

-- bytes that a written packet begins
pub one_packet : (w : Written) (rest : List ℕ) → IsWritten w → packets_from (written_bytes w ++ rest) 0 ≡ with_payload w.payload (packets_from rest 0)
unfolding packets_from
one_packet w rest is =
    let behind = has_body (suc (length rest)) rest 0 (omega arith) (omega arith) in
    only_body (suc (length (written_bytes w ++ rest))) (written_bytes w ++ rest) 0 (omega arith) (omega arith) (w ∷ behind.written) behind.rest _
    (ap (λ xs. written_bytes w ++ xs) behind.whole ∙ sym (append_assoc (written_bytes w) (flat_map written_bytes behind.written) behind.rest)) (is, behind.each) behind.ends
    ∙ ap (λ xs. record { payloads = w.payload ∷ xs; ending = (fewer_from (suc (length rest)) rest 0).ending }) (sym behind.payloads)

-- no bytes
pub none_left : packets_from [] 0 ≡ no_packets None
unfolding packets_from next_packet_at
none_left = refl

-- less than a packet
pub cut_short : (bytes : List ℕ) → 0 < length bytes → length bytes < 12 + size_at bytes 0 → packets_from bytes 0 ≡ no_packets (Some IvfTruncated)
cut_short bytes some short = next_from bytes 0 (omega arith) ∙ settled (next_packet_at bytes 0) (is_step bytes 0 (omega arith)) where
  settled : (r : Result (Option Packet) Rule) → IsStep bytes 0 r → go_on bytes (packets_from bytes) r ≡ no_packets (Some IvfTruncated)
  settled (Ok None) step = absurd (omega (arith, step))
  settled (Ok (Some p)) step = absurd (omega (arith, step.from, step.to, step.within))
  settled (Err rule) step = ap (λ r. no_packets (Some r)) step.0

pub no_payload : (bytes : List ℕ) → length bytes < 12 + size_at bytes 0 → (packets_from bytes 0).payloads ≡ []
no_payload [] short = ap (λ (p : Packets). p.payloads) none_left
no_payload (b ∷ bytes) short = ap (λ (p : Packets). p.payloads) (cut_short (b ∷ bytes) (omega arith) short)

nil_of : (xs : List ℕ) → length xs ≡ 0 → xs ≡ []
nil_of [] none = refl
nil_of (x ∷ xs) none = absurd (omega (arith, none))

pub no_next : (bytes : List ℕ) → length bytes ≡ 0 → packets_from bytes 0 ≡ no_packets None
no_next bytes none = ap (λ xs. packets_from xs 0) (nil_of bytes none) ∙ none_left

-- the size of a packet stands in its first four bytes
pub size_stays : (a b : List ℕ) → 4 ≤ length a → size_at (a ++ b) 0 ≡ size_at a 0
size_stays a b long = ap (little_number 4) (take-append-le 4 a b long)

-- twelve bytes and as many as they say
pub packet_is : (head payload rest : List ℕ) → length head ≡ 12 → size_at head 0 ≡ length payload → packets_from (head ++ payload ++ rest) 0 ≡ with_payload payload (packets_from rest 0)
packet_is head payload rest long says =
    ap (λ xs. packets_from (xs ++ payload ++ rest) 0) (sym (take-append-drop 4 head))
    ∙ one_packet (record { size = take 4 head; stamp = drop 4 head; payload = payload }) rest
    (record { size_len = length-take-le 4 head (omega (arith, long)); stamp_len = length-drop 4 head ∙ omega (arith, long); says_length = says })

pub packet_alone : (head payload : List ℕ) → length head ≡ 12 → size_at head 0 ≡ length payload → packets_from (head ++ payload) 0 ≡ with_payload payload (no_packets None)
packet_alone head payload long says =
    ap (λ xs. packets_from xs 0) (sym (append-nil (head ++ payload))) ∙ packet_is head payload [] long says ∙ ap (with_payload payload) none_left

---- What was given ----

pub gave_both : (old mid new : Option (List ℕ)) (a b : List ℕ) → Gave old mid a → Gave mid new b → Gave old new (a ++ b)
gave_both old mid new a b first next = λ bytes told. let h = first bytes told in let k = next h.0 h.2 in
    (k.0, h.1 ∙ ap (λ xs. a ++ xs) k.1 ∙ sym (append_assoc a b k.0), k.2)

abbrev or_none : Option (List ℕ) → List ℕ
or_none (Some xs) = xs
or_none None = []

-- where a source has nothing left
pub gave_last : (old new : Option (List ℕ)) (front bytes : List ℕ) → Gave old new front → WhereTold old (λ bytes. new ≡ Some []) → old ≡ Some bytes → bytes ≡ front ++ []
gave_last old new front bytes gave ended told = let h = gave bytes told in
    h.1 ∙ ap (λ xs. front ++ or_none xs) (sym h.2 ∙ ended bytes told)

-- a refusal before a whole packet was there
pub refused_next : (e : ReadError) (old new : Option (List ℕ)) (front : List ℕ) → Gave old new front → (packets_from front 0).payloads ≡ [] → TakesNext stage.Packet old new (Err (refusal_of e))
refused_next read.Failed old new front gave none = λ bytes told. let h = gave bytes told in (front, h.0, h.1, h.2, none)
refused_next read.OutOfMemory old new front gave none = λ bytes told. let h = gave bytes told in (front, h.0, h.1, h.2, none)

-- a source that has nothing left gives nothing more
pub ended_still : (old mid new : Option (List ℕ)) (front more : List ℕ) → Gave old mid front → WhereTold old (λ bytes. mid ≡ Some []) → Gave mid new more → WhereTold old (λ bytes. new ≡ Some [])
ended_still old mid new front more first ended next = λ bytes told. let h = next [] (ended bytes told) in
    h.2 ∙ ap Some (nil_of h.0 (omega (arith, ap length h.1, length-append more h.0)))

---- Bytes that were given before ----

-- what is left behind bytes in front
pub left_behind : (front : List ℕ) (told : Option (List ℕ)) (bytes : List ℕ) → with_front front told ≡ Some bytes → (left : List ℕ) × (told ≡ Some left) × (bytes ≡ front ++ left)
left_behind [] told bytes is = (bytes, is, refl)
left_behind (b ∷ front) None bytes is = cc
left_behind (b ∷ front) (Some left) bytes is = (left, refl, ap or_none (sym is))

pub gave_behind : (begun : List ℕ) (old new : Option (List ℕ)) (front : List ℕ) → Gave old new front → Gave (with_front begun old) new (begun ++ front)
gave_behind begun old new front gave = λ bytes told. let l = left_behind begun old bytes told in let h = gave l.0 l.1 in
    (h.0, l.2 ∙ ap (λ xs. begun ++ xs) h.1 ∙ sym (append_assoc begun front h.0), h.2)

pub ended_behind : (begun : List ℕ) (old new : Option (List ℕ)) → WhereTold old (λ bytes. new ≡ Some []) → WhereTold (with_front begun old) (λ bytes. new ≡ Some [])
ended_behind begun old new ended = λ bytes told. let l = left_behind begun old bytes told in ended l.0 l.1

-- a reader that stands before a packet has none in front
pub packet_ahead : {S : Type 0} (rest : S → Option (List ℕ)) (r : PacketReader S) → stage_of r ≡ stage.Packet → ahead rest r ≡ rest (source_of r)
packet_ahead rest r is = ap (λ s. with_front (begun_at s r.front) (rest r.source)) is
