-- What a cursor has ahead of it, by what it finds at its place.
use Rattle.std.proofs.Common.{◌≡◌, ℕ, ◌+◌, ◌-◌, ◌<◌, ◌≤◌, List, [], ◌∷◌, length, get_or, map, drop, ap, sym, arith, ◌∙◌}
use Rattle.std.specs.Prelude.{Some, Ok, Err}
use Rattle.std.proofs.lemmas.List.{drop_more, drop_all, length-drop, length-take-le}
use Rattle.vp9_types.specs.declared.job.Span.{Span}
use Rattle.vp9_types.specs.declared.rule.Rule.{Rule}
use Rattle.ivf_container.specs.Packets.{Packets, with_payload}
use Rattle.superframe_index.specs.PayloadFrames.{LieBetween, at_spans, frames_of}
use Rattle.file_frames.specs.Containers.{packets_of_file}
use Rattle.file_frames.specs.FileFrames.{joined, split_packets, frames_of_file}
use Rattle.file_frames.specs.Code.{ahead_from, all_ahead, span_bytes, ahead_at}
use Rattle.file_frames.specs.Cursors.{packets_left}
use Rattle.file_frames.specs.declared.packets.PacketCursor.{PacketCursor}

-- before the first frame
pub all_is_ahead : (bytes : List ℕ) (packets : PacketCursor) (payload : List ℕ) (spans : List Span) → spans ≡ [] → packets_left bytes packets ≡ packets_of_file bytes
    → ahead_at bytes packets payload spans 0 0 ≡ all_ahead bytes
unfolding frames_of_file
all_is_ahead bytes packets payload spans none is =
    ap (λ s. ahead_at bytes packets payload s 0 0) none ∙ ap (λ p. ahead_from 0 [] (split_packets p)) is

none_in_hand : (payload : List ℕ) (spans : List Span) (taken : ℕ) → length spans ≤ taken → map (span_bytes payload) (drop taken spans) ≡ []
none_in_hand payload spans taken all = ap (map (span_bytes payload)) (drop_all taken spans all)

-- where no frame is in hand, by the packets there
pub at_packets : (bytes : List ℕ) (cursor : PacketCursor) (payload : List ℕ) (spans : List Span) (taken number : ℕ) (packets : Packets) → length spans ≤ taken → packets_left bytes cursor ≡ packets
    → ahead_at bytes cursor payload spans taken number ≡ ahead_from number [] (split_packets packets)
at_packets bytes cursor payload spans taken number packets all is =
    ap (λ f. ahead_from number f (split_packets (packets_left bytes cursor))) (none_in_hand payload spans taken all)
    ∙ ap (λ p. ahead_from number [] (split_packets p)) is

-- a payload whose sizes break a rule
pub at_sizes : (bytes : List ℕ) (cursor : PacketCursor) (payload next : List ℕ) (spans : List Span) (taken number : ℕ) (rest : Packets) (rule : Rule) → length spans ≤ taken
    → packets_left bytes cursor ≡ with_payload next rest → frames_of next ≡ Err rule
    → ahead_at bytes cursor payload spans taken number ≡ record { number = number; frames = []; ending = Some rule }
at_sizes bytes cursor payload next spans taken number rest rule all is sizes =
    at_packets bytes cursor payload spans taken number (with_payload next rest) all is
    ∙ ap (λ r. ahead_from number [] (joined (at_spans next r) (split_packets rest))) sizes

-- a payload with these frames
pub at_payload : (bytes : List ℕ) (cursor behind : PacketCursor) (payload next : List ℕ) (spans parts : List Span) (taken number : ℕ) → length spans ≤ taken
    → packets_left bytes cursor ≡ with_payload next (packets_left bytes behind) → frames_of next ≡ Ok parts
    → ahead_at bytes behind next parts 0 number ≡ ahead_at bytes cursor payload spans taken number
at_payload bytes cursor behind payload next spans parts taken number all is sizes =
    sym (at_packets bytes cursor payload spans taken number (with_payload next (packets_left bytes behind)) all is
    ∙ ap (λ r. ahead_from number [] (joined (at_spans next r) (split_packets (packets_left bytes behind)))) sizes)

-- the next frame in hand
pub in_hand : (bytes : List ℕ) (cursor : PacketCursor) (payload : List ℕ) (spans got : List Span) (taken number : ℕ) (d : Span) → taken < length spans → got ≡ spans
    → ahead_at bytes cursor payload spans taken number
    ≡ record { number = number; frames = span_bytes payload (get_or got taken d) ∷ (ahead_at bytes cursor payload spans (taken + 1) (number + 1)).frames; ending = (ahead_at bytes cursor payload spans (taken + 1) (number + 1)).ending }
in_hand bytes cursor payload spans got taken number d low same =
    ap (λ s. ahead_from number (map (span_bytes payload) s) (split_packets (packets_left bytes cursor))) (drop_more spans taken d low)
    ∙ ap (λ g. ahead_from number (span_bytes payload (get_or g taken d) ∷ map (span_bytes payload) (drop (taken + 1) spans)) (split_packets (packets_left bytes cursor))) (sym same)

-- there are no more parts than bytes
pub few_between : (from to : ℕ) (spans : List Span) → LieBetween from to spans → from + length spans ≤ to
few_between from to [] h = omega (arith, h)
few_between from to (span ∷ spans) h = omega (arith, h.0, h.1, few_between span.to to spans h.2)

-- The number of the next frame stays small: it and those in hand are no more than the bytes that were passed.
pub few_ahead : (number parts taken old new : ℕ) (bytes : List ℕ) (p : Span) (spans : List Span) → number + (parts - taken) ≤ old → parts ≤ taken → old + (p.to - p.from) < new
    → p.from ≤ p.to → p.to ≤ length bytes → LieBetween 0 (length (span_bytes bytes p)) spans → number + (length spans - 0) ≤ new
few_ahead number parts taken old new bytes p spans few all nearer order within lie =
    let long : length (span_bytes bytes p) ≡ p.to - p.from = length-take-le (p.to - p.from) (drop p.from bytes) (omega (arith, within, length-drop p.from bytes)) in
    omega (arith, few, all, nearer, order, within, few_between 0 (length (span_bytes bytes p)) spans lie, long)
