-- The file header lies within bytes that hold a frame, or whole packets: so they tell the rate and the container of the whole file.
use Rattle.std.proofs.Common.{◌≡◌, ℕ, List, [], ◌++◌, length, take, drop, refl, sym, ap, subst, ◌∙◌, arith, append_assoc, length-append, inl, inr}
use Rattle.std.specs.Prelude.{Bool, false, Some, None, Result, Ok, Err, if◌then◌else◌}
use Rattle.std.proofs.lemmas.List.{take-append-drop}
use Rattle.std.proofs.lemmas.Bool.{cases_lt}
use Rattle.vp9_types.specs.declared.rule.Rule.{Rule}
use Rattle.ivf_container.specs.Packets.{IsHeader, header_end, packets_after, packets_of, frame_rate_of}
use Rattle.ivf_container.proofs.Headers.{IsTested, is_header, is_tested}
use Rattle.file_frames.specs.Containers.{is_webm, rate_of_file, rate_with}
use Rattle.file_frames.specs.FileFrames.{frames_in, split_packets}
use Rattle.packet_reader.specs.TakenPackets as packets
use Rattle.packet_reader.specs.declared.reader.Stage.TheVariants.{Header, Packet}
use Rattle.packet_reader.proofs.HeaderLemmas.{tells_first}
use Rattle.frame_groups.specs.Groups.{LeadAlong, LeadTo, frames_ahead}
use Rattle.frame_groups.proofs.Files.{too_short}
use Rattle.frame_groups.proofs.Fronts.{front_tells}
use Rattle.frame_groups.proofs.GroupLemmas.{ends_alone}
use Rattle.frame_groups.proofs.RateLemmas.{same_rate}

-- bytes that begin with a file header
abbrev pub HasHeader : List ℕ → Type 0
HasHeader front = (header : List ℕ) × (body : List ℕ) × (front ≡ header ++ body) × IsHeader header

---- What begins with a header ----

held_header : (front : List ℕ) (at : ℕ) → header_end front ≡ Ok at → HasHeader front
held_header front at is =
    (take at front, drop at front, sym (take-append-drop at front), is_header front at (subst (λ (r : Result ℕ Rule). IsTested front r) is (is_tested front)))

pub some_header : (front : List ℕ) → (frames_in (frames_ahead Header front) ≡ [] → ⊥) → HasHeader front
unfolding packets_of
some_header front some = by_end (header_end front) refl some where
  by_end : (r : Result ℕ Rule) → r ≡ header_end front → (frames_in (split_packets (packets_after front r)) ≡ [] → ⊥) → HasHeader front
  by_end (Ok at) is some = held_header front at (sym is)
  by_end (Err rule) is some = absurd (some refl)

pub ended_header : (front : List ℕ) → (frames_ahead Header front).ending ≡ None → HasHeader front
unfolding packets_of
ended_header front none = by_end (header_end front) refl none where
  by_end : (r : Result ℕ Rule) → r ≡ header_end front → (split_packets (packets_after front r)).ending ≡ None → HasHeader front
  by_end (Ok at) is none = held_header front at (sym is)
  by_end (Err rule) is none = let both : Some rule ≡ None = none in let no : ⊥ = cc in absurd no

---- What it tells ----

pub header_webm : (front more : List ℕ) → HasHeader front → is_webm (front ++ more) ≡ is_webm front
header_webm front more (header, body, whole, is) = front_tells front more (omega (arith, is.least, ap length whole, length-append header body))

told_by : (header body : List ℕ) → IsHeader header → packets.HasRate (header ++ body) (frame_rate_of header)
told_by header body is =
    tells_first (Some (header ++ body)) (Some body) (0, 0) (frame_rate_of header) (Ok None) (λ bytes told. let same : bytes ≡ header ++ body = cc in (header, body, same, refl, (is, refl)))
    (header ++ body) refl

rate_within : (front more : List ℕ) → HasHeader front → rate_with (front ++ more) (header_end (front ++ more)) ≡ rate_with front (header_end front)
rate_within front more (header, body, whole, is) =
    let whole_more : header ++ (body ++ more) ≡ front ++ more = sym (append_assoc header body more) ∙ ap (λ (xs : List ℕ). xs ++ more) (sym whole) in
    let here = subst (λ (xs : List ℕ). packets.HasRate xs (frame_rate_of header)) (sym whole) (told_by header body is) in
    let there = subst (λ (xs : List ℕ). packets.HasRate xs (frame_rate_of header)) whole_more (told_by header (body ++ more) is) in
    sym (same_rate (front ++ more) (header_end (front ++ more))) ∙ sym there ∙ here ∙ same_rate front (header_end front)

pub header_rate : (front more : List ℕ) → HasHeader front → rate_of_file (front ++ more) ≡ rate_of_file front
unfolding rate_of_file
header_rate front more has =
    ap (λ (webm : Bool). if webm then (30, 1) else rate_with (front ++ more) (header_end (front ++ more))) (header_webm front more has)
    ∙ ap (λ (rate : ℕ × ℕ). if is_webm front then (30, 1) else rate) (rate_within front more has)

---- Groups ----

-- whole packets from the beginning of a file on
pub lead_rate : (front more : List ℕ) (frames : List (List ℕ)) → LeadTo Header front frames Packet → rate_of_file (front ++ more) ≡ rate_of_file front
lead_rate front more frames lead = header_rate front more (ended_header front (ends_alone Header front frames lead))

-- bytes from there on that hold a frame
pub along_rate : (front more : List ℕ) (frames : List (List ℕ)) → LeadAlong Header front frames → (frames ≡ [] → ⊥) → rate_of_file (front ++ more) ≡ rate_of_file front
along_rate front more frames along some = header_rate front more (some_header front (λ none. some (sym along.frames_are ∙ none)))

-- a front of what is no WebM file is none
pub front_isnt_webm : (front more : List ℕ) → is_webm (front ++ more) ≡ false → is_webm front ≡ false
front_isnt_webm front more isnt = elim (cases_lt (length front) 4) [ inl few ↦ too_short front few | inr long ↦ sym (front_tells front more long) ∙ isnt ]
