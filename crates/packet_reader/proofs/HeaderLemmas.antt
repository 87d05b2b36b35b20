-- The file header that bytes begin with.
use Rattle.std.proofs.Common.{◌≡◌, ◌⊎◌, ℕ, suc, ◌+◌, ◌<◌, ◌≤◌, max, List, [], ◌++◌, length, take, refl, sym, ap, subst, ◌∙◌, arith, inl, inr, append_assoc, length-append}
use Rattle.std.specs.Prelude.{Option, Some, None, Result, Ok, Err, codes, slice_range}
use Rattle.std.proofs.lemmas.List.{append-nil, take-append-le, take_all}
use Rattle.std.proofs.lemmas.Bool.{cases_lt}
use Rattle.edge_io.specs.Filling.{WhereTold}
use Rattle.edge_io.specs.SourceReading.{Gave}
use Rattle.edge_io.specs.declared.read.ReadError.{ReadError}
use Rattle.edge_io.specs.declared.read.ReadError.TheVariants as read
use Rattle.byteorder.specs.Endian.{little_number}
use Rattle.vp9_types.specs.declared.rule.Rule.{Rule}
use Rattle.vp9_types.specs.declared.rule.Rule.TheVariants.{IvfSignature, IvfHeader, IvfCodec}
use Rattle.ivf_container.specs.Packets.{Packets, FailsHeader, IsHeader, header_end, header_length, no_packets, packets_after, packets_from, packets_of, frame_rate_of}
use Rattle.ivf_container.proofs.Headers.{IsTested, is_tested, is_header, ends_header, fails_header, range_front}
use Rattle.ivf_container.proofs.Bodies.{has_body}
use Rattle.ivf_container.proofs.Files.{only_packets}
use Rattle.packet_reader.specs.Code.{IsEnough, IsShort, PassesHeader}
use Rattle.packet_reader.specs.TakenPackets.{Answer, HasRate, IsNext, TakesNext, TellsRate, rate_with, refusal_of}
use Rattle.packet_reader.specs.declared.reader.PacketRefusal.{PacketRefusal}
use Rattle.packet_reader.specs.declared.reader.PacketRefusal.TheVariants as refused
use Rattle.packet_reader.specs.declared.reader.Stage.TheVariants as stage

-- behind a header
pub packets_behind : (header body : List ℕ) → IsHeader header → packets_of (header ++ body) ≡ packets_from body 0
unfolding packets_from
packets_behind header body is =
    sym (only_packets (header ++ body) _ (inl (record { header = header; body = body; whole = refl; is_header = is; is_body = has_body (suc (length body)) body 0 (omega arith) (omega arith) })))

-- bytes that have no header
pub no_header : (bytes : List ℕ) (rule : Rule) → header_end bytes ≡ Err rule → packets_of bytes ≡ no_packets (Some rule)
unfolding packets_of
no_header bytes rule fails = ap (packets_after bytes) fails

-- what fails stays so behind more bytes, where the tests needed no more
fails_more : (front rest : List ℕ) (rule : Rule) → IsEnough front → FailsHeader front rule → FailsHeader (front ++ rest) rule
fails_more front rest rule enough = by_rule rule
  where
    long : length (front ++ rest) ≡ length front + length rest
    long = length-append front rest

    begin : take 4 (front ++ rest) ≡ take 4 front
    begin = take-append-le 4 front rest (omega (arith, enough.least))

    says : header_length (front ++ rest) ≡ header_length front
    says = ap (little_number 2) (range_front front rest 6 8 (omega arith) (omega (arith, enough.least)))

    codec : slice_range (front ++ rest) 8 12 ≡ slice_range front 8 12
    codec = range_front front rest 8 12 (omega arith) (omega (arith, enough.least))

    by_rule : (rule : Rule) → FailsHeader front rule → FailsHeader (front ++ rest) rule
    by_rule IvfSignature fails = (omega (arith, fails.0, long), λ same. fails.1 (sym begin ∙ same))
    by_rule IvfHeader (inl short) = absurd (omega (arith, short, enough.least))
    by_rule IvfHeader (inr fails) = elim fails.1 [
      | inl short ↦ absurd (omega (arith, short, enough.least))
      | inr more ↦ elim more [
        | inl low ↦ inr (begin ∙ fails.0, inr (inl (omega (arith, says, low))))
        | inr past ↦ absurd (omega (arith, past, enough.said fails.0))
      ]
    ]
    by_rule IvfCodec fails = (begin ∙ fails.0, omega (arith, says, fails.1), omega (arith, says, long, fails.2), λ same. fails.3 (sym codec ∙ same))
    by_rule rule fails = absurd fails

pub enough_fails : (front rest : List ℕ) (rule : Rule) → IsEnough front → header_end front ≡ Err rule → header_end (front ++ rest) ≡ Err rule
enough_fails front rest rule enough is = fails_header (front ++ rest) rule (fails_more front rest rule enough (tested (header_end front) (is_tested front) is)) where
  tested : (r : Result ℕ Rule) → IsTested front r → r ≡ Err rule → FailsHeader front rule
  tested (Ok at) t same = cc
  tested (Err other) t same = subst (λ (x : Result ℕ Rule). IsTested front x) same t

-- and where there are no more
pub fails_alone : (front : List ℕ) (rule : Rule) → header_end front ≡ Err rule → header_end (front ++ []) ≡ Err rule
fails_alone front rule is = ap header_end (append-nil front) ∙ is

pub enough_is : (front : List ℕ) (at : ℕ) → IsEnough front → header_end front ≡ Ok at → IsHeader front
enough_is front at enough is = tested (header_end front) (is_tested front) is where
  tested : (r : Result ℕ Rule) → IsTested front r → r ≡ Ok at → IsHeader front
  tested (Err other) t same = cc
  tested (Ok end) t same =
      let whole : length front ≡ end = omega (arith, t.0, t.1, enough.said t.3) in
      subst (λ (xs : List ℕ). IsHeader xs) (take_all end front (omega (arith, whole))) (is_header front end t)

-- less than a header
pub short_fails : (front : List ℕ) → IsShort front → (rule : Rule) × header_end front ≡ Err rule × packets_of front ≡ no_packets (Some rule)
short_fails front short = tested (header_end front) (is_tested front) refl where
  tested : (r : Result ℕ Rule) → IsTested front r → r ≡ header_end front → (rule : Rule) × header_end front ≡ Err rule × packets_of front ≡ no_packets (Some rule)
  tested (Ok at) t same = elim short [ inl few ↦ absurd (omega (arith, few, t.1, t.2)) | inr cut ↦ absurd (omega (arith, cut, t.0, t.2)) ]
  tested (Err rule) t same = (rule, sym same, no_header front rule (sym same))

pub no_payload_yet : (front : List ℕ) → IsShort front → (packets_of front).payloads ≡ []
no_payload_yet front short = ap (λ (p : Packets). p.payloads) (short_fails front short).2

pub refused_header : (e : ReadError) (old new : Option (List ℕ)) (front : List ℕ) → Gave old new front → IsShort front → PassesHeader old new (Err (refusal_of e))
refused_header read.Failed old new front gave short = λ bytes told. let h = gave bytes told in (front, h.0, h.1, h.2, no_payload_yet front short)
refused_header read.OutOfMemory old new front gave short = λ bytes told. let h = gave bytes told in (front, h.0, h.1, h.2, no_payload_yet front short)

---- How many bytes are taken ----

-- what the first bytes say that a header has
pub record IsWhole (header : List ℕ) (n : ℕ) : Type 0 where
  pub order : length header ≤ n
  pub said : (n ≡ length header) ⊎ ((32 ≤ length header) × (n ≡ max (header_length header) 32))
  pub signed : 32 ≤ length header → take 4 header ≡ codes "DKIF" → n ≡ max (header_length header) 32

length_said : (first more : List ℕ) → 32 ≤ length first → header_length (first ++ more) ≡ header_length first
length_said first more long = ap (little_number 2) (range_front first more 6 8 (omega arith) (omega (arith, long)))

-- a refusal on the way
pub cut_header : (first more : List ℕ) (n : ℕ) → IsWhole first n → length first + length more < n → IsShort (first ++ more)
cut_header first more n whole cut = elim whole.said [
  | inl same ↦ absurd (omega (arith, same, cut))
  | inr said ↦ inr (omega (arith, said.0, said.1, cut, length-append first more, length_said first more said.0))
]

-- all that was asked for, or less at the end of the source
pub whole_header : (first more : List ℕ) (n : ℕ) → IsWhole first n → 32 ≤ length first → length (first ++ more) ≤ n
    → IsEnough (first ++ more) ⊎ (IsShort (first ++ more) × (length (first ++ more) < n))
whole_header first more n whole long few = elim (cases_lt (length (first ++ more)) n) [
  | inl cut ↦ inr (cut_header first more n whole (omega (arith, cut, length-append first more)), cut)
  | inr all ↦ inl (record {
    least = omega (arith, long, length-append first more);
    said = λ begins. omega (arith, few, all, length_said first more long, whole.signed long (sym (take-append-le 4 first more (omega (arith, long))) ∙ begins));
  })
]

pub never_short : (front : List ℕ) (at : ℕ) → IsShort front → header_end front ≡ Ok at → IsHeader front
never_short front at short is = let fails = short_fails front short in let both : Ok at ≡ Err fails.0 = sym is ∙ fails.1 in cc

---- The first packet ----

behind_it : (front next rest : List ℕ) → IsHeader front → packets_of (front ++ next ++ rest) ≡ packets_from (next ++ rest) 0
behind_it front next rest is = ap packets_of (append_assoc front next rest) ∙ packets_behind front (next ++ rest) is

pub first_packet : (front next rest : List ℕ) (answer : Answer) → IsHeader front → IsNext stage.Packet next rest answer → IsNext stage.Header (front ++ next) rest answer
first_packet front next rest (Ok (Some payload)) is step = (packets_behind front next is ∙ step.0, behind_it front next rest is ∙ step.1)
first_packet front next rest (Ok None) is step = (packets_behind front next is ∙ step.0, step.1)
first_packet front next rest (Err (refused.Rule rule)) is step = behind_it front next rest is ∙ step
first_packet front next rest (Err refused.Failed) is step = ap (λ (p : Packets). p.payloads) (packets_behind front next is) ∙ step
first_packet front next rest (Err refused.OutOfMemory) is step = ap (λ (p : Packets). p.payloads) (packets_behind front next is) ∙ step

pub takes_first : (old mid new : Option (List ℕ)) (x : ℕ × ℕ) (answer : Answer) → PassesHeader old mid (Ok x) → TakesNext stage.Packet mid new answer → TakesNext stage.Header old new answer
takes_first old mid new x answer passed next = λ bytes told. let h = passed bytes told in let k = next h.1 h.3 in
    (h.0 ++ k.0, k.1, h.2 ∙ ap (λ xs. h.0 ++ xs) k.2 ∙ sym (append_assoc h.0 k.0 k.1), k.3, first_packet h.0 k.0 k.1 answer h.4.0 k.4)

pub no_first : (old new : Option (List ℕ)) (e : PacketRefusal) → PassesHeader old new (Err e) → TakesNext stage.Header old new (Err e)
no_first old new (refused.Rule rule) fails = λ bytes told. let h = fails bytes told in (h.0, h.1, h.2, h.3, no_header (h.0 ++ h.1) rule h.4)
no_first old new refused.Failed fails = fails
no_first old new refused.OutOfMemory fails = fails

---- The rate ----

-- what stands in a header stays there whatever is behind it
rate_stays : (front rest : List ℕ) → IsHeader front → HasRate (front ++ rest) (frame_rate_of front)
rate_stays front rest is =
    let numbers = range_front front rest 16 20 (omega arith) (omega (arith, is.least)) in
    let seconds = range_front front rest 20 24 (omega arith) (omega (arith, is.least)) in
    sym (ap (rate_with (front ++ rest)) (ends_header front rest is)
    ∙ ap (λ xs. (little_number 4 xs, little_number 4 (slice_range (front ++ rest) 20 24))) numbers
    ∙ ap (λ xs. (little_number 4 (slice_range front 16 20), little_number 4 xs)) seconds)

header_rate : (old new : Option (List ℕ)) (rate : ℕ × ℕ) → PassesHeader old new (Ok rate) → WhereTold old (λ bytes. HasRate bytes rate)
header_rate old new rate passed = λ bytes told. let h = passed bytes told in
    subst (λ (xs : List ℕ). HasRate xs rate) (sym h.2) (h.4.1 ∙ rate_stays h.0 h.1 h.4.0)

pub tells_first : (old new : Option (List ℕ)) (before rate : ℕ × ℕ) (answer : Answer) → PassesHeader old new (Ok rate) → TellsRate stage.Header old before rate answer
tells_first old new before rate (Ok payload) passed = header_rate old new rate passed
tells_first old new before rate (Err (refused.Rule rule)) passed = header_rate old new rate passed
tells_first old new before rate (Err refused.Failed) passed = tt
tells_first old new before rate (Err refused.OutOfMemory) passed = tt

-- a header that breaks a rule has none
pub tells_none : (old new : Option (List ℕ)) (before : ℕ × ℕ) (e : PacketRefusal) → PassesHeader old new (Err e) → TellsRate stage.Header old before (0, 0) (Err e)
tells_none old new before (refused.Rule rule) fails = λ bytes told. let h = fails bytes told in
    sym (ap (rate_with bytes) (ap header_end h.2 ∙ h.4))
tells_none old new before refused.Failed fails = tt
tells_none old new before refused.OutOfMemory fails = tt
