-- What is written behind the marker is read from its bytes, to a value or to the rule that is broken, whatever stands behind.
use Rattle.std.proofs.Common.{◌≡◌, ℕ, suc, ◌+◌, ◌-◌, ◌*◌, ◌/◌, ◌^◌, ◌<◌, ◌≤◌, List, [], ◌∷◌, ◌++◌, length, false, refl, sym, ap, append_assoc, ◌∙◌, arith}
use Rattle.std.specs.Prelude.{Result, Ok, Err, nat_eq}
use Rattle.std.proofs.lemmas.Bool.{ne_eqb}
use Rattle.vp9_types.specs.Bits.{bits_of, spelled, AreBits}
use Rattle.vp9_types.specs.Syntax.{Syntax, done, broken, ask}
use Rattle.vp9_types.specs.Writing.{WritesTo}
use Rattle.vp9_types.specs.declared.rule.Rule.{Rule}
use Rattle.prob_contexts.specs.declared.kind.CountedBool.{CountedBool}
use Rattle.bool_decoder.specs.Bools.{run_bools}
use Rattle.bool_decoder.specs.Coder.{doublings_within, front_number, first_coder}
use Rattle.bool_decoder.specs.Window.{Window, Stands, started, first_window, bit_of, after_bit}
use Rattle.bool_decoder.proofs.Fronts.{front-spelled}
use Rattle.bool_decoder.proofs.Stand.{first_stands, bool_stands, step_stands, read_stands}
use Rattle.bool_encoder.specs.Part.{NumberPart, Finishes, first_part, after_put, behind_marker}
use Rattle.bool_encoder.specs.WrittenBools.{Puts, WritesBools, can_put}
use Rattle.bool_encoder.specs.Laws.{Lies, coder_at}
use Rattle.bool_encoder.proofs.Parts.{put_zero}
use Rattle.bool_encoder.proofs.Starts.{Sound, writes_sound}
use Rattle.bool_encoder.proofs.WriteLaws.{written_is_read}
use Rattle.counting_reader.specs.Counting.{Settled}
use Rattle.bool_encoder.specs.CountedBools.{valued}
use Rattle.bool_encoder.proofs.CountedPuts.{value_counts, value_put}
use Rattle.frame_state.specs.Code.{read_whole, settled_of}
use Rattle.frame_writer.specs.FrameBytes.{IsWritten}

---- Bytes with more behind them lie in the part ----

bits_are : (bytes : List ℕ) → AreBits (bits_of bytes)
unfolding bits_of
bits_are [] = tt
bits_are (b ∷ bytes) = (omega arith, (omega arith, (omega arith, (omega arith, (omega arith, (omega arith, (omega arith, (omega arith, bits_are bytes))))))))

bits_behind : (bytes tail : List ℕ) → bits_of (bytes ++ tail) ≡ bits_of bytes ++ bits_of tail
unfolding bits_of
bits_behind [] tail = refl
bits_behind (b ∷ bytes) tail = rw (bits_behind bytes tail) refl

marked_sound : Sound behind_marker
unfolding after_put first_part doublings_within
marked_sound = record { wide = omega arith; fits = omega arith }

lies_behind : (e : NumberPart) (bytes tail : List ℕ) → Sound e → Finishes e bytes → Lies e (bits_of (bytes ++ tail))
lies_behind e bytes tail sound f =
    let k : 8 + e.n + 0 ≡ 8 + e.n = omega arith in
    let wide = sound.wide in
    let fits = sound.fits in
    let small : e.low < 2 ^ (8 + e.n) = omega arith in
    let zeros = spelled (8 * length bytes - (8 + e.n)) 0 in
    let bits : bits_of (bytes ++ tail) ≡ spelled (8 + e.n) e.low ++ (zeros ++ bits_of tail) =
    bits_behind bytes tail ∙ ap (λ bits. bits ++ bits_of tail) f.bits ∙ append_assoc (spelled (8 + e.n) e.low) zeros (bits_of tail) in
    let front : front_number (8 + e.n) (spelled (8 + e.n) e.low ++ (zeros ++ bits_of tail)) ≡ e.low / 2 ^ 0 =
    rw k at (front-spelled (8 + e.n) 0 e.low (zeros ++ bits_of tail) (rw k small)) in
    let is : front_number (8 + e.n) (bits_of (bytes ++ tail)) ≡ e.low = ap (λ bits. front_number (8 + e.n) bits) bits ∙ front ∙ omega arith in
    record { from = omega (arith, is); below = omega (arith, is) }

not_none : (n : ℕ) → nat_eq (suc n) 0 ≡ false
not_none n = ne_eqb (suc n) 0 (λ h. let e : suc n ≡ 0 = h in omega arith)

some_bytes : (e : NumberPart) (bytes tail : List ℕ) → Finishes e bytes → nat_eq (length (bytes ++ tail)) 0 ≡ false
some_bytes e [] tail f = let none = f.size in absurd (omega (arith, none))
some_bytes e (b ∷ bytes) tail f = not_none (length (bytes ++ tail))

starts_by : (bytes : List ℕ) → nat_eq (length bytes) 0 ≡ false → bit_of 128 (first_window (bits_of bytes)) ≡ 0
    → started bytes ≡ Ok (after_bit 128 (first_window (bits_of bytes)))
unfolding started
starts_by bytes some none = rw (some, none) refl

first_part_stands : (bits : List ℕ) → Stands (coder_at bits first_part) (first_window bits)
unfolding first_part first_coder
first_part_stands bits = first_stands bits

-- a decoder that starts on the bytes reads the value
record ReadsHere {A : Type 0} (s : Syntax ℕ Rule A) (bytes : List ℕ) (x : A) : Type 0 where
  start : Window
  last : Window
  starts : started bytes ≡ Ok start
  read : run_bools s start ≡ Ok (x, last)

first_wide : 2 ≤ first_part.range
unfolding first_part
first_wide = omega arith

reads_here : {A : Type 0} (s : Syntax ℕ Rule A) (x : A) (new : NumberPart) (bytes tail : List ℕ) → WritesBools s behind_marker x new → Finishes new bytes → ReadsHere s (bytes ++ tail) x
reads_here s x new bytes tail h f =
    let bits = bits_of (bytes ++ tail) in
    let end = writes_sound s behind_marker new x marked_sound h in
    let back = written_is_read s behind_marker new x bits marked_sound.wide (bits_are (bytes ++ tail)) h (lies_behind new bytes tail end f) in
    let marker = put_zero 128 first_part bits first_wide (omega arith) (bits_are (bytes ++ tail)) back.lies in
    let w = first_window bits in
    let stands : Stands (coder_at bits first_part) w = first_part_stands bits in
    let zero : bit_of 128 w ≡ 0 = bool_stands (coder_at bits first_part) w 128 stands ∙ marker.value in
    let next : Stands (coder_at bits behind_marker) (after_bit 128 w) = rw marker.next at (step_stands (coder_at bits first_part) w 128 stands) in
    let read = read_stands s (coder_at bits behind_marker) (coder_at bits new) (after_bit 128 w) x next back.read in
    record {
      start = after_bit 128 w;
      last = read.0;
      starts = starts_by (bytes ++ tail) (some_bytes new bytes tail f) zero;
      read = read.2;
    }

---- To a value or to a rule ----

abbrev settled_by : {A : Type 0} → A → List CountedBool → Settled A
settled_by x counted = record { value = x; counted = counted }

-- the same questions, whose answer says how the syntax ends
ended : {A : Type 0} → Syntax ℕ Rule (Settled A) → Syntax ℕ Rule (Result A Rule)
ended (done s) = done (Ok s.value)
ended (broken e) = done (Err e)
ended (ask p k) = ask p (λ v. ended (k v))

ended_puts : {A : Type 0} (s : Syntax ℕ Rule (Settled A)) (old new : NumberPart) (r : Result A Rule) → WritesTo can_put after_put (valued s) old r new → Puts (ended s) old r new
unfolding valued ended
ended_puts (done s) old new r h = (sym h.0, h.1)
ended_puts (broken e) old new r h = (sym h.0, h.1)
ended_puts (ask p k) old new r h = (h.0, h.1, ended_puts (k h.0) (after_put p h.0 old) new r h.2)

answer_of : {A : Type 0} → Result (Result A Rule × Window) Rule → Result A Rule
answer_of (Ok p) = p.0
answer_of (Err e) = Err e

apart : {A : Type 0} (x : A) (rule : Rule) → ◌≡◌ {A = Result A Rule} (Ok x) (Err rule) → ⊥
apart x rule h = cc

no_rule : {A : Type 0} (x : A) (w last : Window) (rule : Rule) → ◌≡◌ {A = Result (Result A Rule × Window) Rule} (Ok (Ok x, w)) (Ok (Err rule, last)) → ⊥
unfolding answer_of
no_rule x w last rule h = apart x rule (ap answer_of h)

rule_is : {A : Type 0} (e rule : Rule) → ◌≡◌ {A = Result A Rule} (Err e) (Err rule) → e ≡ rule
rule_is e rule h = cc

same_rule : {A : Type 0} (e : Rule) (w last : Window) (rule : Rule) → ◌≡◌ {A = Result (Result A Rule × Window) Rule} (Ok (Err e, w)) (Ok (Err rule, last)) → e ≡ rule
unfolding answer_of
same_rule {A} e w last rule h = rule_is {A = A} e rule (ap answer_of h)

ended_breaks : {A : Type 0} (s : Syntax ℕ Rule (Settled A)) (w last : Window) (rule : Rule) → run_bools (ended s) w ≡ Ok (Err rule, last) → run_bools s w ≡ Err rule
unfolding ended
ended_breaks (done s) w last rule h = absurd (no_rule s.value w last rule h)
ended_breaks {A} (broken e) w last rule h = ap (λ z. Err z) (same_rule {A = A} e w last rule h)
ended_breaks (ask p k) w last rule h = ended_breaks (k (bit_of p w)) (after_bit p w) last rule h

-- a rule is read where it was put
pub breaks_there : {A : Type 0} (s : Syntax ℕ Rule (Settled A)) (rule : Rule) (bytes tail : List ℕ) → IsWritten s (Err rule) bytes → read_whole s (bytes ++ tail) ≡ Err rule
unfolding read_whole
breaks_there s rule bytes tail h =
    let r = reads_here (ended s) (Err rule) h.part bytes tail (ended_puts s behind_marker h.part (Err rule) h.put) h.ends in
    rw r.starts (ap settled_of (ended_breaks s r.start r.last rule r.read))

-- and a value, with what it counts
pub settles_there : {A : Type 0} (s : Syntax ℕ Rule (Settled A)) (x : A) (bytes : List ℕ) → IsWritten s (Ok x) bytes
    → (counted : List CountedBool) × ((tail : List ℕ) → read_whole s (bytes ++ tail) ≡ Ok (settled_by x counted))
unfolding read_whole
settles_there s x bytes h =
    let counting = value_counts s behind_marker h.part x (value_put s behind_marker h.part x h.put) in (
      counting.0,
      λ tail.
          let r = reads_here s (settled_by x counting.0) h.part bytes tail counting.1 h.ends in
          rw r.starts (ap settled_of r.read),
    )
