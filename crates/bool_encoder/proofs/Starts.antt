-- A decoder that starts on the bytes of a part.
use Rattle.std.proofs.Common.{◌≡◌, ℕ, suc, ◌+◌, ◌-◌, ◌*◌, ◌/◌, ◌^◌, ◌<◌, ◌≤◌, Bool, true, false, List, [], ◌∷◌, ◌++◌, length, refl, ap, subst, ◌∙◌, arith}
use Rattle.std.specs.Prelude.{Ok, nat_eq, if◌then◌else◌}
use Rattle.std.proofs.Math.Nat.{mul-le-mul_right}
use Rattle.std.proofs.lemmas.Nat.{pow-add}
use Rattle.std.proofs.lemmas.Bool.{ne_eqb}
use Rattle.vp9_types.specs.Bits.{bits_of, spelled, AreBits}
use Rattle.vp9_types.specs.Syntax.{Syntax, done, broken, ask}
use Rattle.bool_decoder.specs.Coder.{front_number, split_of, doublings, first_coder, after_bool}
use Rattle.bool_decoder.specs.Bools.{run_coder}
use Rattle.bool_decoder.specs.Window.{Stands, started, first_window, bit_of, after_bit}
use Rattle.bool_decoder.proofs.Fronts.{front-spelled}
use Rattle.bool_decoder.proofs.Stand.{first_stands, bool_stands, step_stands, read_stands}
use Rattle.bool_encoder.specs.Part.{NumberPart, Finishes, first_part, after_put, doubled_part, behind_marker}
use Rattle.bool_encoder.specs.WrittenBools.{WritesBools}
use Rattle.bool_encoder.specs.Laws.{Lies, ReadsFrom, coder_at}
use Rattle.bool_encoder.proofs.Parts.{put_zero, put_wide, split_within}
use Rattle.bool_encoder.proofs.WriteLaws.{written_is_read}

-- ---- a part's numbers have 8 + n bits

pub record Sound (e : NumberPart) : Type 0 where
  pub wide : 2 ≤ e.range
  pub fits : e.low + e.range ≤ 2 ^ (8 + e.n)

sound_doubled : (n low range k whole : ℕ) → low + range ≤ whole → whole ≤ 2 ^ (8 + n) → low * 2 ^ k + range * 2 ^ k ≤ 2 ^ (8 + (n + k))
sound_doubled n low range k whole part within =
    let e : 8 + (n + k) ≡ 8 + n + k = omega arith in
    let wide = ap (λ m. 2 ^ m) e ∙ pow-add 2 (8 + n) k in
    let all : low + range ≤ 2 ^ (8 + n) = omega arith in
    let more = mul-le-mul_right (2 ^ k) all in
    omega (arith, wide, more)

put_sound : (p v : ℕ) (e : NumberPart) → p < 256 → Sound e → Sound (after_put p v e)
unfolding after_put
put_sound p v e low h = record { wide = put_wide p v e h.wide low; fits = by_value (nat_eq v 1) }
  where
    part : Bool → NumberPart
    part one = if one then doubled_part e.n (e.low + split_of e.range p) (e.range - split_of e.range p) (doublings (e.range - split_of e.range p))
        else doubled_part e.n e.low (split_of e.range p) (doublings (split_of e.range p))

    by_value : (one : Bool) → (part one).low + (part one).range ≤ 2 ^ (8 + (part one).n)
    by_value true =
        let within = split_within e.range p h.wide low in
        sound_doubled e.n (e.low + split_of e.range p) (e.range - split_of e.range p) (doublings (e.range - split_of e.range p)) (e.low + e.range) (omega arith) h.fits
    by_value false =
        let within = split_within e.range p h.wide low in
        sound_doubled e.n e.low (split_of e.range p) (doublings (split_of e.range p)) (e.low + e.range) (omega arith) h.fits

pub writes_sound : {E A : Type 0} (s : Syntax ℕ E A) (old new : NumberPart) (x : A) → Sound old → WritesBools s old x new → Sound new
writes_sound (done y) old new x sound h = subst Sound h.1 sound
writes_sound (broken e) old new x sound h = absurd h
writes_sound (ask p k) old new x sound h = writes_sound (k h.0) (after_put p h.0 old) new x (put_sound p h.0 old h.1.0 sound) h.2

first_sound : Sound first_part
unfolding first_part
first_sound = record { wide = omega arith; fits = omega arith }

-- ---- the bytes of a part lie in it

finished_lies : (e : NumberPart) (bytes : List ℕ) → Sound e → Finishes e bytes → Lies e (bits_of bytes)
finished_lies e bytes sound f =
    let k : 8 + e.n + 0 ≡ 8 + e.n = omega arith in
    let wide = sound.wide in
    let fits = sound.fits in
    let small : e.low < 2 ^ (8 + e.n) = omega arith in
    let front : front_number (8 + e.n) (spelled (8 + e.n) e.low ++ spelled (8 * length bytes - (8 + e.n)) 0) ≡ e.low / 2 ^ 0 =
    rw k at (front-spelled (8 + e.n) 0 e.low (spelled (8 * length bytes - (8 + e.n)) 0) (rw k small)) in
    let is : front_number (8 + e.n) (bits_of bytes) ≡ e.low = ap (λ bits. front_number (8 + e.n) bits) f.bits ∙ front ∙ omega arith in
    record { from = omega (arith, is); below = omega (arith, is) }

bits_are : (bytes : List ℕ) → AreBits (bits_of bytes)
unfolding bits_of
bits_are [] = tt
bits_are (b ∷ bytes) = (omega arith, (omega arith, (omega arith, (omega arith, (omega arith, (omega arith, (omega arith, (omega arith, bits_are bytes))))))))

not_none : (n : ℕ) → nat_eq (suc n) 0 ≡ false
not_none n = ne_eqb (suc n) 0 (λ h. let e : suc n ≡ 0 = h in omega arith)

some_bytes : (e : NumberPart) (bytes : List ℕ) → Finishes e bytes → nat_eq (length bytes) 0 ≡ false
some_bytes e [] f = let none = f.size in absurd (omega (arith, none))
some_bytes e (b ∷ bytes) f = not_none (length bytes)

-- ---- the start

starts_by : (bytes : List ℕ) → nat_eq (length bytes) 0 ≡ false → bit_of 128 (first_window (bits_of bytes)) ≡ 0
    → started bytes ≡ Ok (after_bit 128 (first_window (bits_of bytes)))
unfolding started
starts_by bytes some none = rw (some, none) refl

first_is : (bits : List ℕ) → first_coder bits ≡ coder_at bits first_part
unfolding first_part first_coder
first_is bits = refl

first_part_stands : (bits : List ℕ) → Stands (coder_at bits first_part) (first_window bits)
unfolding first_part first_coder
first_part_stands bits = first_stands bits

pub written_is_read_from : {E A : Type 0} (s : Syntax ℕ E A) (x : A) (new : NumberPart) (bytes : List ℕ) → WritesBools s behind_marker x new → Finishes new bytes → ReadsFrom s bytes x new
written_is_read_from s x new bytes h f =
    let bits = bits_of bytes in
    let first = first_sound in
    let start = put_sound 128 0 first_part (omega arith) first in
    let end = writes_sound s behind_marker new x start h in
    let back = written_is_read s behind_marker new x bits start.wide (bits_are bytes) h (finished_lies new bytes end f) in
    let marker = put_zero 128 first_part bits first.wide (omega arith) (bits_are bytes) back.lies in
    let w = first_window bits in
    let stands : Stands (coder_at bits first_part) w = first_part_stands bits in
    let zero : bit_of 128 w ≡ 0 = bool_stands (coder_at bits first_part) w 128 stands ∙ marker.value in
    let next : Stands (coder_at bits behind_marker) (after_bit 128 w) = rw marker.next at (step_stands (coder_at bits first_part) w 128 stands) in
    let read = read_stands s (coder_at bits behind_marker) (coder_at bits new) (after_bit 128 w) x next back.read in
    record {
      start = after_bit 128 w;
      last = read.0;
      starts = starts_by bytes (some_bytes new bytes f) zero;
      read = read.2;
      coder = ap (λ c. run_coder s (after_bool 128 c)) (first_is bits) ∙ ap (λ c. run_coder s c) marker.next ∙ back.read;
      behind = read.1;
    }
