-- What the laws say of bools that were put.
use Rattle.std.specs.Prelude.{◌≡◌, ℕ, ◌+◌, ◌<◌, ◌≤◌, List, [], ◌∷◌, Ok}
use Rattle.vp9_types.specs.Bits.{bits_of}
use Rattle.vp9_types.specs.Syntax.{Syntax, done, broken, ask}
use Rattle.vp9_types.specs.Each.{each}
use Rattle.vp9_types.specs.declared.rule.Rule.{Rule}
use Rattle.bool_decoder.specs.Coder.{Coder, front_number, first_coder, after_bool}
use Rattle.bool_decoder.specs.Window.{Window, Stands, started}
use Rattle.bool_decoder.specs.Bools.{run_bools, run_coder}
use Rattle.counting_reader.specs.Code.{ReadsCounting}
use Rattle.counting_reader.specs.Counting.{Settled}
use Rattle.bool_encoder.specs.Part.{NumberPart, after_put, after_bools, behind_marker}
use Rattle.bool_encoder.specs.WrittenBools.{can_put}

-- the bits spell a number of the part
pub record Lies (e : NumberPart) (bits : List ℕ) : Type 0 where
  pub from : e.low ≤ front_number (8 + e.n) bits
  pub below : front_number (8 + e.n) bits < e.low + e.range

-- the coder that has narrowed the bits to the part
abbrev pub coder_at : List ℕ → NumberPart → Coder
coder_at bits e = record { bits = bits; n = e.n; low = e.low; range = e.range }

-- a decoder that starts on the bytes reads the value, and so does the coder behind the marker, which has then read as many
-- bits and narrowed them to the same low and range as the part that the last bool left
pub record ReadsFrom {E A : Type 0} (s : Syntax ℕ E A) (bytes : List ℕ) (x : A) (new : NumberPart) : Type 0 where
  pub start : Window
  pub last : Window
  pub starts : started bytes ≡ Ok start
  pub read : run_bools s start ≡ Ok (x, last)
  pub coder : run_coder s (after_bool 128 (first_coder (bits_of bytes))) ≡ Ok (x, coder_at (bits_of bytes) new)
  pub behind : Stands (coder_at (bits_of bytes) new) last

-- a reader that starts on the bytes reads the value, whatever it has counted before
pub record IsReadFrom {A : Type 0} (s : Syntax ℕ Rule (Settled A)) (bytes : List ℕ) (x : A) : Type 0 where
  pub start : Window
  pub last : Window
  pub starts : started bytes ≡ Ok start
  pub read : (counts : List ℕ) → (after : List ℕ) × ReadsCounting s start counts x last after

-- the bools answer the syntax to its end, which settles on the value
abbrev pub IsLedBy : {E A : Type 0} → Syntax ℕ E A → List ℕ → A → Type 0
IsLedBy (done x) [] y = x ≡ y
IsLedBy (done x) (v ∷ vs) y = ⊥
IsLedBy (broken e) vs y = ⊥
IsLedBy (ask p k) [] y = ⊥
IsLedBy (ask p k) (v ∷ vs) y = can_put p v × IsLedBy (k v) vs y

-- the part after these answers were put, each at the probability that is asked
abbrev pub after_all : {E A : Type 0} → Syntax ℕ E A → List ℕ → NumberPart → NumberPart
after_all (done x) vs part = part
after_all (broken e) vs part = part
after_all (ask p k) [] part = part
after_all (ask p k) (v ∷ vs) part = after_all (k v) vs (after_put p v part)

-- ---- a list of bools, each with its probability before it

-- probabilities are out of 256, and bools 0 or 1
abbrev pub AreBools : List (ℕ × ℕ) → Type 0
AreBools [] = Unit {0}
AreBools (b ∷ bools) = can_put b.0 b.1 × AreBools bools

abbrev pub values_of : List (ℕ × ℕ) → List ℕ
values_of [] = []
values_of (b ∷ bools) = b.1 ∷ values_of bools

-- a bool at each of the probabilities
abbrev pub asked : {E : Type 0} → List (ℕ × ℕ) → Syntax ℕ E (List ℕ)
asked bools = each (λ b. ask b.0 done) bools

-- a decoder that starts on the bytes reads exactly these values at their probabilities
abbrev pub ReadsBools : List (ℕ × ℕ) → List ℕ → Type 0
ReadsBools bools bytes = ReadsFrom {E = Rule} (asked bools) bytes (values_of bools) (after_bools bools behind_marker)
