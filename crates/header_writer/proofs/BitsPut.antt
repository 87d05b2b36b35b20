-- Bits that are put.
use Rattle.std.proofs.Common.{◌≡◌, ℕ, ◌+◌, ◌-◌, ◌*◌, ◌/◌, ◌%◌, ◌^◌, ◌<◌, ◌≤◌, List, [], ◌∷◌, ◌++◌, refl, ap, sym, ◌∙◌, arith, append_assoc}
use Rattle.std.proofs.lemmas.List.{append-nil}
use Rattle.std.proofs.lemmas.Nat.{shr-shr, shr_below, shl_below, shl_whole, pow_pos}
use Rattle.vp9_types.specs.Bits.{bits_of, bits_of_byte, spelled}
use Rattle.bool_decoder.proofs.Fronts.{spelled-append}
use Rattle.frame_headers.specs.declared.field.FieldName.{FieldName}
use Rattle.frame_headers.specs.Fields.{f}
use Rattle.header_writer.specs.WrittenFields.{Puts, with_field}

pub bits_append : (xs ys : List ℕ) → bits_of (xs ++ ys) ≡ bits_of xs ++ bits_of ys
unfolding bits_of
bits_append [] ys = refl
bits_append (x ∷ xs) ys = ap (λ bits. bits_of_byte x ++ bits) (bits_append xs ys)

same_eight : (a b c d e f g h p q r s t u v w : ℕ) → a ≡ p → b ≡ q → c ≡ r → d ≡ s → e ≡ t → f ≡ u → g ≡ v → h ≡ w
    → ◌≡◌ {A = List ℕ} (a ∷ b ∷ c ∷ d ∷ e ∷ f ∷ g ∷ h ∷ []) (p ∷ q ∷ r ∷ s ∷ t ∷ u ∷ v ∷ w ∷ [])
same_eight a b c d e f g h p q r s t u v w h1 h2 h3 h4 h5 h6 h7 h8 = cc

spelled-byte : (b : ℕ) → b < 256 → spelled 8 b ≡ bits_of_byte b
unfolding spelled
spelled-byte b low =
    same_eight _ _ _ _ _ _ _ _ _ _ _ _ _ _ _ _ (omega arith) (omega arith) (omega arith) (omega arith) (omega arith) (omega arith) (omega arith) (omega arith)

one_bit : (b : ℕ) → spelled 1 b ≡ b ∷ []
unfolding spelled
one_bit b = let e : b / 2 ^ 0 ≡ b = omega arith in rw e refl

-- one more bit behind a number's
pub longer : (used last bit : ℕ) → last < 2 ^ used → bit < 2 → spelled (used + 1) (2 * last + bit) ≡ spelled used last ++ bit ∷ []
longer used last bit fits low =
    let e : 2 * last + bit ≡ last * 2 ^ 1 + bit = omega arith in
    ap (λ n. spelled (used + 1) n) e ∙ spelled-append used 1 last bit fits low ∙ ap (λ bits. spelled used last ++ bits) (one_bit bit)

pub byte_full : (bytes : List ℕ) (last bit : ℕ) → last < 2 ^ 7 → bit < 2
    → bits_of (bytes ++ (2 * last + bit) ∷ []) ++ spelled 0 0 ≡ (bits_of bytes ++ spelled 7 last) ++ bit ∷ []
unfolding bits_of spelled
byte_full bytes last bit fits low =
    let small : 2 * last + bit < 256 = omega arith in
    append-nil (bits_of (bytes ++ (2 * last + bit) ∷ []))
    ∙ bits_append bytes ((2 * last + bit) ∷ [])
    ∙ ap (λ bits. bits_of bytes ++ bits) (sym (spelled-byte (2 * last + bit) small) ∙ longer 7 last bit fits low)
    ∙ sym (append_assoc (bits_of bytes) (spelled 7 last) (bit ∷ []))

pub byte_grows : (bytes : List ℕ) (used last bit : ℕ) → last < 2 ^ used → bit < 2
    → bits_of bytes ++ spelled (used + 1) (2 * last + bit) ≡ (bits_of bytes ++ spelled used last) ++ bit ∷ []
byte_grows bytes used last bit fits low =
    ap (λ bits. bits_of bytes ++ bits) (longer used last bit fits low) ∙ sym (append_assoc (bits_of bytes) (spelled used last) (bit ∷ []))

-- ---- a field

pub field_begins : (old : List ℕ) (width value : ℕ) → old ≡ old ++ spelled (width - width) (value / 2 ^ width)
unfolding spelled
field_begins old width value = let e : width - width ≡ 0 = omega arith in rw e (sym (append-nil old))

pub field_goes : (old now next : List ℕ) (width value left : ℕ) → 0 < left → left ≤ width → value < 2 ^ width
    → now ≡ old ++ spelled (width - left) (value / 2 ^ left) → next ≡ now ++ value / 2 ^ (left - 1) % 2 ∷ []
    → next ≡ old ++ spelled (width - (left - 1)) (value / 2 ^ (left - 1))
field_goes old now next width value left some within fits is grows =
    let m = left - 1 in
    let bit = value / 2 ^ m % 2 in
    let half : value / 2 ^ left ≡ value / 2 ^ m / 2 = ap (λ k. value / 2 ^ k) (let e : left ≡ m + 1 = omega arith in e) ∙ sym (shr-shr value m 1) in
    let whole : 2 * (value / 2 ^ left) + bit ≡ value / 2 ^ m = omega (arith, half) in
    let size : width - left + left ≡ width = omega arith in
    let small : value / 2 ^ left < 2 ^ (width - left) = shr_below value (width - left) left (rw size fits) in
    let count : width - left + 1 ≡ width - m = omega arith in
    let more : spelled (width - m) (value / 2 ^ m) ≡ spelled (width - left) (value / 2 ^ left) ++ bit ∷ [] =
    rw (count, whole) at (longer (width - left) (value / 2 ^ left) bit small (omega arith)) in
    grows ∙ ap (λ bits. bits ++ bit ∷ []) is ∙ append_assoc old (spelled (width - left) (value / 2 ^ left)) (bit ∷ [])
    ∙ ap (λ bits. old ++ bits) (sym more)

pub field_ends : (name : FieldName) (old now : List ℕ) (width value : ℕ) → value < 2 ^ width
    → now ≡ old ++ spelled (width - 0) (value / 2 ^ 0) → Puts (f name width) old value now
unfolding f with_field
field_ends name old now width value fits is =
    let e : width - 0 ≡ width = omega arith in
    let g : value / 2 ^ 0 ≡ value = omega arith in
    (value, fits, (refl, sym (rw (e, g) at is)))

-- ---- the last byte

pub last_byte : (bytes : List ℕ) (used last : ℕ) → 0 < used → used < 8 → last < 2 ^ used
    → bits_of (bytes ++ last * 2 ^ (8 - used) ∷ []) ≡ (bits_of bytes ++ spelled used last) ++ spelled (8 - used) 0
unfolding bits_of
last_byte bytes used last some within fits =
    let size : used + (8 - used) ≡ 8 = omega arith in
    let small : last * 2 ^ (8 - used) < 256 = rw size at (shl_below last used (8 - used) fits) in
    let e : last * 2 ^ (8 - used) ≡ last * 2 ^ (8 - used) + 0 = omega arith in
    let whole : spelled 8 (last * 2 ^ (8 - used)) ≡ spelled used last ++ spelled (8 - used) 0 =
    ap (λ n. spelled 8 n) e ∙ ap (λ k. spelled k (last * 2 ^ (8 - used) + 0)) (sym size) ∙ spelled-append used (8 - used) last 0 fits (pow_pos (8 - used)) in
    bits_append bytes (last * 2 ^ (8 - used) ∷ [])
    ∙ ap (λ bits. bits_of bytes ++ bits) (append-nil (bits_of_byte (last * 2 ^ (8 - used))) ∙ sym (spelled-byte (last * 2 ^ (8 - used)) small) ∙ whole)
    ∙ sym (append_assoc (bits_of bytes) (spelled used last) (spelled (8 - used) 0))

pub none_left : (bytes : List ℕ) (used last : ℕ) → used ≡ 0 → bits_of bytes ≡ (bits_of bytes ++ spelled used last) ++ spelled 0 0
unfolding spelled
none_left bytes used last is = rw is (sym (append-nil (bits_of bytes ++ []) ∙ append-nil (bits_of bytes)))

pub last_whole : (used last : ℕ) → used < 8 → last < 2 ^ used → last * 2 ^ (8 - used) % 256 ≡ last * 2 ^ (8 - used)
last_whole used last within fits = shl_whole last used (8 - used) 8 fits (omega arith)
