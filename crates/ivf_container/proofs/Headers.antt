-- The file header: what its tests say, and that a header passes them.
use Rattle.std.proofs.Common.{◌≡◌, ◌≢◌, inl, inr, ℕ, ◌-◌, ◌≤◌, List, ◌++◌, length, take, drop, refl, sym, ap, ◌∙◌, arith, Bool, true, false, not, length-drop, length-append}
use Rattle.std.specs.Prelude.{Result, Ok, Err, nat_eq, nat_lt, codes, slice_range}
use Rattle.std.specs.List.{starts_with}
use borrow.Author.Tests.{ltb-true, ltb-false}
use Rattle.std.proofs.lemmas.List.{take-append-le, drop-append-le, take-append-drop, take-take, length-take-le}
use Rattle.std.proofs.lemmas.Slice.Eq.{slice_eq-Decides}
use Rattle.std.proofs.lemmas.Bool.Decides.{Decides-eqb}
use Rattle.byteorder.specs.Endian.{little_number}
use Rattle.vp9_types.specs.declared.rule.Rule.{Rule}
use Rattle.vp9_types.specs.declared.rule.Rule.TheVariants.{IvfSignature, IvfHeader, IvfCodec}
use Rattle.ivf_container.specs.Packets.{header_end, header_length, FailsHeader, IsHeader}
use Rattle.ivf_container.proofs.Walks.{by_test}

not_true : (b : Bool) → not b ≡ true → b ≡ false
not_true true e = cc
not_true false e = refl

not_false : (b : Bool) → not b ≡ false → b ≡ true
not_false true e = refl
not_false false e = cc

begins : (xs needle : List ℕ) → not (starts_with nat_eq xs needle) ≡ false → take (length needle) xs ≡ needle
begins xs needle e = sym ((slice_eq-Decides Decides-eqb needle (take (length needle) xs) _ refl).0 (not_false _ e))

differs : (xs needle : List ℕ) → not (starts_with nat_eq xs needle) ≡ true → take (length needle) xs ≢ needle
differs xs needle e same =
    let yes_it_does = (slice_eq-Decides Decides-eqb needle (take (length needle) xs) _ refl).1 (sym same) in
    let it_doesnt = not_true _ e in
    cc

-- what the tests say of a header that passes them, and of one that doesn't
abbrev pub IsTested : List ℕ → Result ℕ Rule → Type 0
IsTested bytes (Ok at) =
    (at ≡ header_length bytes) × (32 ≤ at) × (at ≤ length bytes) × (take 4 bytes ≡ codes "DKIF") × (slice_range bytes 8 12 ≡ codes "VP90")
IsTested bytes (Err rule) = FailsHeader bytes rule

again : (bytes : List ℕ) → take 4 (slice_range bytes 8 12) ≡ slice_range bytes 8 12
again bytes = take-take 4 4 (drop 8 bytes) (omega arith)

pub is_tested : (bytes : List ℕ) → IsTested bytes (header_end bytes)
unfolding header_end
is_tested bytes =
    let tested = IsTested bytes in
    by_test tested (nat_lt (length bytes) 4) _ _ (λ t. inl (ltb-true _ _ t)) (λ a.
    by_test tested (not (starts_with nat_eq bytes (codes "DKIF"))) _ _ (λ t. (ltb-false _ _ a, differs _ _ t)) (λ b.
    by_test tested (nat_lt (length bytes) 32) _ _ (λ t. inr (begins _ _ b, inl (ltb-true _ _ t))) (λ c.
    by_test tested (nat_lt (header_length bytes) 32) _ _ (λ t. inr (begins _ _ b, inr (inl (ltb-true _ _ t)))) (λ d.
    by_test tested (nat_lt (length bytes) (header_length bytes)) _ _ (λ t. inr (begins _ _ b, inr (inr (ltb-true _ _ t)))) (λ e.
    by_test tested (not (starts_with nat_eq (slice_range bytes 8 12) (codes "VP90"))) _ _ (λ t. (begins _ _ b, ltb-false _ _ d, ltb-false _ _ e, λ same. differs _ _ t (again bytes ∙ same))) (λ f.
    (refl, ltb-false _ _ d, ltb-false _ _ e, begins _ _ b, sym (again bytes) ∙ begins _ _ f)))))))

no_signature : (bytes : List ℕ) → FailsHeader bytes IvfHeader → 4 ≤ length bytes → take 4 bytes ≢ codes "DKIF" → ⊥
no_signature bytes (inl short) enough other = omega arith
no_signature bytes (inr t) enough other = other t.0

whole_header : (bytes : List ℕ) → FailsHeader bytes IvfHeader → 32 ≤ header_length bytes → header_length bytes ≤ length bytes → ⊥
whole_header bytes (inl short) least fits = omega arith
whole_header bytes (inr t) least fits = elim t.1 [ inl a ↦ omega arith | inr b ↦ elim b [ inl a ↦ omega arith | inr a ↦ omega arith ] ]

-- bytes that pass the tests
passes : (bytes : List ℕ) → 32 ≤ header_length bytes → header_length bytes ≤ length bytes → take 4 bytes ≡ codes "DKIF"
    → slice_range bytes 8 12 ≡ codes "VP90" → header_end bytes ≡ Ok (header_length bytes)
passes bytes least fits signature codec = settled (header_end bytes) (is_tested bytes) where
  settled : (r : Result ℕ Rule) → IsTested bytes r → r ≡ Ok (header_length bytes)
  settled (Ok at) t = ap Ok t.0
  settled (Err IvfSignature) t = absurd (t.1 signature)
  settled (Err IvfHeader) t = absurd (whole_header bytes t least fits)
  settled (Err IvfCodec) t = absurd (t.3 codec)
  settled (Err rule) t = absurd t

-- a part that lies in front of what was added
pub range_front : (xs ys : List ℕ) (i j : ℕ) → i ≤ j → j ≤ length xs → slice_range (xs ++ ys) i j ≡ slice_range xs i j
range_front xs ys i j order within =
    ap (take (j - i)) (drop-append-le i xs ys (omega arith)) ∙ take-append-le (j - i) (drop i xs) ys (omega (arith, length-drop i xs))

pub ends_header : (header body : List ℕ) → IsHeader header → header_end (header ++ body) ≡ Ok (length header)
ends_header header body h =
    let says : header_length (header ++ body) ≡ length header = ap (little_number 2) (range_front header body 6 8 (omega arith) (omega (arith, h.least))) ∙ h.says_length in
    passes (header ++ body) (omega (arith, h.least)) (omega (arith, length-append header body))
    (take-append-le 4 header body (omega (arith, h.least)) ∙ h.signature)
    (range_front header body 8 12 (omega arith) (omega (arith, h.least)) ∙ h.codec)
    ∙ ap Ok says

-- the bytes up to where the tests say that the header ends
pub is_header : (bytes : List ℕ) (at : ℕ) → IsTested bytes (Ok at) → IsHeader (take at bytes)
is_header bytes at t =
    let all : take at bytes ++ drop at bytes ≡ bytes = take-append-drop at bytes in
    let long : length (take at bytes) ≡ at = length-take-le at bytes t.2 in
    let part : (i j : ℕ) → i ≤ j → j ≤ 32 → slice_range (take at bytes) i j ≡ slice_range bytes i j =
    λ i j order low. sym (range_front (take at bytes) (drop at bytes) i j order (omega arith)) ∙ ap (λ xs. slice_range xs i j) all in
    record {
      signature = take-take 4 at bytes (omega arith) ∙ t.3;
      codec = part 8 12 (omega arith) (omega arith) ∙ t.4;
      least = omega arith;
      says_length = ap (little_number 2) (part 6 8 (omega arith) (omega arith)) ∙ sym t.0 ∙ sym long;
    }

-- bytes break one rule of the header at most
one_rule : (bytes : List ℕ) (a b : Rule) → FailsHeader bytes a → FailsHeader bytes b → a ≡ b
one_rule bytes IvfSignature IvfSignature s t = refl
one_rule bytes IvfHeader IvfHeader s t = refl
one_rule bytes IvfCodec IvfCodec s t = refl
one_rule bytes IvfSignature IvfHeader s t = absurd (no_signature bytes t s.0 s.1)
one_rule bytes IvfHeader IvfSignature s t = absurd (no_signature bytes s t.0 t.1)
one_rule bytes IvfSignature IvfCodec s t = absurd (s.1 t.0)
one_rule bytes IvfCodec IvfSignature s t = absurd (t.1 s.0)
one_rule bytes IvfHeader IvfCodec s t = absurd (whole_header bytes s t.1 t.2)
one_rule bytes IvfCodec IvfHeader s t = absurd (whole_header bytes t s.1 s.2)
one_rule bytes IvfSignature b s t = absurd t
one_rule bytes IvfHeader b s t = absurd t
one_rule bytes IvfCodec b s t = absurd t
one_rule bytes a b s t = absurd s

-- bytes without a header
pub fails_header : (bytes : List ℕ) (rule : Rule) → FailsHeader bytes rule → header_end bytes ≡ Err rule
fails_header bytes rule fails = settled (header_end bytes) (is_tested bytes) rule fails where
  settled : (r : Result ℕ Rule) → IsTested bytes r → (rule : Rule) → FailsHeader bytes rule → r ≡ Err rule
  settled (Err other) t rule fails = ap Err (one_rule bytes other rule t fails)
  settled (Ok at) t IvfSignature fails = absurd (fails.1 t.3)
  settled (Ok at) t IvfHeader fails = absurd (whole_header bytes fails (omega arith) (omega arith))
  settled (Ok at) t IvfCodec fails = absurd (fails.3 t.4)
  settled (Ok at) t rule fails = absurd fails
