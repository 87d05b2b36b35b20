-- What has one number is the same.
use Rattle.std.proofs.Common.{◌≡◌, ◌∙◌, ℕ, zero, suc, true, List, ℤ, Option, Some, None, inl, inr, refl, sym, ap, replicate}
use Rattle.std.specs.Prelude.{◌≢◌, unsigned_abs, nat_eq, if◌then◌else◌}
use Rattle.std.specs.Cmp.Lexicographic.{pointwise, same_text}
use Rattle.std.specs.Cmp.Rules.{signed_items}
use Rattle.std.specs.Ordering.{int_eq}
use Rattle.std.proofs.lemmas.Bool.{and_parts, cases_Bool, ltb-true}
use Rattle.std.proofs.lemmas.Bool.Decides.{Decides-int_eq}
use Rattle.std.specs.Option.{is_some}
use Rattle.vp9_types.specs.declared.shape.Depth.{Depth}
use Rattle.vp9_types.specs.declared.shape.Depth.TheVariants.{Eight, Ten, Twelve}
use Rattle.vp9_types.specs.Shapes.{depth_bits}
use Rattle.frame_headers.specs.declared.color.ColorSpace.{ColorSpace as Space}
use Rattle.frame_headers.specs.declared.color.ColorSpace.TheVariants.{Unknown, Bt601, Bt709, Smpte170, Smpte240, Bt2020, Reserved, Rgb}
use Rattle.frame_headers.specs.declared.filter.LoopDeltas.{LoopDeltas}
use Rattle.frame_headers.specs.declared.segments.FeatureReference.{FeatureReference}
use Rattle.frame_headers.specs.declared.segments.FeatureReference.TheVariants.{Intra, Last, Golden, Altref}
use Rattle.header_writer.specs.WellFormed.{IsSigned}
use Rattle.header_checks.specs.Params.{is_delta}
use Rattle.header_checks.specs.Same.{feature_reference_number, same_deltas, space_number}

abbrev depth_of : ℕ → Depth
depth_of n = if nat_eq n 8 then Eight else (if nat_eq n 10 then Ten else Twelve)

depth_is : (depth : Depth) → depth_of (depth_bits depth) ≡ depth
depth_is Eight = refl
depth_is Ten = refl
depth_is Twelve = refl

pub same_depth_is : (depth other : Depth) → depth_bits depth ≡ depth_bits other → depth ≡ other
same_depth_is depth other same = sym (depth_is depth) ∙ (ap (λ n. depth_of n) same ∙ depth_is other)

abbrev space_of : ℕ → Space
space_of zero = Unknown
space_of (suc zero) = Bt601
space_of (suc (suc zero)) = Bt709
space_of (suc (suc (suc zero))) = Smpte170
space_of (suc (suc (suc (suc zero)))) = Smpte240
space_of (suc (suc (suc (suc (suc zero))))) = Bt2020
space_of (suc (suc (suc (suc (suc (suc zero)))))) = Reserved
space_of n = Rgb

space_is : (space : Space) → space_of (space_number space) ≡ space
space_is Unknown = refl
space_is Bt601 = refl
space_is Bt709 = refl
space_is Smpte170 = refl
space_is Smpte240 = refl
space_is Bt2020 = refl
space_is Reserved = refl
space_is Rgb = refl

pub same_space_is : (space other : Space) → space_number space ≡ space_number other → space ≡ other
same_space_is space other same = sym (space_is space) ∙ (ap (λ n. space_of n) same ∙ space_is other)

abbrev reference_of : ℕ → FeatureReference
reference_of zero = Intra
reference_of (suc zero) = Last
reference_of (suc (suc zero)) = Golden
reference_of n = Altref

reference_is : (reference : FeatureReference) → reference_of (feature_reference_number reference) ≡ reference
reference_is Intra = refl
reference_is Last = refl
reference_is Golden = refl
reference_is Altref = refl

pub same_reference_is : (reference other : FeatureReference) → feature_reference_number reference ≡ feature_reference_number other → reference ≡ other
same_reference_is reference other same =
    sym (reference_is reference) ∙ (ap (λ n. reference_of n) same ∙ reference_is other)

---- Lists of numbers ----

abbrev deltas_of : List ℤ → List ℤ → LoopDeltas
deltas_of reference mode = record { reference = reference; mode = mode }

pub same_deltas_are : (deltas other : LoopDeltas) → same_deltas deltas other ≡ true → deltas ≡ other
same_deltas_are deltas other same =
    let parts = and_parts (pointwise int_eq deltas.reference other.reference) (pointwise int_eq deltas.mode other.mode) same in
    ap (λ r. deltas_of r deltas.mode) ((signed_items deltas.reference other.reference).0 parts.0)
    ∙ ap (λ m. deltas_of other.reference m) ((signed_items deltas.mode other.mode).0 parts.1)

pub deltas_are_same : (deltas other : LoopDeltas) → deltas ≡ other → same_deltas deltas other ≡ true
deltas_are_same deltas other same =
    rw (same, (signed_items other.reference other.reference).1 refl, (signed_items other.mode other.mode).1 refl) refl

pub all_whole : (xs : List ℕ) → pointwise nat_eq xs (replicate 3 255) ≡ true → xs ≡ replicate 3 255
all_whole xs same = same_text xs (replicate 3 255) (sym same)

pub delta_signed : (old delta : ℤ) → is_delta old delta ≡ true → delta ≢ old → IsSigned 6 delta
delta_signed old delta pass differs =
    elim (cases_Bool (int_eq delta old)) [
      | inl same ↦ absurd (differs ((Decides-int_eq delta old).0 same))
      | inr other ↦ ltb-true (unsigned_abs delta) 64 (rw other at pass)
    ]

---- Slots ----

pub some_held : {A : Type 0} (slot : Option A) → is_some slot ≡ true → (x : A) × (slot ≡ Some x)
some_held (Some x) some = (x, refl)
some_held None some = absurd (cc)
