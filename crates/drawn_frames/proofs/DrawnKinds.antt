-- A frame that passes the test is one that blocks are drawn for.
use Rattle.std.proofs.Common.{◌≡◌, ℕ, zero, suc, ℤ, refl, Bool, true, false, not, ◌&&◌, ◌||◌, List, [], ◌∷◌}
use Rattle.std.specs.Prelude.{Option, Some, None, slice_index_or}
use Rattle.std.specs.List.{list_all}
use Rattle.std.proofs.lemmas.Bool.{and_parts}
use Rattle.compressed_header.specs.ReferenceProbs.{is_switchable}
use Rattle.frame_headers.specs.Segments.{no_segment_features}
use Rattle.frame_headers.specs.declared.header.FrameFilter.{FrameFilter}
use Rattle.frame_headers.specs.declared.header.FrameFilter.TheVariants.{Fixed, Switchable}
use Rattle.frame_headers.specs.declared.header.FrameKind.{FrameKind}
use Rattle.frame_headers.specs.declared.header.FrameKind.TheVariants as frame
use Rattle.frame_headers.specs.declared.header.Header.{Header}
use Rattle.frame_headers.specs.declared.segments.FeatureReference.{FeatureReference}
use Rattle.frame_headers.specs.declared.segments.MapUpdate.{MapUpdate}
use Rattle.frame_headers.specs.declared.segments.SegmentFeatures.{SegmentFeatures}
use Rattle.frame_headers.specs.declared.segments.Segmentation.{Segmentation}
use Rattle.drawn_symbols.specs.DrawnFor.{AreDrawnSegments, IsDrawnFrame, IsDrawnKind, IsUpdatedAnew}
use Rattle.drawn_frames.specs.FrameTests.{draws_segments, is_drawn_frame, is_plain, is_updated_anew, names_filters}

abbrev features_of : Option ℤ → Option ℤ → Option FeatureReference → Bool → SegmentFeatures
features_of quantizer level reference skip = record { quantizer = quantizer; level = level; reference = reference; skip = skip }

none_of : (quantizer level : Option ℤ) (reference : Option FeatureReference) (skip : Bool)
    → is_plain (features_of quantizer level reference skip) ≡ true → features_of quantizer level reference skip ≡ no_segment_features
none_of None None None false plain = refl
none_of None None None true plain = cc
none_of None None (Some r) skip plain = cc
none_of None (Some v) reference skip plain = cc
none_of (Some v) level reference skip plain = cc

none_at : (segments : List SegmentFeatures) (k : ℕ) → list_all is_plain segments ≡ true → slice_index_or segments k no_segment_features ≡ no_segment_features
none_at [] k all = refl
none_at (f ∷ segments) zero all = none_of f.quantizer f.level f.reference f.skip (and_parts (is_plain f) (list_all is_plain segments) all).0
none_at (f ∷ segments) (suc k) all = none_at segments k (and_parts (is_plain f) (list_all is_plain segments) all).1

anew : (map : Option MapUpdate) → is_updated_anew map ≡ true → IsUpdatedAnew map
anew (Some update) is = off update.temporal is
  where
    off : (temporal : Bool) → not temporal ≡ true → temporal ≡ false
    off true is = cc
    off false is = refl
anew None is = cc

switchable : (filter : FrameFilter) → is_switchable filter ≡ true → filter ≡ Switchable
switchable Switchable is = refl
switchable (Fixed named) is = cc

named : (kind : FrameKind) → names_filters kind ≡ true → IsDrawnKind kind
named (frame.Inter fields) is = switchable fields.filter is
named frame.Key is = tt
named frame.IntraOnly is = tt

enabled : (on rest : Bool) → (not on || rest) ≡ true → on ≡ true → rest ≡ true
enabled true rest is on = is
enabled false rest is on = cc

drawn_segments : (s : Segmentation) → draws_segments s ≡ true → AreDrawnSegments s
drawn_segments s draws = record {
  updated = λ on. anew s.map (both on).0;
  plain = λ on k. none_at s.features.segments k (both on).1;
}
  where
    both : s.enabled ≡ true → (is_updated_anew s.map ≡ true) × (list_all is_plain s.features.segments ≡ true)
    both on = and_parts (is_updated_anew s.map) (list_all is_plain s.features.segments) (enabled s.enabled (is_updated_anew s.map && list_all is_plain s.features.segments) draws on)

pub drawn_frame : (header : Header) → is_drawn_frame header ≡ true → IsDrawnFrame header
unfolding is_drawn_frame
drawn_frame header is =
    let both = and_parts (draws_segments header.params.segmentation) (names_filters header.kind) is in
    record { segments = drawn_segments header.params.segmentation both.0; kind = named header.kind both.1 }
