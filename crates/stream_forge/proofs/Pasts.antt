-- What the frames before leave to a drawn frame, as the code has it.
use Rattle.std.proofs.Common.{◌≡◌, ◌∙◌, ◌+◌, ◌/◌, true, false, refl, sym, ap, subst}
use Rattle.std.specs.Prelude.{◌==◌, Option, Some, None}
use Rattle.std.proofs.lemmas.Bool.{and_parts, eqb-true}
use Rattle.frame_headers.specs.declared.header.FrameSize.{FrameSize}
use Rattle.frame_headers.specs.declared.header.Header.{Header}
use Rattle.block_plan.specs.declared.segment_map.SegmentMap.{SegmentMap}
use Rattle.seq_decoder.specs.After.{has_size}
use Rattle.seq_decoder.specs.Code.{HasPlaces, segments_held}
use Rattle.seq_decoder.specs.SavedContexts.{loses_past}
use Rattle.stream_forge.specs.Code.{AreSegmentsOf, IsFresh, IsOneOf}

---- Segments ----

same_size : (size other : FrameSize) → has_size size (Some other) ≡ true → (size.width ≡ other.width) × (size.height ≡ other.height)
same_size size other is = let both = and_parts (size.width == other.width) (size.height == other.height) is in (eqb-true _ _ both.0, eqb-true _ _ both.1)

no_size : (size : FrameSize) → has_size size None ≡ true → ⊥
no_size size is = cc

kept_segments : (header : Header) (other : FrameSize) (m : SegmentMap) → loses_past header ≡ false → has_size header.size (Some other) ≡ true → HasPlaces (Some other) (Some m)
    → AreSegmentsOf header (Some other) (segments_held (Some m)) m
kept_segments header other m keeps is places =
    let same = same_size header.size other is in record {
      are = rw (keeps, is) refl;
      rows = places.0 ∙ ap (λ h. (h + 7) / 8) (sym same.1);
      cols = places.1 ∙ ap (λ w. (w + 7) / 8) (sym same.0);
    }

pub segments_are : (header : Header) (last : Option FrameSize) (fresh kept : Option SegmentMap) (m : SegmentMap) → IsFresh header last fresh → HasPlaces last kept → IsOneOf fresh kept m
    → AreSegmentsOf header last (segments_held kept) m
segments_are header last (Some own) kept m is places one = subst (AreSegmentsOf header last (segments_held kept)) (sym one) (is (segments_held kept))
segments_are header None None kept m is places one = absurd (no_size header.size is.1)
segments_are header (Some other) None kept m is places one =
    subst (λ kept. AreSegmentsOf header (Some other) (segments_held kept) m) (sym one)
    (kept_segments header other m is.0 is.1 (subst (HasPlaces (Some other)) one places))
