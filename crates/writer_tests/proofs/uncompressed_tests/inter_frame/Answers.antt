use Rattle.std.proofs.Common.{◌≡◌, ◌≤◌, ◌<◌, ◌^◌, max, refl, arith}
use Rattle.std.proofs.lemmas.List.{get_or-replicate}
use Rattle.frame_headers.specs.Segments.{no_segment_features}
use Rattle.frame_headers.specs.Tiles.{superblocks, min_log2, max_log2}
use Rattle.writer_tests.proofs.uncompressed_tests.inter_frame.Goals as goal

pub returns-clause-formed : goal.returns-clause-formed
unfolding min_log2 max_log2
returns-clause-formed c =
    record {
      profile = omega arith;
      size = (omega arith, omega arith, omega arith, omega arith);
      kind = (
        record { small = omega arith; none = λ h. absurd cc },
        refl,
        record {
          last = record { slot = omega arith; held = refl; bias = λ h. absurd cc };
          golden = record { slot = omega arith; held = refl; bias = λ h. absurd cc };
          altref = record { slot = omega arith; held = refl; bias = λ h. absurd cc };
          format = refl;
          range = refl;
        },
      );
      contexts = record { index = omega arith; fixed = λ h. absurd cc };
      params = record {
        loop_filter = record {
          level = omega arith;
          sharpness = omega arith;
          disabled = λ h. absurd cc;
          reference = λ i low differs. absurd (differs refl);
          mode = λ i low differs. absurd (differs refl);
        };
        quantizer = record { y_dc = omega arith; uv_dc = omega arith; uv_ac = omega arith };
        segmentation = record {
          disabled = λ _. (refl, refl);
          map = tt;
          features = λ k d low. rw (get_or-replicate 8 k no_segment_features d low) (tt, tt);
        };
        tiles = record { least = omega arith; most = omega arith; rows = omega arith };
        some = omega arith;
      };
    }
