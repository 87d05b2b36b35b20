use Rattle.std.proofs.Common.{◌≡◌, ◌≤◌, ◌<◌, ◌^◌, max, refl, arith}
use Rattle.std.proofs.lemmas.List.{get_or-replicate}
use Rattle.frame_headers.specs.Segments.{no_segment_features}
use Rattle.frame_headers.specs.Tiles.{superblocks, min_log2, max_log2}
use Rattle.writer_tests.proofs.uncompressed_tests.key_frame.Goals as goal

pub returns-clause-formed : goal.returns-clause-formed
unfolding min_log2 max_log2
returns-clause-formed c =
    let least = c.requires.least in
    let most = c.requires.most in
    let one : superblocks c.args.side ≡ 1 = omega (arith, least, most) in
    record {
      profile = c.requires.profile;
      size = (least, omega (arith, most), least, omega (arith, most));
      kind = (refl, refl, c.requires.color);
      contexts = record { index = omega arith; fixed = λ _. (refl, refl) };
      params = record {
        loop_filter = record {
          level = omega arith;
          sharpness = omega arith;
          disabled = λ _. refl;
          reference = λ i low differs. absurd (differs refl);
          mode = λ i low differs. absurd (differs refl);
        };
        quantizer = record { y_dc = omega arith; uv_dc = omega arith; uv_ac = omega arith };
        segmentation = record {
          disabled = λ _. (refl, refl);
          map = tt;
          features = λ k d low. rw (get_or-replicate 8 k no_segment_features d low) (tt, tt);
        };
        tiles = record { least = rw one (omega arith); most = omega arith; rows = omega arith };
        some = omega arith;
      };
    }
