use Rattle.std.proofs.Common.{◌<◌, ◌∙◌, sym, arith, length}
use Rattle.std.proofs.lemmas.List.{take_more_same}
use Rattle.frame_headers.specs.Segments.{no_segment_features}
use Rattle.header_checks.specs.Same.{same_segment}
use Rattle.header_checks.proofs.Pairs.{pair_passes}
use Rattle.header_checks.proofs.same.same_segments.Goals as goal

pub loop-i-preserved : goal.loop-i-preserved
loop-i-preserved c =
    let xs = c.args.segments.now in
    let ys = c.args.others.now in
    let low = c.loop-i-test.true in
    let low_too : c.loop-i.i < length ys = omega (arith, low, c.requires) in
    let passes = sym c.same_segment.ensures.is ∙ c.if-not-same_segment.false in
    record {
      tested = sym (pair_passes same_segment xs ys c.loop-i.i no_segment_features low low_too passes) ∙ c.loop-i.invariant.tested;
      same = take_more_same xs ys c.loop-i.i no_segment_features low low_too c.loop-i.invariant.same (c.same_segment.ensures.same c.if-not-same_segment.false);
    }
