use Rattle.std.proofs.Common.{◌∙◌, sym}
use Rattle.std.proofs.lemmas.List.Elements.{All-more}
use Rattle.frame_headers.specs.Segments.{no_segment_features}
use Rattle.header_writer.specs.WellFormed.{AreSegmentFeatures}
use Rattle.header_checks.specs.Params.{are_features}
use Rattle.header_checks.proofs.Pairs.{one_passes}
use Rattle.header_checks.proofs.segments.are_all_features.Goals as goal

pub loop-i-preserved : goal.loop-i-preserved
loop-i-preserved c =
    let xs = c.args.segments.now in
    let low = c.loop-i-test.true in
    let passes = sym c.are_features.ensures.is ∙ c.if-not-are_features.false in
    record {
      tested = sym (one_passes are_features xs c.loop-i.i no_segment_features low passes) ∙ c.loop-i.invariant.tested;
      are = All-more AreSegmentFeatures xs c.loop-i.i no_segment_features low c.loop-i.invariant.are (c.are_features.ensures.features c.if-not-are_features.false);
    }
