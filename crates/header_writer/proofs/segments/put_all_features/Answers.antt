use Rattle.std.proofs.Common.{◌<◌, ◌≤◌, length, replicate, arith}
use Rattle.std.proofs.lemmas.List.{length-replicate}
use Rattle.frame_headers.specs.Segments.{features_for, no_segment_features}
use Rattle.header_writer.specs.Spelling.{spelled_segment_features}
use Rattle.header_writer.proofs.Spells.{each_spelled, each_spelled_all, each_spelled_none}
use Rattle.header_writer.proofs.EachPuts.{each_begins, each_on, each_all}
use Rattle.header_writer.proofs.segments.put_all_features.Goals as goal

pub loop-i-init : goal.loop-i-init
loop-i-init c = record { puts = each_begins features_for (replicate (length c.args.segments.now) no_segment_features) c.args.bits.now; spells = each_spelled_none spelled_segment_features c.args.segments.now c.args.bits.now }

pub loop-i-preserved : goal.loop-i-preserved
loop-i-preserved c =
    let there : c.loop-i.i < length c.args.segments.now = c.loop-i-test.true in
    let size = length-replicate (length c.args.segments.now) no_segment_features in
    record {
      puts = each_on features_for (replicate (length c.args.segments.now) no_segment_features) c.args.bits.now c.args.segments.now c.loop-i.i no_segment_features _
          c.loop-i.bits c.put_segment_features.new.bits (omega (arith, size, there)) there c.loop-i.invariant.puts c.in_ok-put_segment_features.ensures.puts;
      spells = each_spelled spelled_segment_features c.args.segments.now c.loop-i.i no_segment_features c.args.bits.now c.loop-i.bits c.put_segment_features.new.bits there c.loop-i.invariant.spells c.in_ok-put_segment_features.ensures.spells;
    }

pub returns-clause-puts : goal.returns-clause-puts
returns-clause-puts c =
    let there : length c.args.segments.now ≤ c.loop-i.i = c.loop-i-test.false in
    let size = length-replicate (length c.args.segments.now) no_segment_features in
    each_all features_for (replicate (length c.args.segments.now) no_segment_features) c.args.bits.now c.args.segments.now c.loop-i.i c.loop-i.bits
    (omega (arith, size, there)) there c.loop-i.invariant.puts

pub returns-clause-spells : goal.returns-clause-spells
returns-clause-spells c = each_spelled_all spelled_segment_features c.args.segments.now c.loop-i.i c.args.bits.now c.loop-i.bits c.loop-i-test.false c.loop-i.invariant.spells
