use Rattle.std.proofs.Common.{◌<◌, ◌≤◌, ℕ, length, replicate, arith}
use Rattle.std.proofs.lemmas.List.{length-replicate}
use Rattle.frame_headers.specs.Segments.{probability_for}
use Rattle.header_writer.specs.Spelling.{spelled_probability}
use Rattle.header_writer.proofs.Spells.{each_spelled, each_spelled_all, each_spelled_none}
use Rattle.header_writer.proofs.EachPuts.{each_begins, each_on, each_all}
use Rattle.header_writer.proofs.segments.put_probabilities.Goals as goal

pub loop-i-init : goal.loop-i-init
loop-i-init c = record { puts = each_begins probability_for (replicate (length c.args.values.now) 255) c.args.bits.now; spells = each_spelled_none spelled_probability c.args.values.now c.args.bits.now }

pub loop-i-preserved : goal.loop-i-preserved
loop-i-preserved c =
    let there : c.loop-i.i < length c.args.values.now = c.loop-i-test.true in
    let size = length-replicate {A = ℕ} (length c.args.values.now) 255 in
    record {
      puts = each_on probability_for (replicate (length c.args.values.now) 255) c.args.bits.now c.args.values.now c.loop-i.i 0 0 c.loop-i.bits c.put_probability.new.bits
          (omega (arith, size, there)) there c.loop-i.invariant.puts c.in_ok-put_probability.ensures.puts;
      spells = each_spelled spelled_probability c.args.values.now c.loop-i.i 0 c.args.bits.now c.loop-i.bits c.put_probability.new.bits there c.loop-i.invariant.spells c.in_ok-put_probability.ensures.spells;
    }

pub returns-clause-puts : goal.returns-clause-puts
returns-clause-puts c =
    let there : length c.args.values.now ≤ c.loop-i.i = c.loop-i-test.false in
    let size = length-replicate {A = ℕ} (length c.args.values.now) 255 in
    each_all probability_for (replicate (length c.args.values.now) 255) c.args.bits.now c.args.values.now c.loop-i.i c.loop-i.bits (omega (arith, size, there)) there c.loop-i.invariant.puts

pub returns-clause-spells : goal.returns-clause-spells
returns-clause-spells c = each_spelled_all spelled_probability c.args.values.now c.loop-i.i c.args.bits.now c.loop-i.bits c.loop-i-test.false c.loop-i.invariant.spells
