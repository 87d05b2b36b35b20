use Rattle.std.proofs.Common.{◌≡◌, ◌<◌, ◌≤◌, length, get_or, arith, rules, pos, to_z, of_z, w16}
use Rattle.frame_headers.specs.Filter.{coded_delta}
use Rattle.std.specs.Prelude.{zip}
use Rattle.header_writer.proofs.Spells.{spelled_pair, each_spelled_none, deltas_spelled, deltas_spelled_all}
use Rattle.header_writer.proofs.EachPuts.{each_begins, each_on, each_all}
use Rattle.header_writer.proofs.filter.put_deltas.Goals as goal

pub loop-i-init : goal.loop-i-init
loop-i-init c = record { puts = each_begins (coded_delta c.args.update c.args.name) c.args.olds.now c.args.bits.now; spells = each_spelled_none spelled_pair (zip c.args.olds.now c.args.deltas.now) c.args.bits.now }

pub loop-i-preserved : goal.loop-i-preserved
loop-i-preserved c =
    let there : c.loop-i.i < length c.args.deltas.now = c.loop-i-test.true in
    let size = c.requires.size in
    let low : c.loop-i.i < length c.args.olds.now = omega (arith, size, there) in
    let old : to_z w16 (of_z w16 (get_or c.args.olds.now c.loop-i.i (pos 0))) ≡ get_or c.args.olds.now c.loop-i.i (pos 0) = search rules in
    let new : to_z w16 (of_z w16 (get_or c.args.deltas.now c.loop-i.i (pos 0))) ≡ get_or c.args.deltas.now c.loop-i.i (pos 0) = search rules in
    let put = rw (old, new) at c.in_ok-put_delta.ensures.puts in
    let spelled = rw (old, new) at c.in_ok-put_delta.ensures.spells in
    record {
      puts =
          each_on (coded_delta c.args.update c.args.name) c.args.olds.now c.args.bits.now c.args.deltas.now c.loop-i.i (pos 0) (pos 0) c.loop-i.bits c.put_delta.new.bits
          low there c.loop-i.invariant.puts put;
      spells = deltas_spelled c.args.olds.now c.args.deltas.now c.loop-i.i c.args.bits.now c.loop-i.bits c.put_delta.new.bits low there c.loop-i.invariant.spells spelled;
    }

pub returns-clause-puts : goal.returns-clause-puts
returns-clause-puts c =
    let size = c.requires.size in
    let there : length c.args.deltas.now ≤ c.loop-i.i = c.loop-i-test.false in
    each_all (coded_delta c.args.update c.args.name) c.args.olds.now c.args.bits.now c.args.deltas.now c.loop-i.i c.loop-i.bits (omega (arith, size, there)) there c.loop-i.invariant.puts

pub returns-clause-spells : goal.returns-clause-spells
returns-clause-spells c = deltas_spelled_all c.args.olds.now c.args.deltas.now c.loop-i.i c.args.bits.now c.loop-i.bits c.loop-i-test.false c.loop-i.invariant.spells
