use Rattle.std.proofs.Common.{◌≡◌, ◌<◌, ◌≤◌, arith}
use Rattle.header_writer.proofs.TilePuts.{columns_begin, columns_go, columns_stop, columns_end}
use Rattle.header_writer.proofs.Spells.{columns_none, columns_spelled, columns_ended, columns_stopped}
use Rattle.header_writer.proofs.tiles.put_more_columns.Goals as goal

pub loop-now-init : goal.loop-now-init
loop-now-init c = record { from = omega arith; within = c.requires.least; put = columns_begin c.args.greatest c.args.least c.args.bits.now; spells = columns_none c.args.least c.args.bits.now }

pub loop-now-preserved : goal.loop-now-preserved
loop-now-preserved c =
    let low : c.loop-now.now < c.args.log2 = c.loop-now-test.true in
    let from = c.loop-now.invariant.from in
    let most = c.requires.most in
    let more : c.loop-now.now < c.args.greatest = omega (arith, low, from, most) in
    record {
      from = omega (arith, from);
      within = omega (arith, low);
      put = columns_go c.args.greatest c.args.least c.loop-now.now c.args.bits.now c.loop-now.bits c.flag_field.new.self more c.loop-now.invariant.put c.in_ok-flag_field.ensures.puts;
      spells = columns_spelled c.args.least c.loop-now.now c.args.bits.now c.loop-now.bits c.flag_field.new.self from c.loop-now.invariant.spells c.in_ok-flag_field.ensures.spells;
    }

pub returns-then-greatest-log2-clause-puts : goal.returns-then-greatest-log2-clause-puts
returns-then-greatest-log2-clause-puts c =
    let within = c.loop-now.invariant.within in
    let done : c.args.log2 ≤ c.loop-now.now = c.loop-now-test.false in
    let is : c.loop-now.now ≡ c.args.log2 = omega (arith, within, done) in
    rw is at (columns_end c.args.greatest c.args.least c.loop-now.now c.args.bits.now c.loop-now.bits (rw is c.if-greatest-log2.true) c.loop-now.invariant.put)

pub returns-clause-puts : goal.returns-clause-puts
returns-clause-puts c =
    let within = c.loop-now.invariant.within in
    let done : c.args.log2 ≤ c.loop-now.now = c.loop-now-test.false in
    let is : c.loop-now.now ≡ c.args.log2 = omega (arith, within, done) in
    columns_stop c.args.greatest c.args.least c.args.log2 c.args.bits.now c.loop-now.bits c.flag_field-2.new.self c.if-greatest-log2.false (rw is at c.loop-now.invariant.put) c.in_ok-flag_field-2.ensures.puts

pub returns-then-greatest-log2-clause-spells : goal.returns-then-greatest-log2-clause-spells
returns-then-greatest-log2-clause-spells c =
    let within = c.loop-now.invariant.within in
    let done : c.args.log2 ≤ c.loop-now.now = c.loop-now-test.false in
    let is : c.loop-now.now ≡ c.args.log2 = omega (arith, within, done) in
    columns_ended c.args.least c.args.greatest c.args.log2 c.args.bits.now c.loop-now.bits c.if-greatest-log2.true (rw is at c.loop-now.invariant.spells)

pub returns-clause-spells : goal.returns-clause-spells
returns-clause-spells c =
    let within = c.loop-now.invariant.within in
    let done : c.args.log2 ≤ c.loop-now.now = c.loop-now-test.false in
    let is : c.loop-now.now ≡ c.args.log2 = omega (arith, within, done) in
    columns_stopped c.args.least c.args.greatest c.args.log2 c.args.bits.now c.loop-now.bits c.flag_field-2.new.self c.if-greatest-log2.false (rw is at c.loop-now.invariant.spells)
    c.in_ok-flag_field-2.ensures.spells
