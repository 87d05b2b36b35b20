use Rattle.std.proofs.Common.{ℕ, ◌<◌, ◌≤◌, length, zip, arith}
use Rattle.bool_lists.proofs.Loops.{each_spelled_none, pairs_on, pairs_all}
use Rattle.compressed_header.specs.Updates.{update_mv_prob}
use Rattle.compressed_writer.specs.Spelling.{spelled_vector_update, spelled_vector_updates}
use Rattle.compressed_writer.proofs.EachPuts.{each_begins, each_on, each_all}
use Rattle.compressed_writer.proofs.update.put_vector_updates.Goals as goal

pub loop-i-init : goal.loop-i-init
loop-i-init c = record {
  puts = each_begins update_mv_prob c.args.before.now c.args.encoder.now;
  spells = each_spelled_none (λ (at : ℕ × ℕ). spelled_vector_update at.0 at.1) (zip c.args.before.now c.args.after.now) c.args.encoder.now;
}

pub loop-i-preserved : goal.loop-i-preserved
loop-i-preserved c =
    let there : c.loop-i.i < length c.args.after.now = c.loop-i-test.true in
    let size = c.requires.size in
    let low : c.loop-i.i < length c.args.before.now = omega (arith, size, there) in
    record {
      puts = each_on update_mv_prob c.args.before.now c.args.encoder.now c.args.after.now c.loop-i.i 0 0 c.loop-i.encoder c.put_vector_update.new.encoder
          low there c.loop-i.invariant.puts c.in_ok-put_vector_update.ensures.puts;
      spells = pairs_on (λ (at : ℕ × ℕ). spelled_vector_update at.0 at.1) c.args.before.now c.args.after.now c.loop-i.i c.args.encoder.now c.loop-i.encoder c.put_vector_update.new.encoder
          low there c.loop-i.invariant.spells c.in_ok-put_vector_update.ensures.spells;
    }

pub returns-clause-puts : goal.returns-clause-puts
returns-clause-puts c =
    let there : length c.args.after.now ≤ c.loop-i.i = c.loop-i-test.false in
    let size = c.requires.size in
    each_all update_mv_prob c.args.before.now c.args.encoder.now c.args.after.now c.loop-i.i c.loop-i.encoder (omega (arith, size, there)) there c.loop-i.invariant.puts

pub returns-clause-spells : goal.returns-clause-spells
unfolding spelled_vector_updates
returns-clause-spells c =
    pairs_all (λ (at : ℕ × ℕ). spelled_vector_update at.0 at.1) c.args.before.now c.args.after.now c.loop-i.i c.args.encoder.now c.loop-i.encoder c.loop-i-test.false c.loop-i.invariant.spells
