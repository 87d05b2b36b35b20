use Rattle.std.proofs.Common.{◌≡◌, ◌+◌, ◌-◌, arith}
use Rattle.compressed_writer.specs.Spelling.{spelled_updates_from}
use Rattle.compressed_writer.proofs.Joins.{component_put, range_odd}
use Rattle.compressed_writer.proofs.update.put_component_updates.Goals as goal

pub put_vector_updates-requires-clause-odd : goal.put_vector_updates-requires-clause-odd
put_vector_updates-requires-clause-odd c =
    range_odd c.args.from (c.args.from + c.args.n - c.args.from) c.args.before.now c.args.after.now c.requires.odd

pub returns-clause-puts : goal.returns-clause-puts
returns-clause-puts c =
    component_put c.args.i c.args.from c.args.n (c.args.from + c.args.n - c.args.from) c.args.before.now c.args.after.now c.args.encoder.now c.put_vector_updates.new.encoder
    c.requires.component c.requires.place (omega arith) c.requires.old_size c.requires.new_size c.in_ok-put_vector_updates.ensures.puts

pub returns-clause-spells : goal.returns-clause-spells
unfolding spelled_updates_from
returns-clause-spells c =
    let n : c.args.from + c.args.n - c.args.from ≡ c.args.n = omega arith in
    rw n at c.in_ok-put_vector_updates.ensures.spells
