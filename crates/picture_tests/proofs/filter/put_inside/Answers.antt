use Rattle.std.proofs.lemmas.List.Elements.{All-push}
use Rattle.std.proofs.Common.{◌≤◌}
use Rattle.vp9_tables.specs.BlockTables.{greatest_of}
use Rattle.vp9_tables.specs.Numbers.{tx_number}
use Rattle.picture_tests.proofs.filter.put_inside.Goals as goal

pub returns-then-block-cols-clause-fit : goal.returns-then-block-cols-clause-fit
returns-then-block-cols-clause-fit c =
    rw c.put.ensures (All-push (λ b. tx_number b.tx ≤ greatest_of b.size) c.args.grid.now.blocks c.args.block c.requires.fit c.requires.one)
