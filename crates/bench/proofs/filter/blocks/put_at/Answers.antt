use Rattle.std.proofs.Common.{◌≤◌}
use Rattle.std.proofs.lemmas.List.Elements.{All-push}
use Rattle.vp9_tables.specs.BlockTables.{greatest_of}
use Rattle.vp9_tables.specs.Numbers.{tx_number}
use Rattle.bench.proofs.filter.blocks.put_at.Goals as goal

pub returns-then-blocks-total-clause-fit : goal.returns-then-blocks-total-clause-fit
returns-then-blocks-total-clause-fit c =
    rw c.put.ensures (All-push (λ b. tx_number b.tx ≤ greatest_of b.size) c.args.grid.now.blocks c.block_at.result c.requires.fit c.block_at.ensures.fits)
