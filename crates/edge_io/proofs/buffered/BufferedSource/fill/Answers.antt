use Rattle.std.proofs.Common.{ap}
use Rattle.edge_io.proofs.Buffers.{filled}
use Rattle.edge_io.proofs.buffered.BufferedSource.fill.Goals as goal

pub returns-clause-bytes : goal.returns-clause-bytes
returns-clause-bytes g c =
    filled _ _ _ _ _ _ _ c.take.result c.in_ok-refill.ensures.kept c.in_ok-refill.ensures.some c.take.ensures.count c.take.ensures.room c.take.ensures.bytes c.take.ensures.rest
    (ap g.S.Source.rest c.take.ensures.source)
