use Rattle.std.proofs.Common.{◌≤◌, ◌-◌, rules}
use Rattle.edge_io.proofs.Buffers.{rest_taken}
use Rattle.edge_io.proofs.buffered.Buffered.take.Goals as goal

pub returns-clause-rest : goal.returns-clause-rest
returns-clause-rest g c =
    let few : c.min-n.result ≤ c.args.self.now.to - c.args.self.now.from = search rules in
    rest_taken c.args.self.now.piece.items c.args.self.now.from c.args.self.now.to c.min-n.result few
