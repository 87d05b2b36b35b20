use Rattle.std.proofs.Common.{◌≡◌, length, rules}
use Rattle.edge_io.proofs.Prefixes.{fills_behind}
use Rattle.edge_io.proofs.prefixed.PrefixedSource.fill.Goals as goal

pub returns-then-self-eq0-clause-bytes : goal.returns-then-self-eq0-clause-bytes
returns-then-self-eq0-clause-bytes g c =
    let long : length c.args.self.now.front ≡ 4 = search rules in
    fills_behind c.args.self.now.front c.args.self.now.left _ _ _ c.fill.result c.if-self-eq0.true long c.fill.ensures.bytes
