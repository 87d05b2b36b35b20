use Rattle.std.proofs.Common.{rules, ◌≡◌, ◌∙◌, get_or, map}
use Rattle.block_rebuild.proofs.Values.{put_after, put_before, put_here, value_at}
use Rattle.block_rebuild.proofs.residue.add_at.Goals as goal

pub returns-clause-value : goal.returns-clause-value
returns-clause-value g c =
    let old : c.widen.result ≡ get_or (map g.P.Sample.value c.args.line.now) c.args.k 0 =
    value_at g.P.Sample.value c.args.line.now c.args.k c.widen.result c.index-line-k.result c.requires.inside c.index-line-k.is c.widen.ensures in
    put_here g.P.Sample.value c.args.line.now c.args.k c.narrow.result c.requires.inside
    ∙ (c.narrow.ensures ∙ (c.with_residue-sum.ensures ∙ rw old (search rules)))

pub returns-clause-others : goal.returns-clause-others
returns-clause-others g c = put_before g.P.Sample.value c.args.line.now c.args.k c.narrow.result

pub returns-clause-rest : goal.returns-clause-rest
returns-clause-rest g c = put_after g.P.Sample.value c.args.line.now c.args.k c.narrow.result
