use Rattle.std.proofs.Common.{◌∙◌, ap, sym}
use Rattle.loop_edges.specs.Code.{level_by}
use Rattle.loop_edges.proofs.ByKind.{level_is}
use Rattle.loop_edges.proofs.tables.EdgeTables.level.Goals as goal

pub returns-then-block-lt8 : goal.returns-then-block-lt8
returns-then-block-lt8 c = let t = c.args.self.now in let b = c.args.block.now in
    t.are_levels b.segment c.if-block-lt8.true c.kind_of.result c.kind_of.ensures.few
    ∙ (ap (level_by t.setting b.segment) c.kind_of.ensures.value ∙ sym (level_is t.setting b))
