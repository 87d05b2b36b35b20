use Rattle.std.proofs.Common.{◌∙◌}
use Rattle.thread_tests.proofs.FilledPlane.{filled_by}
use Rattle.thread_tests.proofs.filled_bands.fill.Goals as goal

pub returns-clause-filled : goal.returns-clause-filled
returns-clause-filled c =
    filled_by c.area-area.result c.args.plane.now.area _ _ c.args.number c.deref.result.now c.area-area.ensures.value c.put_block.ensures.map
    (c.deref.ensures.value ∙ c.in_ok-block.ensures.items_if_clones_equal (λ y e. e))
