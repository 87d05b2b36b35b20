use Rattle.std.proofs.Common.{◌≡◌, ◌∙◌, ap, false, true}
use Rattle.frame_close.specs.Code.{lent_result}
use Rattle.frame_close.proofs.Lent.{none_more}
use Rattle.frame_close.proofs.closing.wants_memory.Goals as goal

pub loop-column-preserved : goal.loop-column-preserved
loop-column-preserved c =
    none_more c.args.columns.now c.loop-column.column-index c.column-item.result c.loop-column-test.true c.loop-column.invariant
    (λ wants.
    let is : false ≡ true = c.if-is_starved.ensures.1 (ap lent_result c.column-item.is ∙ wants) in
    let no : ⊥ = cc in
    absurd no)
