use Rattle.std.proofs.Common.{◌∙◌, sym, refl}
use Rattle.loop_edges.specs.FilterLevels.{filter_level}
use Rattle.loop_filter.specs.declared.plans.SuperblockPlans.{SuperblockPlans}
use Rattle.loop_filter.proofs.PlannedEdges.{is_on, both_added, luma_added}
use Rattle.loop_filter.proofs.plans.add_cells.Goals as goal

pub returns-then-has_chroma : goal.returns-then-has_chroma
returns-then-has_chroma c = let a = c.args in let f = a.f.now.setting in let y = c.planned-luma.ensures in let u = c.planned-chroma.ensures in
    let new : SuperblockPlans = record { luma = c.add.new.list; chroma = c.add-then-has_chroma.new.list } in
    both_added f a.at a.block.now c.planned-luma.result c.planned-chroma.result a.plans.now new (sym c.has_chroma.ensures ∙ c.if-has_chroma.true)
    (is_on (filter_level f a.block.now) a.level c.requires.level c.requires.filtered)
    (record { row = y.row; column = y.col; level = y.level ∙ c.requires.level; edges = y.edges })
    (record { row = u.row; column = u.col; level = u.level ∙ c.requires.level; edges = u.edges })
    c.add.ensures.count c.add.ensures.cells c.add-then-has_chroma.ensures.count c.add-then-has_chroma.ensures.cells

pub returns-else-has_chroma : goal.returns-else-has_chroma
returns-else-has_chroma c = let a = c.args in let f = a.f.now.setting in let y = c.planned-luma.ensures in
    let new : SuperblockPlans = record { luma = c.add.new.list; chroma = a.plans.now.chroma } in
    luma_added f a.at a.block.now c.planned-luma.result a.plans.now new (sym c.has_chroma.ensures ∙ c.if-has_chroma.false)
    (is_on (filter_level f a.block.now) a.level c.requires.level c.requires.filtered)
    (record { row = y.row; column = y.col; level = y.level ∙ c.requires.level; edges = y.edges }) c.add.ensures.count c.add.ensures.cells refl
