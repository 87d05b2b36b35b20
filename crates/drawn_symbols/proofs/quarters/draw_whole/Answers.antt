use Rattle.drawn_symbols.proofs.Sayings.{whole_can}
use Rattle.drawn_symbols.proofs.quarters.draw_whole.Goals as goal

pub returns-clause-can : goal.returns-clause-can
returns-clause-can c =
    rw c.symbols_of.ensures
    (whole_can c.args.best.now c.args.best.now.size c.draw_filter-filter.result c.draw_differences-q.result c.requires c.draw_filter-filter.ensures.named c.draw_differences-q.ensures.can)
