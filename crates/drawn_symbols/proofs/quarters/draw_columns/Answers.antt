use Rattle.drawn_symbols.proofs.Sayings.{columns_can}
use Rattle.drawn_symbols.proofs.quarters.draw_columns.Goals as goal

pub returns-clause-can : goal.returns-clause-can
returns-clause-can c =
    rw c.symbols_of.ensures
    (columns_can c.args.best.now c.draw_filter-filter.result c.draw_quarter-q.result c.draw_quarter-r.result c.draw_filter-filter.ensures.named c.draw_quarter-q.ensures.can c.draw_quarter-r.ensures.can)
