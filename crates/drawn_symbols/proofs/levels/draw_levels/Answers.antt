use Rattle.drawn_symbols.specs.LevelDraws.{levels_of}
use Rattle.drawn_symbols.proofs.Places.{levels_can}
use Rattle.drawn_symbols.proofs.levels.draw_levels.Goals as goal

pub returns-clause-can : goal.returns-clause-can
returns-clause-can c = λ t is.
    let drawn = c.draw_in_order-levels in
    rw c.place_levels.ensures
    (levels_can t c.args.scan.now (levels_of drawn.result) c.args.values.now drawn.result.count drawn.ensures.counted is drawn.ensures.most c.requires.long c.requires.within c.requires.zeros drawn.ensures.levels)
