use Rattle.std.proofs.Common.{◌∙◌}
use Rattle.intra_predict.proofs.Slants.{d63_line}
use Rattle.intra_predict.proofs.diagonal.predict_d63.Goals as goal

pub returns : goal.returns
returns g c = λ i j below low. c.pairs_forward.ensures i j below low
    ∙ d63_line g.row.N c.args.above.now c.average.new.line c.smooth.new.line c.average.ensures.means c.smooth.ensures.means i j below low
