use Rattle.bool_decoder.specs.Held.{window_of}
use Rattle.counting_reader.proofs.Readers.{counts_on, counts_off}
use Rattle.counting_reader.proofs.reader.CountingReader.count_unary.Goals as goal

pub returns-then-not-this : goal.returns-then-not-this
returns-then-not-this g c = counts_off g.row.COUNTS _ (window_of c.args.self.now.decoder) c.args.self.now.counts c.if-not-this.true

pub returns : goal.returns
returns g c =
    counts_on g.row.COUNTS _ (window_of c.args.self.now.decoder) c.args.self.now.counts _ c.if-not-this.false c.count_unary.ensures
