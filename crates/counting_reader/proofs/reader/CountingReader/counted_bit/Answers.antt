use Rattle.bool_decoder.specs.Held.{window_of}
use Rattle.counting_reader.proofs.Readers.{flag_counted}
use Rattle.counting_reader.proofs.reader.CountingReader.counted_bit.Goals as goal

pub returns : goal.returns
returns g c =
    flag_counted g.row.COUNTS c.args.kind c.args.place c.args.p (window_of c.args.self.now.decoder) _ c.args.self.now.counts c.bit-one.result _
    c.bit-one.ensures.value c.bit-one.ensures.moves c.count.ensures
