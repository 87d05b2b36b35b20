use Rattle.bool_decoder.specs.Held.{window_of}
use Rattle.counting_reader.specs.Code.{standing_of}
use Rattle.counting_reader.proofs.Readers.{flag_counted_away}
use Rattle.counting_reader.proofs.reader.CountingReader.counted_bit_of.Goals as goal

pub returns : goal.returns
returns g c =
    flag_counted_away g.row.COUNTS c.args.kind c.args.place c.args.p (window_of c.args.self.now.decoder) (window_of c.args.decoder.now) _
    c.args.self.now.counts c.bit-one.result (standing_of c.count.new.self) c.bit-one.ensures.value c.bit-one.ensures.moves c.count.ensures
