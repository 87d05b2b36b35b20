use Rattle.std.proofs.Common.{true, false, sym, ◌∙◌}
use Rattle.bool_decoder.specs.Held.{window_of}
use Rattle.counting_reader.specs.Code.{standing_of}
use Rattle.counting_reader.proofs.Readers.{flag_counted_away}
use Rattle.counting_reader.proofs.reader.CountingReader.counted_branch_of.Goals as goal

pub returns-then-branch : goal.returns-then-branch
returns-then-branch g c =
    flag_counted_away g.row.COUNTS c.args.kind c.args.place c.args.p (window_of c.args.self.now.decoder) (window_of c.args.decoder.now) _
    c.args.self.now.counts true (standing_of c.count.new.self) (sym c.if-branch.true ∙ c.branch-decoder.ensures.value) c.branch-decoder.ensures.moves c.count.ensures

pub returns : goal.returns
returns g c =
    flag_counted_away g.row.COUNTS c.args.kind c.args.place c.args.p (window_of c.args.self.now.decoder) (window_of c.args.decoder.now) _
    c.args.self.now.counts false (standing_of c.count-2.new.self) (sym c.if-branch.false ∙ c.branch-decoder.ensures.value) c.branch-decoder.ensures.moves c.count-2.ensures
