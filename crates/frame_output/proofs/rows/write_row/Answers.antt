use Rattle.std.proofs.Common.{◌∙◌, map}
use Rattle.frame_output.proofs.RowTexts.{bytes_are_text, pairs_are_text}
use Rattle.frame_output.proofs.rows.write_row.Goals as goal

pub returns-in-Eight : goal.returns-in-Eight
returns-in-Eight g c = rw c.in-Eight.is (c.write_bytes.ensures ∙ bytes_are_text (map g.P.Sample.value c.args.row.now))

pub returns-in-Ten : goal.returns-in-Ten
returns-in-Ten g c = c.write_pairs.ensures ∙ pairs_are_text c.args.depth (map g.P.Sample.value c.args.row.now) c.in-Ten.is
