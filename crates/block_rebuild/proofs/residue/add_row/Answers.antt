use Rattle.std.proofs.Common.{◌∙◌, length, map}
use Rattle.std.proofs.lemmas.List.{length-map}
use Rattle.planes.specs.Planes.{plane_map}
use Rattle.block_rebuild.proofs.Sums.{line_added}
use Rattle.block_rebuild.proofs.residue.add_row.Goals as goal

pub returns-clause-map : goal.returns-clause-map
returns-clause-map g c = let a = c.args in let value = g.P.Sample.value in
    c.row_mut-line.ensures.written (map value c.add_line.new.line) (length-map c.add_line.new.line value ∙ (c.add_line.auto.line ∙ c.row_mut-line.ensures.long))
    ∙ line_added (plane_map a.samples.now) a.row a.column (length a.residue.now) a.most a.residue.now (map value c.row_mut-line.result.now) (map value c.add_line.new.line)
    c.row_mut-line.ensures.value c.add_line.ensures
