use Rattle.std.proofs.Common.{◌∙◌}
use Rattle.filtered_rows.specs.Code.{map_in, width_in}
use Rattle.filtered_rows.proofs.Held.{rows_read, read_piece}
use Rattle.filtered_rows.proofs.frame.FilteredFrameSamples.rows.Goals as goal

pub rows-requires-clause-inside : goal.rows-requires-clause-inside
rows-requires-clause-inside g c = λ r low. let v = c.self.inside in let a = c.args in
    (rows_read g.M.Meaning.pictures v.shape v.frame v.first v.last c.filled_rows.result c.filled_rows-2.result c.min-row.result v.buffers.now c.index-self-row.result c.plane-samples.result.now a.plane a.y a.count a.self.now
    c.self.invariant.2 c.self.view_is c.requires.held c.self.invariant.0 c.self.invariant.1 c.filled_rows.ensures c.filled_rows-2.ensures c.min-row.ensures (c.if-row-end.true ∙ c.min-end.ensures) c.index-self-row.is c.plane-samples.ensures r low).there

pub returns-then-row-end : goal.returns-then-row-end
returns-then-row-end g c = let v = c.self.inside in let a = c.args in
    read_piece (map_in g.M.Meaning.pictures a.self.now a.plane) c.plane-samples.result.now (width_in g.M.Meaning.pictures a.self.now a.plane) a.y a.count _ _ c.requires.some
    (rows_read g.M.Meaning.pictures v.shape v.frame v.first v.last c.filled_rows.result c.filled_rows-2.result c.min-row.result v.buffers.now c.index-self-row.result c.plane-samples.result.now a.plane a.y a.count a.self.now
    c.self.invariant.2 c.self.view_is c.requires.held c.self.invariant.0 c.self.invariant.1 c.filled_rows.ensures c.filled_rows-2.ensures c.min-row.ensures (c.if-row-end.true ∙ c.min-end.ensures) c.index-self-row.is c.plane-samples.ensures)
    c.rows.ensures
