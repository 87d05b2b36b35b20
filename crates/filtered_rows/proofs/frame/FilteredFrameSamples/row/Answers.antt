use Rattle.std.proofs.Common.{◌∙◌, ap}
use Rattle.filtered_rows.proofs.Held.{row_read}
use Rattle.filtered_rows.proofs.frame.FilteredFrameSamples.row.Goals as goal

pub row-requires : goal.row-requires
row-requires g c = let v = c.self.inside in
    (row_read g.M.Meaning.pictures v.shape v.frame v.first v.last c.filled_rows.result c.min-row.result _ v.buffers.now c.index-self-row.result c.plane-samples.result.now c.args.plane c.args.y c.args.self.now
    c.self.invariant.2 c.self.view_is c.requires c.self.invariant.0 c.self.invariant.1 c.filled_rows.ensures c.min-row.ensures c.index-self-row.is c.plane-samples.ensures (ap (λ a. a.columns) c.area-columns.ensures.value)).there

pub returns : goal.returns
returns g c = let v = c.self.inside in
    c.row.ensures.value ∙ (row_read g.M.Meaning.pictures v.shape v.frame v.first v.last c.filled_rows.result c.min-row.result _ v.buffers.now c.index-self-row.result c.plane-samples.result.now c.args.plane c.args.y c.args.self.now
    c.self.invariant.2 c.self.view_is c.requires c.self.invariant.0 c.self.invariant.1 c.filled_rows.ensures c.min-row.ensures c.index-self-row.is c.plane-samples.ensures (ap (λ a. a.columns) c.area-columns.ensures.value)).is
