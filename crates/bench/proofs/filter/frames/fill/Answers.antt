use Rattle.std.proofs.Common.{◌∙◌, map}
use Rattle.std.proofs.lemmas.List.{length-map}
use Rattle.bench.proofs.Draws.{row_drawn}
use Rattle.bench.proofs.filter.frames.fill.Goals as goal

pub loop-y-preserved : goal.loop-y-preserved
loop-y-preserved g c = let i = c.loop-y.invariant in record {
  area = i.area;
  small = row_drawn 255 _ _ _ _ _ (map g.P.Sample.value c.draw_row-state.new.line) i.small c.draw_row-state.ensures.small
      (c.row_mut-line.ensures.written (map g.P.Sample.value c.draw_row-state.new.line)
      (length-map c.draw_row-state.new.line g.P.Sample.value ∙ c.draw_row-state.ensures.long ∙ c.row_mut-line.ensures.long));
}
