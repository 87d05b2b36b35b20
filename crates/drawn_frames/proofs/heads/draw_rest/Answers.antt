use Rattle.std.proofs.Common.{refl}
use Rattle.drawn_frames.proofs.Next.{of_kind}
use Rattle.drawn_frames.proofs.heads.draw_rest.Goals as goal

pub returns-clause-made : goal.returns-clause-made
returns-clause-made c = λ before start.
    let drawn = c.args.start.now in
    let kind = c.draw_kind-kind in
    record {
      profile = refl;
      reset = start.reset;
      size = start.size;
      kind = of_kind before c.draw_chance-resilient.result drawn.show_frame drawn.fields kind.result kind.result
          (kind.ensures.made before drawn.show_frame drawn.fields start.kind);
      contexts = c.draw_contexts-contexts.ensures.are;
      params = c.draw_params-params.ensures.made;
    }
