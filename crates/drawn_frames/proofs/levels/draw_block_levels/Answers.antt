use Rattle.drawn_frames.proofs.levels.draw_block_levels.Goals as goal

pub returns-clause-can : goal.returns-clause-can
returns-clause-can c = λ contexts. record {
  y = c.draw_plane.ensures.can contexts;
  u = c.draw_plane-2.ensures.can contexts;
  v = c.draw_plane-3.ensures.can contexts;
}
