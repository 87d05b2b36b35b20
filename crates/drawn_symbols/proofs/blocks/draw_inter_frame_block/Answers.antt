use Rattle.std.proofs.Common.{sym}
use Rattle.drawn_symbols.proofs.blocks.draw_inter_frame_block.Goals as goal

pub returns-clause-can : goal.returns-clause-can
returns-clause-can g c = λ least.
    rw (sym c.of.ensures, sym c.args.frame.now.setting.now.whole) (c.draw_from.ensures.can least)
