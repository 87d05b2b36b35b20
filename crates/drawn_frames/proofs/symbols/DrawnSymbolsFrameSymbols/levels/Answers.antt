use Rattle.prob_contexts.specs.ProbLists.{lists_of}
use Rattle.drawn_frames.proofs.symbols.DrawnSymbolsFrameSymbols.levels.Goals as goal

pub returns-clause-can : goal.returns-clause-can
returns-clause-can c = λ told. c.draw_block_levels.ensures.can (lists_of c.args.by.now.setting.contexts)
