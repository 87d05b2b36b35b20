-- What is told of what is drawn.
use Rattle.std.proofs.Common.{◌≡◌, true}
use Rattle.std.specs.Prelude.{Some, None, if◌then◌else◌}
use Rattle.frame_state.specs.Sources.{FrameSources}
use Rattle.drawn_symbols.specs.Draws.{Drawn, IsDrawn}
use Rattle.drawn_symbols.specs.declared.draws.Draws.{Draws}
use Rattle.drawn_frames.specs.FrameTests.{is_drawn_frame}
use Rattle.drawn_frames.specs.SymbolDraws.{drawn_of}
use Rattle.drawn_frames.specs.declared.symbols.DrawnSymbols.{DrawnSymbols}

pub told_drawn : {A : Type 0} (by : FrameSources) (s : Drawn A) (t : DrawnSymbols) (x : A) (new : Draws) → is_drawn_frame by.header ≡ true → IsDrawn s t.draws x new
    → drawn_of by s t ≡ Some (x, record { draws = new })
told_drawn by s t x new is drawn = rw is (λ i. Some ((drawn i).0, record { draws = record { x = (drawn i).1 } }))
