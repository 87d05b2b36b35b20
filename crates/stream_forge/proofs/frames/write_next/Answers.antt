use Rattle.std.proofs.Common.{ap, subst, ◌∙◌, arith}
use Rattle.drawn_frames.specs.Heads.{draw_head}
use Rattle.stream_forge.specs.Code.{Gives}
use Rattle.stream_forge.proofs.DrawnReads.{gives_unsized}
use Rattle.stream_forge.proofs.Heads.{shown_after}
use Rattle.stream_forge.proofs.frames.write_next.Goals as goal

pub write_drawn-requires-clause-well : goal.write_drawn-requires-clause-well
write_drawn-requires-clause-well c = rw c.with_a_byte-header.ensures (rw c.in-Coded.is at (c.draw_head-head.ensures.well 1 (omega arith)))

pub write_drawn-requires-clause-can : goal.write_drawn-requires-clause-can
write_drawn-requires-clause-can c = rw c.with_a_byte-header.ensures (rw c.in-Coded.is at (c.draw_head-head.ensures.can 1))

pub returns-in-Coded-clause-gives : goal.returns-in-Coded-clause-gives
returns-in-Coded-clause-gives c = λ state stands.
    let first = c.args.first in
    let x = c.args.draws.x in
    let given = gives_unsized state c.draw_head-head.result.choices c.in-Coded.header c.draw_head-head.new.draws.x c.write_drawn.result.0 c.write_drawn.result.1.x (rw c.with_a_byte-header.ensures at (c.write_drawn.ensures state stands)) in
    subst (λ p. Gives state (draw_head first p x).0.choices (draw_head first p x).0.header (draw_head first p x).1 c.write_drawn.result.0 c.write_drawn.result.1.x) stands.persist
    (rw c.draw_head-head.ensures.drawn (rw c.in-Coded.is given))

pub returns-in-Ok-clause-after : goal.returns-in-Ok-clause-after
returns-in-Ok-clause-after c =
    shown_after c.args.first c.args.decoder.now.persist c.args.draws.x c.in-ShowExisting.slot c.requires.made (ap (λ p. p.0.header) c.draw_head-head.ensures.drawn ∙ c.in-ShowExisting.is)

pub returns-in-Err-clause-after : goal.returns-in-Err-clause-after
returns-in-Err-clause-after c =
    shown_after c.args.first c.args.decoder.now.persist c.args.draws.x c.in-ShowExisting.slot c.requires.made (ap (λ p. p.0.header) c.draw_head-head.ensures.drawn ∙ c.in-ShowExisting.is)
