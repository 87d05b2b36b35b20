use Rattle.std.proofs.Common.{◌-◌, ap, arith, sym, ◌∙◌}
use Rattle.bool_decoder.specs.Held.{window_of}
use Rattle.bool_decoder.proofs.Steps.{taken_clean, moves_one, moves_zero, value_one, border_is}
use Rattle.bool_decoder.proofs.decoder.BoolDecoder.bit.Goals as goal
use Rattle.bool_decoder.proofs.decoder.BoolDecoder.bit.Goals.{then-one, else-one}

pub doubled-requires-clause-clean : goal.doubled-requires-clause-clean
doubled-requires-clause-clean c =
    let d = c.supplied-ready.result in
    let border = border_is c.from-border.result c.split_of-split.result c.from-border.ensures (omega arith) in
    elim c.if-one.branch [
      | then-one w ↦
          rw (ap (λ p. p.0) w.window-is, border)
          (taken_clean d.window c.split_of-split.result d.count (omega arith) (omega arith) (rw border at w.if-one.true) d.clean)
      | else-one w ↦ rw (ap (λ p. p.0) w.window-is) d.clean
    ]

pub returns-clause-value : goal.returns-clause-value
unfolding window_of
returns-clause-value c =
    let d = c.supplied-ready.result in
    let border = border_is c.from-border.result c.split_of-split.result c.from-border.ensures (omega arith) in
    rw (border, sym c.supplied-ready.ensures.same)
    (value_one d.window d.count d.range c.args.p c.split_of-split.result d.rest.now (omega arith) (omega arith) (omega arith) c.split_of-split.ensures.is)

pub returns-clause-moves : goal.returns-clause-moves
unfolding window_of
returns-clause-moves c =
    let d = c.supplied-ready.result in
    let s = c.split_of-split.result in
    let border = border_is c.from-border.result s c.from-border.ensures (omega arith) in
    rw (sym c.supplied-ready.ensures.same) (
    c.doubled.ensures ∙ elim c.if-one.branch [
      | then-one w ↦ moves_one d.window d.count d.range c.args.p s _ _ d.rest.now (omega arith) (omega arith) (omega arith)
          c.split_of-split.ensures.is (rw border at w.if-one.true) (ap (λ p. p.0) w.window-is ∙ ap (λ n. d.window - n) border) (ap (λ p. p.1) w.window-is)
      | else-one w ↦ moves_zero d.window d.count d.range c.args.p s _ _ d.rest.now (omega arith) (omega arith) (omega arith)
          c.split_of-split.ensures.is (rw border at w.if-one.false) (ap (λ p. p.0) w.window-is) (ap (λ p. p.1) w.window-is)
    ])
